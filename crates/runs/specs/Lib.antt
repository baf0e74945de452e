-- What the program writes, and what the functions that cut its input into lines are stated with.
pub mod Program
