-- What the program writes, and what the functions that take its lines are stated with.
pub mod Program
