-- What only the private functions of the reader in parts cite; its meaning and its promise stand in format.
pub mod Steps
