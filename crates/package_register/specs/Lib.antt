pub mod Numbers
pub mod Hashed
pub mod Registers
