pub mod Numbered
pub mod Numbers
pub mod Hashes
pub mod Registered
