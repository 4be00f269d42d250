pub mod Tails
pub mod Laws
pub mod Extracting
pub mod Moving
pub mod Known
