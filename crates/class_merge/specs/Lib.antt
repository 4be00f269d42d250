pub mod Laws
pub mod Classes
pub mod Masks
pub mod Grouping
