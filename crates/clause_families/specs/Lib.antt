pub mod Unions
pub mod Inclusion
pub mod Branches
pub mod Families
pub mod Counting
pub mod Laws
