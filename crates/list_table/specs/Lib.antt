pub mod Lists
pub mod Hash
pub mod Parts
pub mod Index
