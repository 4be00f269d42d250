pub mod Parts
pub mod Index
