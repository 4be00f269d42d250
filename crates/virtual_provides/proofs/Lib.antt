pub mod Built
pub mod Meeting
