mod MoreGoals
pub mod Rows
