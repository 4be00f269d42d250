pub mod Bearers
