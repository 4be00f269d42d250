pub mod Installed
pub mod Own
pub mod Report
pub mod Laws
pub mod States
