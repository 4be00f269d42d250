pub mod Plain
pub mod Tails
pub mod Thins
pub mod Standing
pub mod Ending
pub mod Settling
pub mod Reached
pub mod Midways
pub mod MovedSteps
pub mod FirstPlace
pub mod Again
mod Behind
mod Descent
mod Limits
pub mod Classes
pub mod Unheld
