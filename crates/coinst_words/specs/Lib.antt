pub mod Given
pub mod Jobs
pub mod Parsed
pub mod Program
pub mod Refusals
pub mod Usage
pub mod Words
