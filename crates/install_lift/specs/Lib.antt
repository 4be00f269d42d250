pub mod Chains
pub mod Waiting
pub mod Raising
pub mod Trimming
pub mod Lifting
pub mod Laws
