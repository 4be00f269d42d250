pub mod Names
pub mod Grammar
pub mod Order
pub mod Keys
pub mod Refusals
