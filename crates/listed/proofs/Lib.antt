pub mod Bools
pub mod Lists
pub mod Orders
pub mod Numbers
