pub mod Closure
pub mod Marks
pub mod Form
pub mod Derives
pub mod Tree
pub mod SearchTree
pub mod Laws
pub mod Local
