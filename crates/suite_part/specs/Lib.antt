pub mod Left
pub mod Laws
pub mod BaseRows
pub mod Back
pub mod Bases
pub mod Mixes
pub mod Small
pub mod Renewed
