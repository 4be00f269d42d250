pub mod Limits
pub mod Fields
pub mod Facts
pub mod FirstFault
pub mod Refusals
pub mod Needs
pub mod Building
pub mod Nameless
pub mod Reading
pub mod Backward
pub mod Feeding
pub mod Feed
pub mod Stanzas
pub mod Repository
pub mod Meeting
pub mod Interning
pub mod Ranks
pub mod Select
pub mod Pairs
pub mod Goals
pub mod Laws
pub mod GoalRefusals
pub mod NameOrder
pub mod Picking
-- named here too, so that attributes that cite them fit in a line
pub use Rattle.repo_model.specs.{Facts.{architecture_of}, FirstFault.{value_fault}}
