pub mod Texts
pub mod Grammar
pub mod Fields
pub mod Spelling
pub mod Refusals
pub mod Meeting
pub mod Shared
pub mod Elements
pub mod Codes
-- named here too, so that an attribute that cites it fits in a line
pub use Rattle.relation_fields.specs.Grammar.{behind_qualifier}
