pub mod ClassTable
pub mod Cutting
pub mod EqualKeys
pub mod KeySteps
pub mod Numbers
pub mod PieceSteps
pub mod TellingKeys
pub mod TotalOrder
pub mod Weights
pub mod VersionSteps
-- named here too, so that an attribute that cites it fits in a line
pub use Rattle.std.proofs.Common.{append_assoc}
