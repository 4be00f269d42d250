pub mod Ends
pub mod Follows
pub mod Kernels
pub mod Meaning
pub mod Readings
pub mod Runs
pub mod Noted
pub mod Telling
pub mod QueryMeant
pub mod StoredKernels
pub mod SampleMeaning
pub mod Sizes
pub mod OneCore
pub mod ExplainMeant
mod LineWords
mod Prints
pub mod CompareMeant
pub mod GoingOn
pub mod Given
pub mod Migrating
pub mod MigrateMeant
pub mod OneInstallation
pub mod StoredMeant
pub mod SystemReports
pub mod SystemLines
pub mod SystemMeant
pub mod Sentences
pub mod AnswerMeant
pub mod QuerySentences
pub mod ExplainSentence
pub mod MigrateSentence
pub mod StatusSentence
-- named here too, so that an attribute that cites it fits in a line
pub use Rattle.std.proofs.Common.{append_assoc}
