pub mod FileTableLemmas
pub mod ReadingSteps
pub mod ScheduleLemmas
