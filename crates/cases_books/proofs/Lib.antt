mod Plainly
mod ByStages
mod Refuted
