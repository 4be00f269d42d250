pub mod Shifted
pub mod LaterFields
pub mod Faultless
pub mod Joined
pub mod Mixed
pub mod MixedFacts
pub mod BothMixes
pub mod Parted
pub mod AnyDependent
pub mod OwnHome
pub mod Told
pub mod Planned
pub mod Made
pub mod Refusing
pub mod Checked
pub mod Pairwise
pub mod Deciding
pub mod Named
pub mod Taken
pub mod Flagged
mod Passing
mod Reusing
