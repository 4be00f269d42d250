pub mod Complete
pub mod StoredAgrees
