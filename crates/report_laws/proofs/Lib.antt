pub mod Steps
pub mod CompleteJobs
pub mod StoredAgrees
