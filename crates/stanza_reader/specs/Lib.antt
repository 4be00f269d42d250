pub mod Close
pub mod Blanking
pub mod Lines
pub mod Fields
pub mod Note
pub mod Places
pub mod Reading
pub mod Stanzas
