pub mod Faults
pub mod Showing
pub mod Drafts
pub mod Drawing
pub mod Questions
