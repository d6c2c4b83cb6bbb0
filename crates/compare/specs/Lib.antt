pub mod Questions
pub mod Facing
pub mod Reports
pub mod Reasons
pub mod Comparing
pub mod Layers
