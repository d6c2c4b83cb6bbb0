pub mod Asking
pub mod Writing
pub mod Settling
pub mod Reasons
pub mod Answering
