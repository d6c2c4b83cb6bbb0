pub mod Limits
pub mod Faults
pub mod RowText
pub mod Reading
pub mod Writing
pub mod Calls
