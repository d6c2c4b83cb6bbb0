pub mod Findings
pub mod Sides
pub mod Buffers
pub mod Splices
pub mod Decimals
