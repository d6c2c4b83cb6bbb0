pub mod Cells
pub mod Barren
pub mod Admission
pub mod Faults
pub mod Judged
pub mod Sources
