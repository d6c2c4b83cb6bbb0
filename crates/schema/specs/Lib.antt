pub mod Rules
pub mod Theorems
pub mod Published
pub mod Fitting
pub mod Worked
