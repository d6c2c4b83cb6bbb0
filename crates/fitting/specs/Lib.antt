pub mod Faults
pub mod Fittable
pub mod Marks
pub mod Fitting
