pub mod Refusing
pub mod References
pub mod Bounds
pub mod Fitted
pub mod Laying
