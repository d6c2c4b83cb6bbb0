pub mod Offered
pub mod Growing
pub mod Reaching
pub mod Inhabitants
pub mod Labels
pub mod Judging
pub mod Sources
