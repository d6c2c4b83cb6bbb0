pub mod Answered
pub mod Loops
pub mod Pairs
pub mod WordsOf
