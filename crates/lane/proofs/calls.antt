-- What a call gives, and what it keeps.
pub mod Answers
pub mod Coded
pub mod Writing
pub mod Texts
pub mod Read
pub mod Handing
pub mod Runs
pub mod Entering
pub mod Leaving
pub mod Order
pub mod Openings
pub mod Keeps
pub mod Left
