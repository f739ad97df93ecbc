pub mod Book
pub mod Begins
pub mod Claims
pub mod History
pub mod Openings
pub mod Beginnings
pub mod Handovers
pub mod Readings
