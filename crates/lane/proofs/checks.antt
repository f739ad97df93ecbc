-- The words of a lane, its rules and the checks of the calls.
pub mod Records
pub mod Surfaces
pub mod Tables
pub mod TableTexts
pub mod Soundness
pub mod Faults
pub mod Gaps
pub mod Checks
pub mod Spans
