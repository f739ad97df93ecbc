-- Wishes in units, one carrier in a cycle, and all of them.
pub mod Numbers
pub mod Drives
pub mod Cycles
pub mod Ready
pub mod Converting
pub mod Making
pub mod Turns
pub mod Moving
