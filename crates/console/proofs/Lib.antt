-- `Run` is the theorem over the whole output. Before it stand the laws behind it and behind the functions: printing, reading, wishes, steps.
mod Printing
mod Showing
mod Room
mod Lines
mod Entries
mod Wishing
mod Steps
pub mod Calls
pub mod Called
pub mod Run
pub mod RunHistory
pub mod Answered
