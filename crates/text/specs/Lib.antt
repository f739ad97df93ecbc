pub mod Ascii
pub mod Numbers
pub mod Lines
pub mod Fields
pub mod Groups
