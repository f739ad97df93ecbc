-- What documents 01 and 02 say of wishes and readings, as definitions.
pub mod Rounding
pub mod Units
pub mod Trimming
pub mod Reading
pub mod Cases
