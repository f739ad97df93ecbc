-- `Laws`, `Nearest` and `Cases` are for the crates above; the rest is how they and the functions are proved.
mod Rounding
mod Ints
mod Values
mod Products
mod Bits
mod Patterns
mod Quotients
mod Trimming
pub mod Laws
pub mod Nearest
pub mod Cases
