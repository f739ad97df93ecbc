-- `Laws` is all that the crates above may use; the rest is how it is proved.
mod Integers
mod Motion
mod Stopping
mod Pair
mod Totals
pub mod Laws
