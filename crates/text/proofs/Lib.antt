-- `Laws`, of what is put, `ReadLaws`, of what is read, and `GroupLaws`, of groups of numbers put and read, are all that the crates above may use; the
-- rest is how they are proved.
mod Digits
mod Examples
mod Reading
pub mod Laws
pub mod ReadLaws
pub mod GroupLaws
