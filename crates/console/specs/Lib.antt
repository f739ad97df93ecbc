-- What document 01 says of the program's input and output, as definitions.
pub mod Limits
pub mod Blocks
pub mod Output
pub mod Program
pub mod History
