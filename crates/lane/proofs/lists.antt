-- Facts on lists, places and words that know of no rule.
pub mod Lists
pub mod Shift
pub mod Tests
pub mod Passed
pub mod Search
pub mod Lookups
pub mod Words
