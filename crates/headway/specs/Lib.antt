pub mod Motion
pub mod Stopping
pub mod Wishes
pub mod Totals
