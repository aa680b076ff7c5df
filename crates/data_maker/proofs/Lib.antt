pub mod Names
pub mod Ranges
pub mod Walking
pub mod Putting
