pub mod Lookups
pub mod OneMore
pub mod Marking
pub mod Symbols
pub mod Joining
