pub mod Session
pub mod Shown
pub mod Whole
pub mod Walked
pub mod Reports
