pub mod Dates
pub mod Rows
pub mod Reading
pub mod Written
