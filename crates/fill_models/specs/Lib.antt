pub mod FillPrice
pub mod Worked
