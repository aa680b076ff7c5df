pub mod Buying
pub mod Worked
