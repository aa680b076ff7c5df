pub mod Fees
pub mod Worked
