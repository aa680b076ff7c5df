pub mod Fills
pub mod Ledger
pub mod Closings
pub mod Worked
