pub mod Entry
pub mod DailyFile
pub mod DailyTape
pub mod Head
pub mod Source
pub mod Steps
pub mod Whole
pub mod Endings
