pub mod Readings
pub mod ReadBacks
