pub mod Reasons
pub mod Coarse
pub mod Given
pub mod Taken
pub mod Fits
