pub mod InRange
pub mod Minutes
pub mod Numbers
pub mod Turns
pub mod SoFar
pub mod Heard
pub mod Between
pub mod Rising
