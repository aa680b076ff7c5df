pub mod Files
pub mod Least
pub mod Paths
pub mod Parts
pub mod Worked
