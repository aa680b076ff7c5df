pub mod FirstRows
pub mod Sorting
pub mod Differing
