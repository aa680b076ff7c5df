pub mod Heads
pub mod Slices
pub mod Rising
pub mod Stands
pub mod Stays
pub mod Seen
