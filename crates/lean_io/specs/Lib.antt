pub mod Told
pub mod Whole
pub mod Counts
pub mod MemSink
pub mod MemFolder
pub mod DirHand
pub mod StdSink
