pub mod Again
pub mod Held
pub mod Leaves
pub mod Feed
pub mod Few
