pub mod Passing
pub mod Ranks
pub mod Selected
pub mod Sample
