pub mod Window
pub mod Kept
pub mod Recent
pub mod Sample
