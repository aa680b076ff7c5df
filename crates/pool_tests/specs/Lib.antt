pub mod Scripts
pub mod Each
pub mod Places
