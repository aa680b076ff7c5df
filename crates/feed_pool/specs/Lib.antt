pub mod Crews
pub mod Each
pub mod Lists
pub mod Running
