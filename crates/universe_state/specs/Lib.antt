pub mod Active
pub mod Choice
pub mod Different
pub mod Entries
pub mod Refused
pub mod Sample
