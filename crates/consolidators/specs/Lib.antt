pub mod Buckets
pub mod Pushed
pub mod Given
pub mod Left
pub mod Stands
pub mod Joined
pub mod Sample
