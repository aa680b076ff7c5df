pub mod Errands
pub mod Homes
pub mod Seats
pub mod Shown
