pub mod Picked
pub mod Placings
pub mod Served
pub mod Shelves
pub mod Turns
