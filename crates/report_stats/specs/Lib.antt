pub mod Stands
pub mod Pieces
