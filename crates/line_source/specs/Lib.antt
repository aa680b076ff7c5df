pub mod Lines
pub mod Raw
pub mod Reader
pub mod Written
