pub mod Printed
pub mod Lines
pub mod Ended
pub mod Written
