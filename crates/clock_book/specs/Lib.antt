pub mod Books
pub mod Submits
pub mod Matches
pub mod Handled
pub mod Fitting
pub mod Seen
pub mod InRange
pub mod Worked
