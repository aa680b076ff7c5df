pub mod Words
pub mod EventLines
pub mod Reading
