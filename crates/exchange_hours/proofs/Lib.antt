pub mod GridLemmas
pub mod NextLemmas
pub mod TextLemmas
pub mod ReadingLemmas
pub mod SessionsLie
