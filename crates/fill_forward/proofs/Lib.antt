pub mod BetweenLemmas
pub mod GivenLemmas
pub mod NumberLemmas
pub mod AgainLemmas
pub mod FeedLemmas
