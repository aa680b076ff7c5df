pub mod RangeLemmas
pub mod GivenLemmas
pub mod OpenLemmas
pub mod CourseLemmas
pub mod StepLemmas
pub mod FeedLemmas
pub mod ReadingLemmas
