pub mod SeenLemmas
pub mod LearntLemmas
pub mod RangeLemmas
