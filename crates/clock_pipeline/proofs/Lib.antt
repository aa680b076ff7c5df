pub mod LaneLemmas
pub mod ReplyLemmas
pub mod ReachLemmas
pub mod FeedLemmas
pub mod KeepLemmas
pub mod WorldLemmas
pub mod BacktestLemmas
pub mod StepLemmas
