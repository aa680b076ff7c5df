pub mod ErrandLemmas
pub mod FollowLemmas
pub mod HomeLemmas
