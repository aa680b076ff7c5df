pub mod PlacingLemmas
pub mod ServedLemmas
pub mod TurnLemmas
