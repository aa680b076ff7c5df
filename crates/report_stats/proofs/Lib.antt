pub mod DrawdownLemmas
pub mod HoldingLemmas
