pub mod OrderLemmas
pub mod KeptLemmas
pub mod PlaceLemmas
pub mod BarLemmas
pub mod TriesLemmas
pub mod StandsLemmas
pub mod HoursLemmas
pub mod ServesLemmas
