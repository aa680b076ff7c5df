pub mod OnlyLemmas
pub mod OpenLemmas
pub mod StandLemmas
pub mod TookLemmas
