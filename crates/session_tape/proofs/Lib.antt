pub mod RowLemmas
pub mod ListLemmas
pub mod StopLemmas
pub mod RunLemmas
pub mod PrintLemmas
pub mod WalkLemmas
pub mod OpenLemmas
pub mod EndLemmas
