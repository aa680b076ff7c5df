pub mod CallLemmas
pub mod PhaseLemmas
