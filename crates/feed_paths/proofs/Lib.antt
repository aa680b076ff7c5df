pub mod RangeLemmas
pub mod FileLemmas
pub mod PathLemmas
