pub mod PrintedLemmas
pub mod WrittenLemmas
