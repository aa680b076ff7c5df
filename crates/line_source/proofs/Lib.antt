pub mod RawLemmas
pub mod BufferLemmas
pub mod LawLemmas
