pub mod BeginLemmas
pub mod DropLemmas
pub mod HandledLemmas
pub mod LinkLemmas
pub mod OwedLemmas
pub mod ReplyLemmas
pub mod ServingLemmas
