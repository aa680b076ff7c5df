pub mod CrewLemmas
pub mod EachLemmas
pub mod HandLemmas
pub mod RunLemmas
