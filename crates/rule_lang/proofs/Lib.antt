pub mod Runs
pub mod Scanned
pub mod Chains
pub mod Numbers
pub mod OverCloses
pub mod Added
