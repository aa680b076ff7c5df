pub mod Walk
pub mod Texts
pub mod MadeFiles
pub mod MadeState
