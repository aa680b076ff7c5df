pub mod Ranks
pub mod Moves
pub mod Extremes
pub mod Hears
pub mod EachWindow
pub mod Lookback
pub mod Together
