pub mod Chains
pub mod Holds
pub mod Lengths
pub mod OnLiterals
pub mod PlanHolds
pub mod TextLemmas
