pub mod BookLemmas
pub mod PaidLemmas
pub mod PriceLemmas
pub mod HeldLemmas
pub mod AccountLemmas
