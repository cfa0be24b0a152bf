pub mod Beginnings
pub mod CountLemmas
pub mod DeliveryLemmas
pub mod Interleaving
pub mod LineLemmas
pub mod PlaceLemmas
pub mod PollLemmas
pub mod Weights
