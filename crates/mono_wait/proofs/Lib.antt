pub mod RegistrationLemmas
pub mod TurnLemmas
pub mod ParkLemmas
mod CallLemmas
pub mod WatcherLemmas
mod PlaceLemmas
pub mod FoundLemmas
