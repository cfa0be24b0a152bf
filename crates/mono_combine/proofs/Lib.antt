pub mod FailureLemmas
pub mod SelectLemmas
pub mod ListLemmas
mod TryListLemmas
mod RoundLemmas
mod ListEndLemmas
pub mod ScanLemmas
mod SuccessLemmas
pub mod GivesLemmas
pub mod PollFnLemmas
