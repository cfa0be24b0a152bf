pub mod TaskInboxLemmas
pub mod TimersLemmas
pub mod FireLemmas
pub mod MatchLemmas
pub mod ProgressLemmas
pub mod OrderLemmas
pub mod OneSummaryLemmas
