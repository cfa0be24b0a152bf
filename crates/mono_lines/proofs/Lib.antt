pub mod ServiceLemmas
pub mod ReportSpellingLemmas
pub mod ReportReadingLemmas
pub mod JournalLineLemmas
pub mod CheckLemmas
mod ReportTurnLemmas
pub mod SessionSpellingLemmas
pub mod SessionAnswerLemmas
pub mod LimiterClockLemmas
pub mod LimiterSpellingLemmas
pub mod ActorSpellingLemmas
pub mod ActorFeedLemmas
pub mod ActorTurnLemmas
pub mod ActorCallLemmas
pub mod ActorRunLemmas
