mod GreatestLemmas
pub mod WholeCallLemmas
pub mod WholeAnswerLemmas
mod WholeExampleLemmas
pub mod ReadingRangeLemmas
pub mod LeftCallLemmas
pub mod NumberTextLemmas
pub mod OutputLemmas
pub mod LineLemmas
pub mod ReplayLemmas
pub mod CheckLemmas
pub mod WrongCheckLemmas
pub mod RunLemmas
pub mod LoadLemmas
pub mod SleepingLoadLemmas
pub mod SessionLemmas
pub mod LimiterLemmas
pub mod ActorLemmas
pub mod NoCommandLemmas
pub mod BadLineLemmas
pub mod SpentRunLemmas
pub mod FinishedRunLemmas
