pub mod AnswerLemmas
pub mod LoopLemmas
pub mod RaceListLemmas
pub mod CanPollLemmas
pub mod SendLemmas
pub mod MessageFoldLemmas
