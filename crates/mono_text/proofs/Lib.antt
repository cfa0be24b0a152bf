pub mod EnvironmentLemmas
pub mod ListTextLemmas
pub mod SpellingLemmas
pub mod TurnPartLemmas
pub mod PrefixLemmas
pub mod DigitLemmas
pub mod InputLineLemmas
pub mod NumberLemmas
pub mod ServiceLemmas
pub mod CallLemmas
pub mod FirstByteLemmas
pub mod DigitCountLemmas
pub mod FollowLemmas
pub mod EventPartLemmas
mod WordEndLemmas
