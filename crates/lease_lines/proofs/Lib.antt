pub mod SpellingLemmas
pub mod ReplyLemmas
