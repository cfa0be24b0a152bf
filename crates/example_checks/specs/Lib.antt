pub mod WholeCalls
pub mod WholeAnswers
pub mod WholeExamples
pub mod ReadingRanges
pub mod LeftCalls
pub mod Outputs
