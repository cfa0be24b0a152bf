pub mod LaunchLemmas
pub mod WaitLemmas
pub mod WorldLemmas
pub mod TrialLemmas
pub mod TurnLemmas
pub mod ThreadLemmas
