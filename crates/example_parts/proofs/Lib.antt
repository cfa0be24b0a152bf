mod DelayLemmas
mod DeadlinePollLemmas
mod RaceLemmas
mod NestPollLemmas
mod DeadlineLemmas
