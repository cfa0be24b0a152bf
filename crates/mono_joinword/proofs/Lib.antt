mod SeatLemmas
mod RunnerStepLemmas
mod CompletionLemmas
mod JoinerStepLemmas
mod JoinerSeatLemmas
mod LawLemmas
