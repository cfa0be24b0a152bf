use Rattle.mono_rt.proofs.ReadingLemmas.{hands_in_once, parks_once}
use Rattle.mono_rt.proofs.parts.laws.a_pause_hands_in_or_parks.Goals as goal

pub returns-clause-queued : goal.returns-clause-queued
returns-clause-queued c = hands_in_once

pub returns-clause-idle : goal.returns-clause-idle
returns-clause-idle c = parks_once
