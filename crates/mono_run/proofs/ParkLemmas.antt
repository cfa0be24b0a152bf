-- The entries of one call on a new runtime, with its parks.
use Rattle.std.proofs.Common.{◌≡◌, ℕ, List, [], ◌++◌, Option, None, sym, ap, subst, ◌∙◌, append-nil}
use Rattle.mono_time.specs.Timers.{registered_of}
use Rattle.mono_machine.specs.Machine.{Machine}
use Rattle.mono_blocking.specs.JobSpawns.{Seen}
use Rattle.mono_rt.specs.Refinement.{hosting_of, MatchesValid}
use Rattle.mono_rt.specs.Journals.{Does, Registers}
use Rattle.mono_rt.specs.declared.parts.state.Parts.{Parts}
use Rattle.mono_rt.specs.declared.parts.journals.Entry.{Entry}
use Rattle.mono_rt.specs.declared.parts.journals.Journal.{Journal}
use Rattle.mono_rt.proofs.RegistrationLemmas.{same_ticks}
use Rattle.mono_run.specs.RunRecord.{ParksSo}

-- The entries after an empty history are in the relation, and if no sleep was registered, the parks are those of the
-- wheel.
pub parked_of : {O P : Type 0} (number : O → ℕ) (R : Machine → List Entry → Machine → List Entry → Type 0) (c d : Parts O (Seen P)) (j k l : Journal) (m : Machine)
    → MatchesValid number hosting_of c m → j.history.entries ≡ [] → l ≡ k → ((s : ℕ) → registered_of c.timers s ≡ None) → Does number R c d j k
    → (new : Machine) × (R m l.history.entries new [] × ParksSo m l.history.entries new)
parked_of number R c d j k l m st empty same none does =
    let did = does.did m st in
    let went = did.went in
    let left = registered_of d.timers in
    let bare : went.part ≡ l.history.entries = sym (ap (λ x. x.history.entries) same ∙ went.grew ∙ ap (λ xs. xs ++ went.part) empty) in
    let part : went.part ++ [] ≡ l.history.entries = append-nil went.part ∙ bare in (
      went.new,
      (
        subst (λ xs. R m xs went.new []) part (did.is []),
        (left, subst (λ xs. Registers None m (λ s. None) xs went.new left) bare (same_ticks None m (λ s. None) (registered_of c.timers) went.part went.new left (λ s. sym (none s)) went.registers)),
      ),
    )
