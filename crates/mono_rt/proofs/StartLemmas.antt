-- The history of one call on a new runtime, from the clauses of the runtime's call.
use Rattle.std.proofs.Common.{◌≡◌, ◌∙◌, ◌++◌, ℕ, Bool, List, [], Option, None, refl, ap, sym, subst, inl, append-nil, Err}
use Rattle.std.specs.Prelude.{Result}
use Rattle.mono_task.specs.Members.{FutureOf, SharedOf}
use Rattle.mono_time.specs.Timers.{registered_of}
use Rattle.mono_blocking.specs.declared.strategy.BlockingHandle.{BlockingHandle}
use Rattle.mono_blocking.specs.JobSpawns.{Seen, strategy_of}
use Rattle.mono_machine.specs.Machine.{Machine, start_machine}
use Rattle.mono_machine.specs.declared.events.Limits.{Limits}
use Rattle.mono_rt.specs.Journals.{Does, Registers}
use Rattle.mono_rt.specs.Numbering.{answer_numbered}
use Rattle.mono_rt.specs.Rounds.{Blocked}
use Rattle.mono_rt.specs.Stores.{Store, first_store}
use Rattle.mono_rt.specs.FuturePolls.{OnMain, PollsMain, OnLack, StillPollsMain}
use Rattle.mono_rt.specs.Refinement.{hosting_of, MatchesValid}
use Rattle.mono_rt.specs.DriverReadings.{Told, going, TellingSo, IsTold}
use Rattle.mono_rt.specs.declared.contexts.Cx.{Cx}
use Rattle.mono_rt.specs.declared.parts.errors.RunError.{RunError}
use Rattle.mono_rt.specs.declared.parts.errors.RunError.TheVariants as error
use Rattle.mono_rt.specs.declared.parts.journals.Entry.{Entry}
use Rattle.mono_rt.specs.declared.parts.journals.Journal.{Journal}
use Rattle.mono_rt.specs.declared.parts.state.Parts.{Parts}
use Rattle.mono_rt.proofs.RoundLemmas.{Relation}
use Rattle.mono_rt.proofs.RegistrationLemmas.{same_ticks}
use Rattle.mono_rt.proofs.FuturePollLemmas.{polls_whole, still_whole}
use Rattle.mono_rt.proofs.DriverLemmas.{told_in, unfailed}
use Rattle.mono_rt.specs.Starts.{RunsFrom}

-- the same limits and the same pool
pub same_start : {P : Type 0} (l k : Limits) (p q : BlockingHandle P) → l ≡ k → p ≡ q → start_machine l (strategy_of p) ≡ start_machine k (strategy_of q)
same_start l k p q limits pool = ap (λ x. start_machine x (strategy_of p)) limits ∙ ap (λ x. start_machine k (strategy_of x)) pool

-- The entries after an empty history are in the relation, and their parks are those of the wheel, if no sleep was registered.
parks_of : {O P : Type 0} (number : O → ℕ) (R : Relation) (c d : Parts O (Seen P)) (j k : Journal) (m : Machine) → MatchesValid number hosting_of c m → j.history.entries ≡ [] → ((s : ℕ) → registered_of c.timers s ≡ None) → Does number R c d j k
    → (new : Machine) × (R m k.history.entries new [] × Registers None m (λ s. None) k.history.entries new (registered_of d.timers))
parks_of number R c d j k m st empty none does =
    let did = does.did m st in
    let part : did.went.part ≡ k.history.entries = sym (did.went.grew ∙ ap (λ xs. xs ++ did.went.part) empty) in (
      did.went.new,
      (
        subst (λ xs. R m xs did.went.new []) (append-nil did.went.part ∙ part) (did.is []),
        subst (λ xs. Registers None m (λ s. None) xs did.went.new (registered_of d.timers)) part
            (same_ticks None m (λ s. None) (registered_of c.timers) did.went.part did.went.new (registered_of d.timers) (λ s. sym (none s)) did.went.registers),
      ),
    )

module _ {F O P U W J A V : Type 0} (number : O → ℕ) (sharing : SharedOf W) (future : FutureOf F (Cx F O P U W J A V) O) where
  -- no runtime could be made
  pub none_made : (h : Bool) (turns : ℕ) (main : F) (m : Machine) (w : W) (t : Told) → RunsFrom number sharing future h turns main (Err error.Memory) m w t
  none_made h turns main m w t = record {
    part = [];
    new = m;
    blocked = inl (refl, refl);
    left = λ s. None;
    parks = (refl, λ s. refl);
    told = record { last = t; after = going; new = t; ends = inl (unfailed going refl, refl); tells = (refl, refl) };
    polled = tt;
    still_polled = (m, (first_store w, inl (refl, refl)));
  }

  pub runs_from : (g h : Bool) (turns : ℕ) (main : F) (w : W) (fs gs : Store F W) (answer : Result O RunError) (m n : Machine) (s t u : Told) (c d : Parts O (Seen P)) (j k : Journal) → g ≡ h → m ≡ n → s ≡ t → fs ≡ first_store w
      → MatchesValid number hosting_of c m → j.history.entries ≡ [] → ((x : ℕ) → registered_of c.timers x ≡ None)
      → Does number (Blocked g turns (answer_numbered number answer)) c d j k → TellingSo answer s j k u → OnMain answer (Does number (PollsMain number sharing future g main fs gs) c d j k) → OnLack answer (Does number (StillPollsMain number sharing future g main fs gs) c d j k) → RunsFrom number sharing future h turns main answer n w t
  runs_from g h turns main w fs gs answer m n s t u c d j k timers machine told none st empty unregistered does tells polls still =
      let b = parks_of number (Blocked g turns (answer_numbered number answer)) c d j k m st empty unregistered does in
      let blocked = subst (λ x. Blocked x turns (answer_numbered number answer) m k.history.entries b.0 []) timers b.1.0 in
      record {
        part = k.history.entries;
        new = b.0;
        blocked = subst (λ x. Blocked h turns (answer_numbered number answer) x k.history.entries b.0 []) machine blocked;
        left = registered_of d.timers;
        parks = subst (λ x. Registers None x (λ y. None) k.history.entries b.0 (registered_of d.timers)) machine b.1.1;
        told = subst (λ x. IsTold answer x k.history.entries) told (told_in k empty refl tells);
        polled = polls_whole number sharing future main w g h fs gs c d j k k m n answer timers none machine st empty refl polls;
        still_polled = still_whole number sharing future main w g h fs gs c d j k k m n answer timers none machine st empty refl still;
      }
