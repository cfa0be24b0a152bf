-- One more call on a runtime.
use Rattle.std.proofs.Common.{◌≡◌, ℕ, Bool, List, [], ◌∷◌, ◌++◌, refl, ap, sym, subst, ◌∙◌, append_assoc, Result}
use Rattle.std.proofs.lemmas.List.{append-nil}
use Rattle.mono_machine.specs.Machine.{Machine, start_machine}
use Rattle.mono_machine.specs.declared.events.Limits.{Limits}
use Rattle.mono_machine.specs.declared.events.Blocking.{Blocking}
use Rattle.mono_rt.specs.Rounds.{Blocked}
use Rattle.mono_rt.specs.Views.{Blocks, Refines, is_timed}
use Rattle.mono_rt.specs.declared.runtimes.Runtime.{Runtime}
use Rattle.mono_rt.specs.declared.parts.errors.RunError.{RunError}
use Rattle.mono_rt.specs.declared.parts.journals.Entry.{Entry}
use Rattle.example_checks.specs.WholeCalls.{Call, Calls, IsWholeJournal}
use Rattle.example_checks.specs.LeftCalls.{called, history_of, Leaves}
use Rattle.example_checks.proofs.WholeCallLemmas.{whole_calls_pass}

-- a call behind others
calls_more : (t : Bool) (calls : List Call) (c : Call) (old mid new : Machine) (part left rest : List Entry)
    → Calls t calls old part mid left → Blocked t c.turns c.answer mid left new rest → Calls t (calls ++ c ∷ []) old part new rest
calls_more t [] c old mid new part left rest (is, same) last =
    (new, (rest, (subst (λ xs. Blocked t c.turns c.answer old xs new rest) (sym is) (subst (λ m. Blocked t c.turns c.answer m left new rest) same last), (refl, refl))))
calls_more t (first ∷ calls) c old mid new part left rest (next, (more, (is, others))) last = (next, (more, (is, calls_more t calls c next mid new more left rest others last)))

module _ {F O D P W U J A V : Type 0} (number : O → ℕ) (turns : ℕ) (answer : Result O RunError) (old new : Runtime F O D P W U J A V) where
  pub leaves_more : (limits : Limits) (strategy : Blocking) (calls : List Call) → Blocks number turns answer old new → is_timed new ≡ is_timed old → Leaves number limits strategy calls old
      → Leaves number limits strategy (calls ++ called number turns answer ∷ []) new
  leaves_more limits strategy calls blocks timers left =
      let did = blocks.did left.machine left.refines in
      record {
        machine = did.went.new;
        entries = λ rest. subst (λ t. Calls t (calls ++ called number turns answer ∷ []) (start_machine limits strategy) (history_of new ++ rest) did.went.new rest) (sym timers)
            (subst (λ xs. Calls (is_timed old) (calls ++ called number turns answer ∷ []) (start_machine limits strategy) xs did.went.new rest)
            (sym (ap (λ xs. xs ++ rest) did.went.grew ∙ append_assoc (history_of old) did.went.part rest))
            (calls_more (is_timed old) calls (called number turns answer) (start_machine limits strategy) left.machine did.went.new (history_of old ++ (did.went.part ++ rest)) (did.went.part ++ rest) rest
            (left.entries (did.went.part ++ rest)) (did.is rest)));
        refines = did.went.matches;
      }

module _ {F O D P W U J A V : Type 0} (number : O → ℕ) where
  pub leaves_whole : (limits : Limits) (strategy : Blocking) (calls : List Call) (r : Runtime F O D P W U J A V) → Leaves number limits strategy calls r → IsWholeJournal (start_machine limits strategy) calls (history_of r)
  leaves_whole limits strategy calls r left =
      let are : Calls (is_timed r) calls (start_machine limits strategy) (history_of r) left.machine [] =
      subst (λ xs. Calls (is_timed r) calls (start_machine limits strategy) xs left.machine []) (append-nil (history_of r)) (left.entries [])
      in
      whole_calls_pass limits strategy (is_timed r) calls (history_of r) left.machine are

  pub leaves_none : (limits : Limits) (strategy : Blocking) (r : Runtime F O D P W U J A V) → Refines number r (start_machine limits strategy) → history_of r ≡ [] → Leaves number limits strategy [] r
  leaves_none limits strategy r refines none = record { machine = start_machine limits strategy; entries = λ rest. (ap (λ xs. xs ++ rest) none, refl); refines = refines }
