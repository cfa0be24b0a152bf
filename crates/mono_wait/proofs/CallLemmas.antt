-- Each park of one call finds its tasks waiting.
use Rattle.std.proofs.Common.{◌≡◌, ℕ, Bool, false, List, [], ◌++◌, subst, append-nil}
use Rattle.std.specs.Prelude.{⊤}
use Rattle.mono_task.specs.Members.{FutureOf, SharedOf}
use Rattle.mono_machine.specs.Machine.{Machine}
use Rattle.mono_machine.specs.Watches.{Source}
use Rattle.mono_machine.specs.declared.events.TurnStep.{TurnStep}
use Rattle.mono_machine.specs.declared.events.End.TheVariants as end
use Rattle.mono_machine.specs.declared.events.Report.{Report}
use Rattle.mono_rt.specs.Stores.{Store, with_future}
use Rattle.mono_rt.specs.FuturePolls.{TellsTurn, PollsMain}
use Rattle.mono_rt.specs.declared.contexts.Cx.{Cx}
use Rattle.mono_rt.specs.declared.parts.journals.Entry.{Entry}
use Rattle.mono_wait.specs.PendingTurns.{LeavesWaiting}
use Rattle.mono_wait.specs.CallWaits.{WaitsInCall}
use Rattle.mono_wait.proofs.ParkLemmas.{waiting}

module _ {F O P U W J A V : Type 0} (number : O → ℕ) (sharing : SharedOf W) (future : FutureOf F (Cx F O P U W J A V) O) (needs : F → Source → Type 0) (has_timers : Bool)
    (leaves : (m : Machine) (store : Store F W) (reading : ℕ) (steps : List TurnStep) (answer : Report) (left : Store F W)
    → TellsTurn number sharing future has_timers m store reading steps end.Pending answer left → LeavesWaiting (λ f. future.is_spent f ≡ false) needs m store.futures left.futures steps answer) where
  pub call_waits : (first : F) (store left : Store F W) (old new : Machine) (part : List Entry) → ((rest : List Entry) → PollsMain number sharing future has_timers first store left old (part ++ rest) new rest)
      → WaitsInCall number sharing future needs has_timers first store old part
  call_waits first store left old new part polls =
      by_parts (subst (λ xs. PollsMain number sharing future has_timers first store left old xs new []) (append-nil part) (polls []))
    where
      by_parts : PollsMain number sharing future has_timers first store left old part new [] → WaitsInCall number sharing future needs has_timers first store old part
      by_parts (t, (mid, (more, (spawn, polling)))) = record {
        main = t;
        spawned = mid;
        more = more;
        spawn = spawn;
        waits = λ reading u x.
            waiting number sharing future needs has_timers leaves u x more ⊥ mid (with_future store first) reading
            (λ none. absurd none) (polling (λ n. tt) reading);
      }
