-- Turns of futures that make no task spawn none.
use Rattle.std.specs.Prelude.{⊤, Option, Some, None}
use Rattle.std.proofs.Common.{◌≡◌, length, sym, ◌∙◌, arith}
use Rattle.std.proofs.lemmas.List.{get_or_past}
use Rattle.mono_model.specs.Table.{value_at}
use Rattle.mono_task.specs.Members.{FutureOf}
use Rattle.mono_rt.specs.Views.{work_in}
use Rattle.mono_rt.specs.Reaches.{IsAligned}
use Rattle.mono_rt.specs.Pollable.{AddsPollable, SpawnsPollable}
use Rattle.mono_rt.specs.declared.contexts.Cx.{Cx}
use Rattle.mono_quiet.specs.Numbers.{MakesNone, PollsMakeNone, CancelsMakeNone}
use Rattle.mono_quiet.specs.Handles.{next_without_outputs}

none_some : {X : Type 0} (v : Option X) (x : X) → v ≡ None → v ≡ Some x → ⊥
none_some v x none some = cc

module _ {F O P U W J A V : Type 0} (can_poll : F → Type 0) where
  -- the numbers of tasks and of futures agree, and stayed
  adds_none : (c d : Cx F O P U W J A V) → IsAligned c → IsAligned d → MakesNone work_in c d → AddsPollable can_poll c.futures.items d.futures.items
  adds_none c d at_c at_d none = λ t f past at. absurd (none_some (value_at d.futures.items t) f (get_or_past d.futures.items t None (omega (arith, past, long))) at)
    where
      long : length d.futures.items ≡ length c.futures.items
      long = at_d ∙ sym (next_without_outputs d.parts.tasks.tasks) ∙ none ∙ next_without_outputs c.parts.tasks.tasks ∙ sym at_c

module _ {F O P U W J A V : Type 0} (future : FutureOf F (Cx F O P U W J A V) O) where
  pub spawns_none : PollsMakeNone work_in future → CancelsMakeNone work_in future → SpawnsPollable future ⊤
  spawns_none polls cancels = record {
    polls = λ f g answer c d at_c at_d unspent able polled. adds_none future.can_poll c d (at_c tt) (at_d tt) (polls f c answer g d polled);
    cancels = λ f g output c d e at_d at_e able polled cancelled. adds_none future.can_poll d e (at_d tt) (at_e tt) (cancels g d e cancelled);
  }
