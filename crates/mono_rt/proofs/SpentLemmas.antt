-- A turn of a future that is spent.
use Rattle.std.proofs.Common.{◌≡◌, ℕ, Bool, true, List, Some, ap, sym, subst, ◌∙◌}
use Rattle.std.specs.Prelude.{◌++◌, Option}
use Rattle.mono_model.specs.Table.{value_at}
use Rattle.mono_task.specs.Members.{FutureOf, SharedOf}
use Rattle.mono_rt.specs.Payments.{wakes_of}
use Rattle.mono_rt.specs.SpentFutures.{RestsIfSpent}
use Rattle.mono_rt.specs.Turns.{UnlessSpent, Runs}
use Rattle.mono_rt.specs.declared.contexts.Cx.{Cx}

module _ {F O P U W J A V : Type 0} (number : O → ℕ) (sharing : SharedOf W) (future : FutureOf F (Cx F O P U W J A V) O) where
  pub rests_if_spent : (f : F) → future.is_spent f ≡ true → RestsIfSpent number sharing future f
  rests_if_spent f spent has_timers lasts m store left reading steps e answer tells at =
      let turn = tells.turn in
      let found : value_at tells.before.futures.items tells.task ≡ Some f = ap (λ xs. value_at xs tells.task) tells.had ∙ at in
      let ran : UnlessSpent number sharing future (future.is_spent f) tells.task f e tells.ended turn.begun tells.after =
      subst (λ x. Runs number sharing future x tells.task e tells.ended turn.begun tells.after) found turn.runs in
      let rests : UnlessSpent number sharing future true tells.task f e tells.ended turn.begun tells.after =
      subst (λ s. UnlessSpent number sharing future s tells.task f e tells.ended turn.begun tells.after) spent ran in
      let pays = rests.1.1.0 in (
        rests.0,
        sym tells.acts ∙ ap (λ acts. acts.steps) rests.1.1.1.parts.acts ∙ pays.paying.parts.grew ∙ ap (λ acts. acts.steps ++ pays.paying.parts.steps) turn.begins.parts.acts_are ∙ pays.wakes
            ∙ ap (λ w. wakes_of (sharing.owes w)) (turn.begins.shared ∙ tells.found),
      )
