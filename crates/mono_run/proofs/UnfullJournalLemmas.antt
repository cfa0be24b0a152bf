-- The journal of a script's run is not full, since each turn has fewer acts than make it full.
use Rattle.std.proofs.Common.{◌≡◌, ℕ, Bool, true, false, length, Option, Some, None, inl, inr, refl, ap, sym, ◌∙◌, subst, arith}
use Rattle.std.specs.Prelude.{⊤}
use Rattle.mono_model.specs.declared.Ended.{Ended}
use Rattle.mono_model.specs.declared.poll.Poll.{Poll}
use Rattle.mono_model.specs.declared.poll.Poll.TheVariants.{Ready, Pending}
use Rattle.mono_model.specs.Table.{value_at}
use Rattle.mono_task.specs.Members.{FutureOf}
use Rattle.mono_machine.specs.Machine.{Machine}
use Rattle.mono_machine.specs.declared.events.End.{End}
use Rattle.mono_rt.specs.Refinement.{hosting_of, Matches, MatchesValid}
use Rattle.mono_rt.specs.Reaches.{sharing_nothing}
use Rattle.mono_rt.specs.Turns.{AfterPoll, Polls, UnlessSpent, Runs}
use Rattle.mono_rt.specs.JournalRoom.{LongTurn, Fills}
use Rattle.mono_rt.specs.declared.contexts.Cx.{Cx}
use Rattle.mono_rt.specs.declared.parts.journals.Journal.{Journal}
use Rattle.mono_run.specs.TaskPolls.{PollsTask, GrewAtMost, most_acts}
use Rattle.mono_run.specs.declared.tasks.ScriptTask.{ScriptTask}
use Rattle.mono_run.proofs.FewActsLemmas.{no_act}

true-false : true ≡ false → ⊥
true-false e = cc

module _ {P U J A V : Type 0} (future : FutureOf ScriptTask (Cx ScriptTask ℕ P U ⊤ J A V) ℕ) (unspent : (f : ScriptTask) → future.is_spent f ≡ false)
    (polls : (f : ScriptTask) (c : Cx ScriptTask ℕ P U ⊤ J A V) (answer : Poll ℕ) (left : ScriptTask) (d : Cx ScriptTask ℕ P U ⊤ J A V) → future.polls f c answer left d → PollsTask f c answer left d)
    (cancels : (f : ScriptTask) (c d : Cx ScriptTask ℕ P U ⊤ J A V) → future.cancels f c d → d ≡ c) where
  -- nothing is added after the poll, since nothing is owed
  after_poll : (t : ℕ) (left : ScriptTask) (ended : Ended) (c d : Cx ScriptTask ℕ P U ⊤ J A V) (answer : Poll ℕ) → AfterPoll (λ n. n) sharing_nothing future answer t left ended c d → d.parts.acts ≡ c.parts.acts
  after_poll t left ended c d Pending (paid, (pays, pauses)) = pauses.parts.acts ∙ ap (λ x. x.parts.acts) (pays.paying.idle refl)
  after_poll t left ended c d (Ready output) (e, gives_up, on, (paid, (pays, done))) = done.parts.acts ∙ ap (λ x. x.parts.acts) (pays.paying.idle refl ∙ cancels left c e gives_up)

  of_polls : (t : ℕ) (f : ScriptTask) (e : End) (ended : Ended) (c d : Cx ScriptTask ℕ P U ⊤ J A V) → Polls (λ n. n) sharing_nothing future t f e ended c d → GrewAtMost most_acts c.parts.acts d.parts.acts
  of_polls t f e ended c d p = subst (λ r. GrewAtMost most_acts c.parts.acts r) (sym (after_poll t p.left ended p.middle d p.answer p.rest)) (polls f c p.answer p.left p.middle p.polled).few

  unless_spent : (s : Bool) (t : ℕ) (f : ScriptTask) (e : End) (ended : Ended) (c d : Cx ScriptTask ℕ P U ⊤ J A V) → s ≡ false → UnlessSpent (λ n. n) sharing_nothing future s t f e ended c d → GrewAtMost most_acts c.parts.acts d.parts.acts
  unless_spent true t f e ended c d not runs = absurd (true-false not)
  unless_spent false t f e ended c d not runs = of_polls t f e ended c d runs

  few_in_turn : (v : Option ScriptTask) (t : ℕ) (e : End) (ended : Ended) (c d : Cx ScriptTask ℕ P U ⊤ J A V) → Runs (λ n. n) sharing_nothing future v t e ended c d → GrewAtMost most_acts c.parts.acts d.parts.acts
  few_in_turn None t e ended c d (is, (paid, (pays, pauses))) = no_act most_acts c.parts.acts d.parts.acts (pauses.parts.acts ∙ ap (λ x. x.parts.acts) (pays.paying.idle refl))
  few_in_turn (Some f) t e ended c d runs = unless_spent (future.is_spent f) t f e ended c d (unspent f) runs

  no_long_turn : (c d : Cx ScriptTask ℕ P U ⊤ J A V) (m : Machine) → Matches (λ n. n) hosting_of c.parts m → LongTurn (λ n. n) sharing_nothing future c d → ⊥
  no_long_turn c d m st long =
      let (is, more) = long.acts m st in
      let begun = long.turn.begun in
      omega (
        arith,
        more,
        ap length is.kept.0,
        few_in_turn (value_at c.futures.items long.task) long.task long.ending long.ended begun d long.turn.runs,
        ap (λ r. length r.steps) long.turn.begins.parts.acts_are,
      )

  pub never_full : (c : Cx ScriptTask ℕ P U ⊤ J A V) (j k : Journal) (m : Machine) → MatchesValid (λ n. n) hosting_of c.parts m → j.is_full ≡ false → Fills (λ n. n) sharing_nothing future c j k → k.is_full ≡ false
  never_full c j k m st unfull fills = by k.is_full refl
    where
      by : (b : Bool) → k.is_full ≡ b → k.is_full ≡ false
      by false is = is
      by true is = absurd (elim (fills.filled is) [
        | inl full ↦ true-false (sym full ∙ unfull)
        | inr filled ↦
            let went = filled.went.went m st in
            no_long_turn filled.before filled.after went.new went.matches.matches filled.long
      ])
