-- The answers to all lines are one run.
use Rattle.std.proofs.Common.{ℕ, Bool, List, [], ◌∷◌, ◌++◌, refl, subst, sym}
use Rattle.mono_actor.specs.Actors.{Actors}
use Rattle.mono_actor.specs.Calls.{Call}
use Rattle.mono_actor.specs.Answers.{Answer}
use Rattle.mono_actor.specs.Answers as answer
use Rattle.mono_actor.specs.Steps.{Run}
use Rattle.mono_lines.specs.declared.actor.words.Handed.{Handed}
use Rattle.mono_lines.specs.declared.actor.words.ActorLine.{ActorLine}
use Rattle.mono_lines.specs.declared.actor.words.ActorLine.TheVariants as line
use Rattle.mono_lines.specs.ActorAnswers.{Makes}
use Rattle.mono_lines.specs.ActorRuns.{calls_made, AreOneRun}

then_run : (old : Actors ℕ) (calls : List (Call ℕ)) (answers : List (Answer ℕ)) (mid : Actors ℕ) (later_calls : List (Call ℕ)) (later : List (Answer ℕ)) (new : Actors ℕ)
    → Run old calls answers mid → Run mid later_calls later new → Run old (calls ++ later_calls) (answers ++ later) new
then_run old [] [] mid later_calls later new run more = subst (λ m. Run m later_calls later new) run more
then_run old [] (a ∷ answers) mid later_calls later new run more = absurd run
then_run old (c ∷ calls) [] mid later_calls later new run more = absurd run
then_run old (c ∷ calls) (a ∷ answers) mid later_calls later new run more = (run.0, run.1, then_run run.0 calls answers mid later_calls later new run.2 more)

turn_run : (old : Actors ℕ) (sends : List Handed) (stop : Bool) (first : Answer ℕ) (others : List (Answer ℕ)) (new : Actors ℕ)
    → Makes old (line.Turn sends stop) first others new → Run old (calls_made (line.Turn sends stop) first) (first ∷ others) new
turn_run old sends stop (answer.Turn me what) others new m = (m.0, m.1, m.2)
turn_run old sends stop (answer.Refused error) others new m = subst (λ o. Run old (calls_made (line.Turn sends stop) (answer.Refused error)) (answer.Refused error ∷ o) new) (sym m.2.0) (m.0, m.1, m.2.1)
turn_run old sends stop (answer.Actor a) others new m = absurd m.2
turn_run old sends stop (answer.Posted what) others new m = absurd m.2
turn_run old sends stop answer.Done others new m = absurd m.2
turn_run old sends stop (answer.Ended how) others new m = absurd m.2
turn_run old sends stop (answer.Due due) others new m = absurd m.2
turn_run old sends stop answer.Invalid others new m = absurd m.2

line_run : (old : Actors ℕ) (asked : ActorLine) (first : Answer ℕ) (others : List (Answer ℕ)) (new : Actors ℕ) → Makes old asked first others new → Run old (calls_made asked first) (first ∷ others) new
line_run old line.Actor first others new m = subst (λ o. Run old (calls_made line.Actor first) (first ∷ o) new) (sym m.1) (new, m.0, refl)
line_run old (line.Send from to message) first others new m = subst (λ o. Run old (calls_made (line.Send from to message) first) (first ∷ o) new) (sym m.1) (new, m.0, refl)
line_run old (line.Timeout actor ms) first others new m = subst (λ o. Run old (calls_made (line.Timeout actor ms) first) (first ∷ o) new) (sym m.1) (new, m.0, refl)
line_run old (line.Clock n) first others new m = subst (λ o. Run old (calls_made (line.Clock n) first) (first ∷ o) new) (sym m.1) (new, m.0, refl)
line_run old (line.Turn sends stop) first others new m = turn_run old sends stop first others new m

pub one_run : AreOneRun
one_run old [] [] last all = ([], [], all, (refl, refl))
one_run old [] (text ∷ texts) last all = absurd all
one_run old (asked ∷ lines) [] last all = absurd all
one_run old (asked ∷ lines) (text ∷ texts) last all =
    let a = all.1 in
    let rest = one_run all.0 lines texts last all.2 in (
      calls_made asked a.first ++ rest.0,
      a.first ∷ a.others ++ rest.1,
      then_run old (calls_made asked a.first) (a.first ∷ a.others) all.0 rest.0 rest.1 last (line_run old asked a.first a.others all.0 a.makes) rest.2,
      (a.first, a.others, rest.0, rest.1, refl, refl, a.text_is, rest.3),
    )
