-- The rest of the turn after a line.
use Rattle.std.proofs.Common.{◌≡◌, ℕ, Bool, true, false, List, ◌∷◌, Option, Some, None, refl, ap, sym, ◌∙◌, subst}
use Rattle.std.specs.Prelude.{⊤}
use Rattle.mono_rt.specs.declared.contexts.Cx.{Cx}
use Rattle.mono_run.specs.declared.scripts.body.BodyLine.{BodyLine}
use Rattle.mono_run.specs.ScriptTurns.{Place, place, turn_from, stops_at, with_handle, sleep_steps}
use Rattle.mono_run.specs.Segments.{Rest, Goes, if_over, next_if, next_behind, sleep_line, behind_line}
use Rattle.mono_run.specs.declared.tasks.Own.{Own}
use Rattle.mono_run.specs.declared.tasks.ScriptTask.{ScriptTask}
use Rattle.mono_run.proofs.SegmentLemmas.{goes_on, goes_to}

abbrev pub slept : Own → Option ℕ → Own
slept own sleeping = record { tasks = own.tasks; jobs = own.jobs; sleeping = sleeping }

-- the task waits for its own sleep at the line that made it
abbrev pub waits_for : List BodyLine → ℕ → Own → Rest → Option ℕ → Rest
waits_for left o own f h = with_handle h (λ s u. sleep_steps s (place left o own.tasks own.jobs (Some s)) f u) f

same_wait : (left : List BodyLine) (o : ℕ) (own : Own) (f : Rest) (h : Option ℕ) → with_handle h (λ s q. sleep_steps s (place left o own.tasks own.jobs h) f q) f ≡ waits_for left o own f h
same_wait left o own f None = refl
same_wait left o own f (Some s) = refl

over_at : (b : Bool) (f : Rest) (h k : Place) → (b ≡ false → k ≡ h) → if_over b f h ≡ if_over b f k
over_at true f h k same = refl
over_at false f h k same = ap stops_at (sym (same refl))

module _ {P U J A V : Type 0} (task : ScriptTask) where
  -- a sleep that was made, and its first poll
  pub slept_line : (c mid d : Cx ScriptTask ℕ P U ⊤ J A V) (deadline : Option ℕ) (left : List BodyLine) (o : ℕ) (own new : Own) (h : Option ℕ) (f : Rest) (over : Bool)
      → Goes task (sleep_line deadline left o own f) (waits_for left o own f h) c mid
      → ((here : Place) → Goes task (with_handle h (λ s q. sleep_steps s here f q) f) (if_over over f here) mid d)
      → new ≡ slept own new.sleeping → (over ≡ false → new.sleeping ≡ h)
      → Goes task (sleep_line deadline left o own f) (if_over over f (place left o new.tasks new.jobs new.sleeping)) c d
  slept_line c mid d deadline left o own new h f over first second is still =
      goes_on task _ (waits_for left o own f h) _ c mid d first
      (goes_to task _ _ _ mid d
      (over_at over f (place left o own.tasks own.jobs h) (place left o new.tasks new.jobs new.sleeping) (λ early. ap (λ x. place left o x.tasks x.jobs new.sleeping) is ∙ ap (place left o own.tasks own.jobs) (still early)))
      (subst (λ g. Goes task g (if_over over f (place left o own.tasks own.jobs h)) mid d) (same_wait left o own f h) (second (place left o own.tasks own.jobs h))))

  -- a line that waits for its sleep
  pub behind_sleep : (c d : Cx ScriptTask ℕ P U ⊤ J A V) (line : BodyLine) (left : List BodyLine) (me t o : ℕ) (own new : Own) (g : Rest) (over : Bool) → new ≡ slept own new.sleeping
      → Goes task g (if_over over (turn_from left me t o own.tasks own.jobs) (place left o new.tasks new.jobs new.sleeping)) c d → Goes task g (behind_line (next_behind over) line left me t o new) c d
  behind_sleep c d line left me t o own new g true is goes = goes_to task g _ _ c d (ap (λ x. turn_from left me t o x.tasks x.jobs) (sym is)) goes
  behind_sleep c d line left me t o own new g false is goes = goes

  -- a line that waits for a task or job of an earlier line
  pub behind_wait : (c d : Cx ScriptTask ℕ P U ⊤ J A V) (line : BodyLine) (left : List BodyLine) (me t o : ℕ) (own : Own) (g : Rest) (over : Bool) → own.sleeping ≡ None
      → Goes task g (if_over over (turn_from left me t o own.tasks own.jobs) (place (line ∷ left) o own.tasks own.jobs None)) c d → Goes task g (behind_line (next_if over) line left me t o own) c d
  behind_wait c d line left me t o own g true rests goes = goes
  behind_wait c d line left me t o own g false rests goes = goes_to task g _ _ c d (ap (λ s. stops_at (place (line ∷ left) o own.tasks own.jobs s)) (sym rests)) goes
