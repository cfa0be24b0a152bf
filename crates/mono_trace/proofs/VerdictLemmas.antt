-- There is one verdict.
use Rattle.std.proofs.Common.{◌≡◌, refl, ap, subst, ℕ, ◌+◌, zero, suc, List, [], ◌∷◌, length, sym, arith}
use Rattle.mono_machine.specs.Machine.{Machine}
use Rattle.mono_machine.specs.Steps.{Run}
use Rattle.mono_machine.specs.declared.events.Event.{Event}
use Rattle.mono_machine.specs.declared.events.Report.{Report}
use Rattle.mono_machine.proofs.DeterminismLemmas.{one_machine}
use Rattle.mono_machine.specs.Steps.{Step}
use Rattle.mono_trace.specs.Verdicts.{FailsAt, IsVerdict, IsNoStep, OneVerdict, RunsArePassed}
use Rattle.mono_trace.specs.declared.Verdict.{Verdict}
use Rattle.mono_trace.specs.declared.Verdict.TheVariants.{Yes, No}

-- a run fails nowhere
run_fails_not : (place : ℕ) (events : List Event) (answers : List Report) (old new : Machine) → Run old events answers new → FailsAt place old events answers → ⊥
run_fails_not zero [] [] old new run fails = fails
run_fails_not zero [] (a ∷ rs) old new run fails = fails
run_fails_not zero (e ∷ es) [] old new run fails = fails
run_fails_not zero (e ∷ es) (a ∷ rs) old new (mid, step, run) fails = fails mid step
run_fails_not (suc place) [] [] old new run fails = fails
run_fails_not (suc place) [] (a ∷ rs) old new run fails = fails
run_fails_not (suc place) (e ∷ es) [] old new run fails = fails
run_fails_not (suc place) (e ∷ es) (a ∷ rs) old new (mid, step, run) (other, also, fails) =
    run_fails_not place es rs mid new run (subst (λ m. FailsAt place m es rs) (one_machine old e a other mid also step) fails)

-- it fails at one place
one_place : (place other : ℕ) (events : List Event) (answers : List Report) (old : Machine) → FailsAt place old events answers → FailsAt other old events answers → place ≡ other
one_place zero zero events answers old fails also = refl
one_place zero (suc other) [] [] old fails also = absurd also
one_place zero (suc other) [] (a ∷ rs) old fails also = absurd also
one_place zero (suc other) (e ∷ es) [] old fails also = absurd also
one_place zero (suc other) (e ∷ es) (a ∷ rs) old fails (mid, step, also) = absurd (fails mid step)
one_place (suc place) zero [] [] old fails also = absurd also
one_place (suc place) zero [] (a ∷ rs) old fails also = absurd also
one_place (suc place) zero (e ∷ es) [] old fails also = absurd also
one_place (suc place) zero (e ∷ es) (a ∷ rs) old (mid, step, fails) also = absurd (also mid step)
one_place (suc place) (suc other) [] [] old fails also = absurd also
one_place (suc place) (suc other) [] (a ∷ rs) old fails also = absurd also
one_place (suc place) (suc other) (e ∷ es) [] old fails also = absurd also
one_place (suc place) (suc other) (e ∷ es) (a ∷ rs) old (mid, step, fails) (next, there, also) =
    ap suc (one_place place other es rs mid fails (subst (λ m. FailsAt other m es rs) (one_machine old e a next mid there step) also))

pub one_verdict : OneVerdict
one_verdict events answers old Yes Yes right also = refl
one_verdict events answers old Yes (No other) right also = absurd (run_fails_not other events answers old right.0 right.1 also)
one_verdict events answers old (No place) Yes right also = absurd (run_fails_not place events answers old also.0 also.1 right)
one_verdict events answers old (No place) (No other) right also = ap No (one_place place other events answers old right also)

pub runs_are_passed : RunsArePassed
runs_are_passed events answers old new Yes run right = refl
runs_are_passed events answers old new (No place) run right = absurd (run_fails_not place events answers old new run right)

-- ---- a verdict on what is left
-- the verdict on the whole, of which so many pairs are passed
abbrev pub later : ℕ → Verdict → Verdict
later i Yes = Yes
later i (No place) = No (i + place)

abbrev pub next_place : Verdict → Verdict
next_place Yes = Yes
next_place (No place) = No (suc place)

later_next : (i : ℕ) (v : Verdict) → later i (next_place v) ≡ later (i + 1) v
later_next i Yes = refl
later_next i (No place) = ap No (omega arith)

verdict_next : (e : Event) (es : List Event) (a : Report) (rs : List Report) (m mid : Machine) (v : Verdict) → Step m e a mid → IsVerdict mid es rs v → IsVerdict m (e ∷ es) (a ∷ rs) (next_place v)
verdict_next e es a rs m mid Yes step (new, run) = (new, (mid, step, run))
verdict_next e es a rs m mid (No place) step fails = (mid, step, fails)

-- The verdict on the whole, by the verdict on the rest, one pair on.
pub passed_on : (start m mid : Machine) (events : List Event) (answers : List Report) (i : ℕ) (left rest : List Event) (told others : List Report) (e : Event) (a : Report)
    → left ≡ e ∷ rest → told ≡ a ∷ others → Step m e a mid
    → ((v : Verdict) → IsVerdict m left told v → IsVerdict start events answers (later i v))
    → (v : Verdict) → IsVerdict mid rest others v → IsVerdict start events answers (later (i + 1) v)
passed_on start m mid events answers i left rest told others e a left_is told_is step so_far v right =
    subst (IsVerdict start events answers) (later_next i v)
    (so_far (next_place v) (subst (λ xs. IsVerdict m xs told (next_place v)) (sym left_is) (subst (λ xs. IsVerdict m (e ∷ rest) xs (next_place v)) (sym told_is) (verdict_next e rest a others m mid v step right))))

pub fails_here : (start m : Machine) (events : List Event) (answers : List Report) (i : ℕ) (left rest : List Event) (told others : List Report) (e : Event) (a : Report)
    → left ≡ e ∷ rest → told ≡ a ∷ others → IsNoStep m e a
    → ((v : Verdict) → IsVerdict m left told v → IsVerdict start events answers (later i v))
    → IsVerdict start events answers (No i)
fails_here start m events answers i left rest told others e a left_is told_is fails so_far =
    subst (λ k. IsVerdict start events answers (No k)) (omega arith)
    (so_far (No 0) (subst (λ xs. IsVerdict m xs told (No 0)) (sym left_is) (subst (λ xs. IsVerdict m (e ∷ rest) xs (No 0)) (sym told_is) fails)))

pub passed_all : (start m : Machine) (events : List Event) (answers : List Report) (i : ℕ) (left : List Event) (told : List Report) → left ≡ [] → told ≡ []
    → ((v : Verdict) → IsVerdict m left told v → IsVerdict start events answers (later i v)) → IsVerdict start events answers Yes
passed_all start m events answers i left told left_is told_is so_far =
    so_far Yes (subst (λ xs. IsVerdict m xs told Yes) (sym left_is) (subst (λ xs. IsVerdict m [] xs Yes) (sym told_is) (m, refl)))

-- ---- a run has a report for each event
pub run_length : (events : List Event) (answers : List Report) (old new : Machine) → Run old events answers new → length events ≡ length answers
run_length [] [] old new run = refl
run_length [] (a ∷ answers) old new run = absurd run
run_length (e ∷ events) [] old new run = absurd run
run_length (e ∷ events) (a ∷ answers) old new (mid, step, run) = omega (arith, run_length events answers mid new run)
