-- One more line of a journal.
use Rattle.std.proofs.Common.{◌≡◌, ℕ, ◌+◌, Bool, List, [], ◌∷◌, ◌++◌, length, Option, Some, None, sym, ap, ◌∙◌, arith, append_assoc, length-append}
use Rattle.std.proofs.lemmas.List.{append-nil}
use Rattle.mono_trace.specs.Order.{stop_at, stop_or, next_stage, misplaced_on}
use Rattle.mono_trace.specs.OrderProgress.{Stops, stop_from}
use Rattle.mono_trace.specs.declared.marks.Mark.{Mark}
use Rattle.mono_trace.specs.declared.marks.Stage.{Stage}
use Rattle.mono_trace.specs.declared.marks.Stage.TheVariants as stage

one_longer : (marks : List Mark) (m : Mark) → length (marks ++ m ∷ []) ≡ length marks + 1
one_longer marks m = omega (arith, length-append marks (m ∷ []))

pub steps_on : (t : Bool) (marks : List Mark) (m : Mark) (s next : Stage) → next_stage t s m ≡ Some next → Stops t marks None s → Stops t (marks ++ m ∷ []) None next
steps_on t marks m s next is stops = λ rest.
    ap (λ xs. stop_at t 1 (stage.Start 0) xs) (append_assoc marks (m ∷ []) rest)
    ∙ stops (m ∷ rest)
    ∙ ap (λ o. stop_or (length marks + 1, s) o (λ later. stop_at t (length marks + 1 + 1) later rest)) is
    ∙ ap (λ n. stop_at t (n + 1) next rest) (sym (one_longer marks m))

pub stops_here : (t : Bool) (marks : List Mark) (m : Mark) (s : Stage) (line : ℕ) → line ≡ length marks + 1 → next_stage t s m ≡ None → Stops t marks None s → Stops t (marks ++ m ∷ []) (Some line) s
stops_here t marks m s line counted is stops = λ rest.
    ap (λ xs. stop_at t 1 (stage.Start 0) xs) (append_assoc marks (m ∷ []) rest)
    ∙ stops (m ∷ rest)
    ∙ ap (λ o. stop_or (length marks + 1, s) o (λ later. stop_at t (length marks + 1 + 1) later rest)) is
    ∙ ap (λ n. Some (n, s)) (sym counted)

pub stays_stopped : (t : Bool) (marks : List Mark) (m : Mark) (s : Stage) (line : ℕ) → Stops t marks (Some line) s → Stops t (marks ++ m ∷ []) (Some line) s
stays_stopped t marks m s line stops = λ rest. ap (λ xs. stop_at t 1 (stage.Start 0) xs) (append_assoc marks (m ∷ []) rest) ∙ stops (m ∷ rest)

pub misplaced_is : (t : Bool) (marks : List Mark) (stopped : Option ℕ) (s : Stage) → Stops t marks stopped s → misplaced_on t marks ≡ stop_from t stopped (length marks + 1) s []
misplaced_is t marks stopped s stops = ap (λ xs. stop_at t 1 (stage.Start 0) xs) (sym (append-nil marks)) ∙ stops []
