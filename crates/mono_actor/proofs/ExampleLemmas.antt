-- Worked runs, by computation.
use Rattle.std.proofs.Common.{◌≡◌, true, [], ◌∷◌, ℕ, List, refl, ap, ◌∙◌, lit≤}
use Rattle.mono_model.specs.Table.{Table}
use Rattle.mono_model.specs.Due.{ListsDue}
use Rattle.mono_model.proofs.DueLemmas.{lists, may_list}
use Rattle.mono_actor.specs.Actors.{Actor, Actors, sent, begin_answer}
use Rattle.mono_actor.specs.Answers.{Answer, of_begin}
use Rattle.mono_actor.specs.Answers as answer
use Rattle.mono_actor.specs.Steps.{waiting_value}
use Rattle.mono_actor.specs.Examples.{PassedOn, TimedOut, MessageFirst}
use Rattle.mono_actor.specs.declared.answers.Got.{Got}
use Rattle.mono_actor.specs.declared.answers.Got.TheVariants.{Message, Timeout}

comes : (table : Table (Actor ℕ)) (g : ℕ) (due : List ℕ) → lists waiting_value table g due ≡ true → ListsDue waiting_value table g due
comes table g due = may_list waiting_value table g due refl

pub passed_on : PassedOn
passed_on =
    (_, (_, (refl, refl), (_, (refl, refl), (_, (refl, refl), (_, (refl, refl), (_, (refl, refl, refl), (_, (refl, refl), (_, (refl, refl), (_, (refl, refl, refl), (_, (refl, refl), (_, (refl, refl, refl), (_, (refl, refl), (_, (refl, refl), (_, (refl, refl), refl))))))))))))))

pub timed_out : TimedOut
timed_out =
    (_, (_, (refl, refl), (_, (refl, refl), (_, (refl, refl), (_, (refl, lit≤ tt, comes _ 19 [] refl, refl), (_, (refl, lit≤ tt, comes _ 20 (0 ∷ []) refl, refl), (_, (refl, refl), (_, (refl, refl, refl), (_, (refl, refl), (_, (refl, lit≤ tt, comes _ 40 (0 ∷ []) refl, refl), (_, (refl, refl, refl), (_, (refl, refl), (_, (refl, refl, refl), refl)))))))))))))

abbrev turn_of : Got ℕ → Answer ℕ
turn_of got = answer.Turn 0 got

message-timeout : turn_of Timeout ≡ turn_of (Message 0 3) → ⊥
message-timeout e = cc

pub message_first : MessageFirst
message_first (new, (m1, s1, (m2, s2, (m3, s3, end)))) =
    message-timeout (s3.1 ∙ ap (λ (m : Actors ℕ). of_begin (begin_answer m)) (s2.1 ∙ ap (λ (m : Actors ℕ). sent m 0 0 3) s1.1))
