-- The worked stream.
use Rattle.std.proofs.Common.{◌≡◌, ℕ, suc, Bool, true, false, List, [], ◌∷◌, Option, Some, None, refl, ap, subst, ◌∙◌}
use Rattle.mono_model.specs.declared.poll.Poll.{Poll}
use Rattle.mono_model.specs.declared.poll.Poll.TheVariants.{Ready, Pending}
use Rattle.mono_stream.specs.Items.{After, IsPolled, Gives}
use Rattle.mono_stream.specs.Examples.{AnswersNext, five_and_seven}

one : (answer : Poll (Option ℕ)) (answers : List (Poll (Option ℕ))) → IsPolled AnswersNext (answer ∷ answers) answer answers
one answer answers = record { before = tt; after = tt; polled = (refl, refl) }

pub all : Gives AnswersNext 4 five_and_seven (5 ∷ 7 ∷ []) true []
all = (
  Ready (Some 5),
  Pending ∷ Ready (Some 7) ∷ Ready None ∷ [],
  one (Ready (Some 5)) (Pending ∷ Ready (Some 7) ∷ Ready None ∷ []),
  (
    7 ∷ [],
    refl,
    (
      Pending,
      Ready (Some 7) ∷ Ready None ∷ [],
      one Pending (Ready (Some 7) ∷ Ready None ∷ []),
      (
        Ready (Some 7),
        Ready None ∷ [],
        one (Ready (Some 7)) (Ready None ∷ []),
        (
          [],
          refl,
          (Ready None, [], one (Ready None) [], (refl, refl, refl)),
        ),
      ),
    ),
  ),
)

pub some : Gives AnswersNext 3 five_and_seven (5 ∷ 7 ∷ []) false (Ready None ∷ [])
some = (
  Ready (Some 5),
  Pending ∷ Ready (Some 7) ∷ Ready None ∷ [],
  one (Ready (Some 5)) (Pending ∷ Ready (Some 7) ∷ Ready None ∷ []),
  (
    7 ∷ [],
    refl,
    (
      Pending,
      Ready (Some 7) ∷ Ready None ∷ [],
      one Pending (Ready (Some 7) ∷ Ready None ∷ []),
      (Ready (Some 7), Ready None ∷ [], one (Ready (Some 7)) (Ready None ∷ []), ([], refl, (refl, refl, refl))),
    ),
  ),
)

-- If the answers are given, the first of them is the answer.
next : (n : ℕ) (answer : Poll (Option ℕ)) (answers : List (Poll (Option ℕ))) (items : List ℕ) (ended : Bool) (left : List (Poll (Option ℕ)))
    → Gives AnswersNext (suc n) (answer ∷ answers) items ended left → After answer answers (Gives AnswersNext n answers) items ended left
next n answer answers items ended left (r, mid, polled, after) =
    subst (λ q. After q answers (Gives AnswersNext n answers) items ended left) (polled.polled.0)
    (subst (λ m. After r m (Gives AnswersNext n m) items ended left) (polled.polled.1) after)

pub nothing_else : (items : List ℕ) (ended : Bool) (left : List (Poll (Option ℕ))) → Gives AnswersNext 4 five_and_seven items ended left → (items ≡ 5 ∷ 7 ∷ []) × (ended ≡ true)
nothing_else items ended left given =
    let (rest, first, later) = next 3 (Ready (Some 5)) (Pending ∷ Ready (Some 7) ∷ Ready None ∷ []) items ended left given in
    let waited = next 2 Pending (Ready (Some 7) ∷ Ready None ∷ []) rest ended left later in
    let (more, second, last) = next 1 (Ready (Some 7)) (Ready None ∷ []) rest ended left waited in
    let (none, over, same) = next 0 (Ready None) [] more ended left last in
    (first ∙ ap (λ l. 5 ∷ l) (second ∙ ap (λ l. 7 ∷ l) none), over)
