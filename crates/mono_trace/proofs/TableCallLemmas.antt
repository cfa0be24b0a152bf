-- The effect of a call on a table, on plain lists.
use Rattle.std.proofs.Common.{◌≡◌, ◌<◌, inl, inr, ℕ, ◌+◌, ◌-◌, List, [], ◌∷◌, ◌++◌, length, take, set, Some, None, Option, ap, sym, ◌∙◌}
use Rattle.std.proofs.lemmas.Bool.{cases_lt}
use Rattle.std.proofs.lemmas.List.{get_or_past}
use Rattle.mono_model.specs.Table.{value_at, count_of, with_next}
use Rattle.mono_model.proofs.CountLemmas.{count_of-with_next, count_of-with_value}
use Rattle.mono_trace.specs.Versions.{Versions, changed, undone}
use Rattle.mono_trace.specs.Queues.{unmoved}
use Rattle.mono_trace.specs.declared.queues.Move.{Move}
use Rattle.mono_trace.specs.declared.queues.Move.TheVariants.{Put}
use Rattle.mono_trace.specs.declared.places.Change.{Change}
use Rattle.mono_trace.specs.declared.places.Change.TheVariants.{Added, Had}
use Rattle.mono_trace.proofs.UndoLemmas.{none-some, all_but_last, undone_pushed, undone_set, unmoved_put, one_less}

abbrev pub versions : {V : Type 0} → List (Change V) → List (Option V) → Versions (List (Option V))
versions changes items = record { now = items; before = undone changes items }

-- a number that has a value was given out
pub given : {V : Type 0} (items : List (Option V)) (n : ℕ) (old : V) → value_at items n ≡ Some old → n < length items
given items n old at = elim (cases_lt n (length items)) [ inl inside ↦ inside | inr past ↦ absurd (none-some old (sym (get_or_past items n None past) ∙ at)) ]

module _ {V : Type 0} (items : List (Option V)) (changes log : List (Change V)) where
  -- a number is given out, with this value
  module _ (new : List (Option V)) (v : V) (is : new ≡ items ++ Some v ∷ []) (logged : log ≡ changes ++ Added ∷ []) where
    put_before : undone log new ≡ undone changes items
    put_before = ap (λ l. undone l new) logged ∙ ap (λ xs. undone (changes ++ Added ∷ []) xs) is ∙ undone_pushed changes items v

    pub pushed : versions log new ≡ changed (versions changes items) (with_next items v)
    pushed = ap (λ (b : List (Option V)). record { now = new; before = b }) put_before ∙ ap (λ (xs : List (Option V)). record { now = xs; before = undone changes items }) is

    pub pushed_counts : (live earlier : ℕ) → live ≡ count_of items → earlier ≡ count_of (undone changes items) → (live + 1 ≡ count_of new) × (earlier ≡ count_of (undone log new))
    pushed_counts live earlier counts was = (ap (λ n. n + 1) counts ∙ sym (count_of-with_next items v) ∙ ap count_of (sym is), was ∙ ap count_of (sym put_before))

  -- the number is taken back, as its change was not noted
  module _ (new popped : List (Option V)) (v : V) (n : ℕ) (is : new ≡ items ++ Some v ∷ []) (len : n ≡ length new) (pops : popped ≡ take (n - 1) new) (same : log ≡ changes) where
    back : popped ≡ items
    back = pops ∙ ap (λ k. take (k - 1) new) len ∙ ap (λ xs. take (length xs - 1) xs) is ∙ all_but_last items (Some v)

    pub taken_back : versions log popped ≡ versions changes items
    taken_back = ap (λ l. versions l popped) same ∙ ap (versions changes) back

    pub taken_counts : (live earlier : ℕ) → live ≡ count_of items → earlier ≡ count_of (undone changes items) → (live ≡ count_of popped) × (earlier ≡ count_of (undone log popped))
    taken_counts live earlier counts was = (counts ∙ sym (ap count_of back), was ∙ sym (ap (λ (m : Versions (List (Option V))). count_of m.before) taken_back))

  -- A number that had this value has another, or none.
  module _ (n : ℕ) (old : V) (at : value_at items n ≡ Some old) (logged : log ≡ changes ++ Had n old ∷ []) where
    set_before : (w : Option V) → undone log (set items n w) ≡ undone changes items
    set_before w = ap (λ l. undone l (set items n w)) logged ∙ undone_set changes items n old w at

    pub written : (w : Option V) → versions log (set items n w) ≡ changed (versions changes items) (set items n w)
    written w = ap (λ (b : List (Option V)). record { now = set items n w; before = b }) (set_before w)

    pub set_counts : (v : V) (live earlier : ℕ) → live ≡ count_of items → earlier ≡ count_of (undone changes items) → (live ≡ count_of (set items n (Some v))) × (earlier ≡ count_of (undone log (set items n (Some v))))
    set_counts v live earlier counts was = (counts ∙ sym (count_of-with_value items n old v at), was ∙ ap count_of (sym (set_before (Some v))))

    pub removed_counts : (live earlier : ℕ) → live ≡ count_of items → earlier ≡ count_of (undone changes items) → (live - 1 ≡ count_of (set items n None)) × (earlier ≡ count_of (undone log (set items n None)))
    removed_counts live earlier counts was = (one_less items n live old at counts, was ∙ ap count_of (sym (set_before None)))

-- a number is put at the back of a queue
pub put_last : (queue new : List ℕ) (moves log : List Move) (t : ℕ) → new ≡ queue ++ t ∷ [] → log ≡ moves ++ Put ∷ [] → unmoved log new ≡ unmoved moves queue
put_last queue new moves log t is logged = ap (λ l. unmoved l new) logged ∙ ap (unmoved (moves ++ Put ∷ [])) is ∙ unmoved_put moves queue t
