-- A change that is taken back is as if it had not been made.
use Rattle.std.proofs.Common.{◌≡◌, ℕ, ◌+◌, ◌-◌, ◌<◌, ◌≤◌, zero, suc, List, [], ◌∷◌, ◌++◌, length, take, set, Some, None, Option, refl, ap, sym, ◌∙◌, arith}
use Rattle.std.proofs.lemmas.List.{set-set, set-get_or, set_past, take_at, length_push}
use Rattle.mono_model.specs.Table.{value_at, count_of}
use Rattle.mono_model.proofs.CountLemmas.{counted, counted-count_of}
use Rattle.mono_trace.specs.Versions.{without_change, undone}
use Rattle.mono_trace.specs.declared.places.Change.{Change}
use Rattle.mono_trace.specs.declared.places.Change.TheVariants.{Added, Had}
use Rattle.mono_trace.specs.Queues.{without_move, unmoved}
use Rattle.mono_trace.specs.declared.queues.Move.{Move}
use Rattle.mono_trace.specs.declared.queues.Move.TheVariants.{Put, Took}

pub none-some : {V : Type 0} (x : V) → None ≡ Some x → ⊥
none-some x e = cc

pub undone_last : {V : Type 0} (changes : List (Change V)) (c : Change V) (places : List (Option V)) → undone (changes ++ c ∷ []) places ≡ undone changes (without_change c places)
undone_last [] c places = refl
undone_last (x ∷ changes) c places = ap (without_change x) (undone_last changes c places)

pub all_but_last : {X : Type 0} (xs : List X) (x : X) → take (length (xs ++ x ∷ []) - 1) (xs ++ x ∷ []) ≡ xs
all_but_last xs x = take_at xs (x ∷ []) (length (xs ++ x ∷ []) - 1) (omega (arith, length_push xs x))

set_back : {V : Type 0} (places : List (Option V)) (n : ℕ) (v : V) (w : Option V) → value_at places n ≡ Some v → set (set places n w) n (Some v) ≡ places
set_back places n v w is = set-set places n w (Some v) ∙ ap (λ x. set places n x) (sym is) ∙ set-get_or places n None

pub undone_pushed : {V : Type 0} (changes : List (Change V)) (places : List (Option V)) (v : V) → undone (changes ++ Added ∷ []) (places ++ Some v ∷ []) ≡ undone changes places
undone_pushed changes places v = undone_last changes Added (places ++ Some v ∷ []) ∙ ap (undone changes) (all_but_last places (Some v))

pub undone_set : {V : Type 0} (changes : List (Change V)) (places : List (Option V)) (n : ℕ) (v : V) (w : Option V) → value_at places n ≡ Some v → undone (changes ++ Had n v ∷ []) (set places n w) ≡ undone changes places
undone_set changes places n v w is = undone_last changes (Had n v) (set places n w) ∙ ap (undone changes) (set_back places n v w is)

-- a value of a number that is not there is no change
pub undone_past : {V : Type 0} (changes : List (Change V)) (places : List (Option V)) (n : ℕ) (v : V) → length places ≤ n → undone (changes ++ Had n v ∷ []) places ≡ undone changes places
undone_past changes places n v past = undone_last changes (Had n v) places ∙ ap (undone changes) (set_past places n (Some v) past)

-- ---- how many numbers have a value
gone : {V : Type 0} (places : List (Option V)) (n : ℕ) (old : V) → value_at places n ≡ Some old → counted places ≡ counted (set places n None) + 1
gone [] n old is = absurd (none-some old is)
gone (x ∷ places) zero old is = rw is (omega arith)
gone (None ∷ places) (suc n) old is = gone places n old is
gone (Some x ∷ places) (suc n) old is = omega (arith, gone places n old is)

pub one_less : {V : Type 0} (places : List (Option V)) (n live : ℕ) (old : V) → value_at places n ≡ Some old → live ≡ count_of places → live - 1 ≡ count_of (set places n None)
one_less places n live old is counts =
    omega (arith, counts, gone places n old is, counted-count_of places, counted-count_of (set places n None))

pub one_there : {V : Type 0} (places : List (Option V)) (n live : ℕ) (old : V) → value_at places n ≡ Some old → live ≡ count_of places → 0 < live
one_there places n live old is counts = omega (arith, counts, gone places n old is, counted-count_of places)

pub unmoved_last : (moves : List Move) (m : Move) (queue : List ℕ) → unmoved (moves ++ m ∷ []) queue ≡ unmoved moves (without_move m queue)
unmoved_last [] m queue = refl
unmoved_last (x ∷ moves) m queue = ap (without_move x) (unmoved_last moves m queue)

pub unmoved_put : (moves : List Move) (queue : List ℕ) (t : ℕ) → unmoved (moves ++ Put ∷ []) (queue ++ t ∷ []) ≡ unmoved moves queue
unmoved_put moves queue t = unmoved_last moves Put (queue ++ t ∷ []) ∙ ap (unmoved moves) (all_but_last queue t)

pub unmoved_took : (moves : List Move) (queue rest : List ℕ) (t : ℕ) → queue ≡ t ∷ rest → unmoved (moves ++ Took t ∷ []) rest ≡ unmoved moves queue
unmoved_took moves queue rest t is = unmoved_last moves (Took t) rest ∙ ap (unmoved moves) (sym is)
