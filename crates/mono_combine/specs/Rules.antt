-- The rules of the forms: a form's answer as a function of its branches' answers.
use Rattle.std.specs.Prelude.{ℕ, ◌+◌, ◌%◌, Bool, true, false, if◌then◌else◌, List, [], ◌∷◌, length, map, Option, Some, None, is_none, Result, Ok, Err, slice_index_or}
use Rattle.std.specs.List.{list_any, filter_map, range_with_len, zip}
use Rattle.mono_model.specs.declared.poll.Poll.{Poll}
use Rattle.mono_model.specs.declared.poll.Poll.TheVariants.{Ready, Pending}
use Rattle.mono_combine.specs.declared.branch.Look.{Look}
use Rattle.mono_combine.specs.declared.branch.Look.TheVariants.{Passes, Waits, Rests}

-- Join: the outputs in the written order, once all have been given.
abbrev pub join_rule : {X : Type 0} → List (Option X) → Poll (List X)
join_rule outputs = if list_any is_none outputs then Pending else Ready (filter_map (λ output. output) outputs)

-- Try-join: the first error in the written order, and else the values in the written order, once all have been given.
module _ {X E : Type 0} where
  abbrev pub error_of : Option (Result X E) → Option E
  error_of None = None
  error_of (Some (Ok x)) = None
  error_of (Some (Err e)) = Some e

  abbrev pub value_of : Option (Result X E) → Option X
  value_of None = None
  value_of (Some (Ok x)) = Some x
  value_of (Some (Err e)) = None

  -- The first of these errors, and else the values.
  abbrev pub unless_failed : List E → List (Option (Result X E)) → Poll (Result (List X) E)
  unless_failed [] outputs = if list_any is_none outputs then Pending else Ready (Ok (filter_map value_of outputs))
  unless_failed (e ∷ later) outputs = Ready (Err e)

  abbrev pub try_join_rule : List (Option (Result X E)) → Poll (Result (List X) E)
  try_join_rule outputs = unless_failed (filter_map error_of outputs) outputs

-- Select. A branch's answer in one poll is a `Look`: it waits, it is ready and its predicate passes it, or it rests.
abbrev pub passes : {X : Type 0} → Look X → Bool
passes (Passes x) = true
passes Waits = false
passes Rests = false

abbrev pub waits : {X : Type 0} → Look X → Bool
waits (Passes x) = false
waits Waits = true
waits Rests = false

-- The branches in the order of a poll: the start, and on from there, around the end.
abbrev pub order_from : ℕ → ℕ → List ℕ
order_from start branches = map (λ i. (start + i) % branches) (range_with_len 0 branches)

-- The answer of a branch, which rests for any answer if its bit in the mask is set.
abbrev pub unless_masked : {X : Type 0} → Bool → Look X → Look X
unless_masked true look = Rests
unless_masked false look = look

module _ {X : Type 0} where
  -- The answers that count.
  abbrev pub counted : List Bool → List (Look X) → List (Look X)
  counted mask looks = map (λ p. unless_masked p.0 p.1) (zip mask looks)

  abbrev pub look_at : List (Look X) → ℕ → Look X
  look_at looks branch = slice_index_or looks branch Rests

  -- The branches that are polled: up to and including the first that passes.
  abbrev pub up_to_pass : List (Look X) → List ℕ → List ℕ
  up_to_pass looks [] = []
  up_to_pass looks (b ∷ later) = b ∷ (if passes (look_at looks b) then [] else up_to_pass looks later)

  abbrev pub passed_as : ℕ → Look X → Option (ℕ × X)
  passed_as b (Passes x) = Some (b, x)
  passed_as b Waits = None
  passed_as b Rests = None

  abbrev pub passed : List (Look X) → ℕ → Option (ℕ × X)
  passed looks b = passed_as b (look_at looks b)

  -- The first that passes is the answer. If none passes, the select waits if some branch waits, and otherwise has no
  -- branch left.
  abbrev pub first_of : List (ℕ × X) → Bool → Poll (Option (ℕ × X))
  first_of (pick ∷ later) some_wait = Ready (Some pick)
  first_of [] true = Pending
  first_of [] false = Ready None

  abbrev pub picked_of : List (Look X) → List ℕ → Poll (Option (ℕ × X))
  picked_of looks order = first_of (filter_map (passed looks) order) (list_any waits looks)

  -- The branch that is picked in a poll, with its output.
  abbrev pub select_rule : List Bool → ℕ → List (Look X) → Poll (Option (ℕ × X))
  select_rule mask start looks = picked_of (counted mask looks) (order_from start (length looks))

  -- The branches that have their turn in a poll, in order; a branch that the mask leaves out is not polled in its turn.
  abbrev pub select_turns : List Bool → ℕ → List (Look X) → List ℕ
  select_turns mask start looks = up_to_pass (counted mask looks) (order_from start (length looks))
