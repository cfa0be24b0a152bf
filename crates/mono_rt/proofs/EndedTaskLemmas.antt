-- One more list of tasks that are made unknown.
use Rattle.std.proofs.Common.{◌≡◌, ◌<◌, ◌≤◌, ◌⊎◌, inl, inr, ℕ, List, [], ◌∷◌, ◌++◌, refl, ap, sym, ◌∙◌, append_assoc, append-nil, arith}
use Rattle.std.specs.Prelude.{Err}
use Rattle.mono_rt.specs.EndedTasks.{all_in, closed_in}
use Rattle.mono_rt.specs.FuturePolls.{OnMain}
use Rattle.mono_rt.specs.declared.parts.errors.RunError.{RunError}
use Rattle.mono_rt.specs.declared.parts.errors.RunError.TheVariants as error

all_in-append : (lists : List (List ℕ)) (tasks : List ℕ) → all_in (lists ++ tasks ∷ []) ≡ all_in lists ++ tasks
all_in-append [] tasks = append-nil tasks
all_in-append (ts ∷ lists) tasks = ap (λ xs. ts ++ xs) (all_in-append lists tasks) ∙ sym (append_assoc ts (all_in lists) tasks)

-- the list of those that ended is made unknown
pub retired_all : (before after : List (List ℕ)) (ended : List ℕ) → after ≡ before ++ ended ∷ [] → all_in after ≡ closed_in before ended
retired_all before after ended is = ap all_in is ∙ all_in-append before ended

-- and none is left
pub closed_same : (before after : List (List ℕ)) (ended left : List ℕ) → left ≡ [] → all_in after ≡ closed_in before ended → closed_in after left ≡ closed_in before ended
closed_same before after ended left none is = ap (λ xs. all_in after ++ xs) none ∙ append-nil (all_in after) ∙ is

-- one more ended
pub closed_more : (lists : List (List ℕ)) (ended more before : List ℕ) (task : ℕ) → more ≡ ended ++ task ∷ [] → closed_in lists ended ≡ before → closed_in lists more ≡ before ++ task ∷ []
closed_more lists ended more before task is same = ap (λ xs. all_in lists ++ xs) is ∙ sym (append_assoc (all_in lists) ended (task ∷ [])) ∙ ap (λ xs. xs ++ task ∷ []) same

-- one was made unknown alone, while no other ended
pub closed_alone : (before after : List (List ℕ)) (ended whole : List ℕ) (task : ℕ) → after ≡ before ++ (task ∷ []) ∷ [] → ended ≡ [] → closed_in before ended ≡ whole → closed_in after ended ≡ whole ++ task ∷ []
closed_alone before after ended whole task is none same =
    ap (λ xs. all_in after ++ xs) none ∙ append-nil (all_in after) ∙ ap all_in is ∙ all_in-append before (task ∷ [])
    ∙ ap (λ xs. xs ++ task ∷ []) (sym (ap (λ xs. all_in before ++ xs) none ∙ append-nil (all_in before)) ∙ same)

-- a full list is none that has room
pub no_room : (len capacity : ℕ) (xs : List ℕ) → (len < capacity) ⊎ (xs ≡ []) → (len < capacity → ⊥) → xs ≡ []
no_room len capacity xs (inl room) full = absurd (full room)
no_room len capacity xs (inr none) full = none

-- a fact that holds in each case
pub if_main : (A : Type 0) (e : RunError) (P : Type 0) → P → OnMain {A = A} (Err e) P
if_main A error.Turns P is = is
if_main A error.Driver P is = is
if_main A error.AtCapacity P is = tt
if_main A error.Memory P is = tt
