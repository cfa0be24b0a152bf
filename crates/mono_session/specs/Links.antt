-- The ends of a list, and the neighbours of its members.
use Rattle.std.specs.Prelude.{◌≡◌, ℕ, Bool, false, not, ◌==◌, ◌&&◌, ◌||◌, if◌then◌else◌, List, [], ◌∷◌, filter, Option, Some, None, nat_eq}
use Rattle.mono_session.specs.Keeper.{first_of}
use Rattle.mono_session.specs.declared.places.Ends.{Ends}
use Rattle.mono_session.specs.declared.places.Place.{Place}

-- Whether two pairs of numbers are equal.
abbrev pub pair_eq : ℕ × ℕ → ℕ × ℕ → Bool
pair_eq a b = nat_eq a.0 b.0 && nat_eq a.1 b.1

-- Whether a number is in a list.
abbrev pub is_in : List ℕ → ℕ → Bool
is_in [] m = false
is_in (x ∷ xs) m = (x == m) || is_in xs m

-- Each number occurs once.
abbrev pub IsOnce : List ℕ → Type 0
IsOnce [] = Unit {0}
IsOnce (x ∷ xs) = (is_in xs x ≡ false) × IsOnce xs

-- The last, or `before` if the list is empty.
abbrev pub last_of : Option ℕ → List ℕ → Option ℕ
last_of before [] = before
last_of before (x ∷ xs) = last_of (Some x) xs

abbrev pub ends_with : Option ℕ → Option ℕ → Option Ends
ends_with None last = None
ends_with (Some first) None = None
ends_with (Some first) (Some last) = Some record { first = first; last = last }

-- The ends of a list, which it has unless it is empty.
abbrev pub ends_of : List ℕ → Option Ends
ends_of xs = ends_with (first_of xs) (last_of None xs)

-- The neighbours of a member of a list that follows `before`.
abbrev pub place_in : Option ℕ → List ℕ → ℕ → Option Place
place_in before [] m = None
place_in before (x ∷ xs) m = if x == m then Some record { before = before; after = first_of xs } else place_in (Some x) xs m

-- A list without a member.
abbrev pub left_by : ℕ → List ℕ → List ℕ
left_by member xs = filter (λ x. not (x == member)) xs

-- The neighbours after one of them changed.
abbrev pub with_after : Option ℕ → Option Place → Option Place
with_after after None = None
with_after after (Some place) = Some record { before = place.before; after = after }

abbrev pub with_before : Option ℕ → Option Place → Option Place
with_before before None = None
with_before before (Some place) = Some record { before = before; after = place.after }

-- The same at one member, if there is one.
abbrev pub linked_after : Option ℕ → ℕ → Option ℕ → Option Place → Option Place
linked_after None m after place = place
linked_after (Some at) m after place = if at == m then with_after after place else place

abbrev pub linked_before : Option ℕ → ℕ → Option ℕ → Option Place → Option Place
linked_before None m before place = place
linked_before (Some at) m before place = if at == m then with_before before place else place

-- The ends after a member was appended.
abbrev pub with_last_end : ℕ → Option Ends → Option Ends
with_last_end last None = Some record { first = last; last = last }
with_last_end last (Some ends) = Some record { first = ends.first; last = last }

abbrev pub last_end : Option Ends → Option ℕ
last_end None = None
last_end (Some ends) = Some ends.last

-- The ends after a member between these two left.
abbrev pub closed_ends : Option ℕ → Option ℕ → Option Ends → Option Ends
closed_ends before after None = None
closed_ends None None (Some ends) = None
closed_ends None (Some a) (Some ends) = Some record { first = a; last = ends.last }
closed_ends (Some b) None (Some ends) = Some record { first = ends.first; last = b }
closed_ends (Some b) (Some a) (Some ends) = Some ends
