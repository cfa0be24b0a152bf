-- How many senders are open, and what each end knows of it.
use Rattle.std.specs.Prelude.{◌≡◌, ◌≢◌, ℕ, ◌+◌, ◌-◌, ◌==◌, Bool, true, List, [], ◌∷◌, length, slice_index}
use mathlib.Core.Option.{some}
use lib.ListN.{get_elem?}
use Rattle.atomic_table.specs.Table.{State, Me, Step}
use Rattle.mono_channel.specs.declared.stakes.Standing.{Standing}

abbrev pub standing : ℕ → Bool → Standing
standing senders over = record { senders = senders; over = over }

-- how many open senders all ends count for
abbrev pub all_open : List Standing → ℕ
all_open [] = 0
all_open (v ∷ vs) = v.senders + all_open vs

-- The word is the number of the senders that are open. If an end saw that none is open, none is.
abbrev pub Counts : State (Unit {0}) Standing → Type 0
Counts s = (length s.words ≡ 1) × (slice_index s.words 0 ≡ all_open s.views) × ((n : ℕ) (v : Standing) → get_elem? s.views n ≡ some v → v.over ≡ true → all_open s.views ≡ 0)

abbrev Sat : Type 0
Sat = Me (Unit {0}) Standing

-- the end counts for one more, if the word was the one expected
abbrev pub entered : Step (Unit {0}) → Sat → ℕ → Sat → Type 0
entered st m found m' = (found ≡ st.first → m'.0 ≡ standing (m.0.senders + 1) m.0.over) × (found ≢ st.first → m'.0 ≡ m.0) × (m'.1 ≡ m.1)

-- the end counts for one less, and sees whether that was the last
abbrev pub left : Step (Unit {0}) → Sat → ℕ → Sat → Type 0
left st m found m' = (m'.0 ≡ standing (m.0.senders - 1) (found == 1)) × (m'.1 ≡ m.1)

-- the end sees whether none is open: then it counts for none, and so it stays
abbrev pub looked : Step (Unit {0}) → Sat → ℕ → Sat → Type 0
looked st m found m' = (m'.0 ≡ standing m.0.senders (found == 0)) × (m'.1 ≡ m.1) × (m.0.over ≡ true → found ≡ 0) × (found ≡ 0 → m.0.senders ≡ 0)
