-- The entries of all queues, by key and by session.
use Rattle.std.specs.Prelude.{◌≡◌, ◌<◌, ℕ, not, ◌==◌, if◌then◌else◌, List, [], ◌∷◌, length, filter, Option, Some, None, nat_eq}
use Rattle.std.specs.HashMap.{get, spare, hash_map_len}
use Rattle.mono_session.specs.Keeper.{Entry, queue_in, is_entry}
use Rattle.mono_session.specs.Links.{pair_eq}
use Rattle.mono_session.specs.Nodes.{queue_place, key_place, place_by}
use Rattle.mono_session.specs.Queues.{Chains, Keeps}
use Rattle.mono_session.specs.declared.entries.Entries.{Entries}

-- The keys in whose queues a session is, in the order in which it entered them.
abbrev pub keys_in : List Entry → ℕ → List ℕ
keys_in [] s = []
keys_in (entry ∷ entries) s = if entry.session == s then entry.key ∷ keys_in entries s else keys_in entries s

-- The session has left the queue of this key, if any.
abbrev pub without_first : ℕ → Option ℕ → List Entry → List Entry
without_first s None entries = entries
without_first s (Some key) entries = filter (λ entry. not (is_entry s key entry)) entries

-- The queue of each key, and the keys of each session.
abbrev pub queue_chains : Entries → Chains
queue_chains kept = record { ends = λ key. get nat_eq kept.ends key; places = λ key s. place_by queue_place (get pair_eq kept.nodes (key, s)) }

abbrev pub key_chains : Entries → Chains
key_chains kept = record { ends = λ s. get nat_eq kept.key_ends s; places = λ s key. place_by key_place (get pair_eq kept.nodes (key, s)) }

abbrev pub entry_count : Entries → ℕ
entry_count kept = hash_map_len kept.nodes

-- The table has the sessions of these entries by key, and their keys by session.
pub record Entered (kept : Entries) (entries : List Entry) : Type 0 where
  pub queues : Keeps (queue_chains kept) (queue_in entries)
  pub keys : Keeps (key_chains kept) (keys_in entries)
  pub count : entry_count kept ≡ length entries

-- There is room for one more entry.
abbrev pub HasPlace : Entries → Type 0
HasPlace kept = (0 < spare kept.ends) × (0 < spare kept.key_ends) × (0 < spare kept.nodes)
