use Rattle.std.proofs.Common.{◌≡◌, ◌≤◌, ◌+◌, ◌++◌, List}
use Rattle.std.specs.Prelude.{vec_len, vec_capacity}
use Rattle.mono_session.specs.Keeper.{Entry}
use Rattle.mono_session.specs.Entries.{Entered, keys_in, entry_count}
use Rattle.mono_session.proofs.LeaveLemmas.{others, with_keys}
use Rattle.mono_session.proofs.entries.Entries.leave_each.Given as goal

-- The entries that are left are those of others and some of the session. Its other keys are listed.
abbrev pub invariant-loop-key : goal.invariant-loop-key
invariant-loop-key l = record {
  room : vec_len l.left + entry_count l.self ≤ vec_capacity l.left;
  capacity : vec_capacity l.left ≡ vec_capacity l.fn.left;
  stay : (entries : List Entry) → Entered l.fn.self entries
      → (stay : List Entry) × Entered l.self stay × (others l.session stay ≡ others l.session entries)
      × (l.left.items ++ with_keys l.session (keys_in stay l.session) ≡ l.fn.left.items ++ with_keys l.session (keys_in entries l.session));
}

abbrev pub decreases-loop-key : goal.decreases-loop-key
decreases-loop-key l = entry_count l.self
