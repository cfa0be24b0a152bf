use Rattle.std.proofs.Common.{◌≡◌, ◌≤◌, List}
use Rattle.mono_session.specs.Keeper.{Entry}
use Rattle.mono_session.specs.Entries.{Entered, entry_count}
use Rattle.mono_session.proofs.LeaveLemmas.{others}
use Rattle.mono_session.proofs.entries.Entries.leave_all.Given as goal

-- the entries that are left are those of others and some of the session
abbrev pub invariant-loop : goal.invariant-loop
invariant-loop l = record {
  fewer : entry_count l.self ≤ entry_count l.fn.self;
  stay : (entries : List Entry) → Entered l.fn.self entries
      → (stay : List Entry) × Entered l.self stay × (others l.session stay ≡ others l.session entries);
}

abbrev pub decreases-loop : goal.decreases-loop
decreases-loop l = entry_count l.self
