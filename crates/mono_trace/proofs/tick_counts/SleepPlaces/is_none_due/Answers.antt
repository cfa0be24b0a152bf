use Rattle.std.proofs.Common.{subst}
use Rattle.std.specs.Prelude.{MatchBool, map}
use Rattle.mono_model.specs.FireOrder.{IsNoneDue}
use Rattle.mono_trace.specs.Tables.{sleep_place}
use Rattle.mono_trace.specs.TickCounts.{armed_count}
use Rattle.mono_trace.proofs.TickCountLemmas.{due_told}
use Rattle.mono_trace.proofs.tick_counts.SleepPlaces.is_none_due.Goals as goal

pub returns : goal.returns
returns c =
    let places = c.self.inside.places in
    let greatest = c.args.greatest in
    subst (λ m. MatchBool c.are_above.result (IsNoneDue (map sleep_place m.now) greatest) (IsNoneDue (map sleep_place m.now) greatest → ⊥)) c.self.view_is
    (due_told places.now greatest c.are_above.result (c.are_above.ensures (armed_count places.now) (armed_count places.before) c.self.invariant))
