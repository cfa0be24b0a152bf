use Rattle.std.proofs.Common.{ap, sym, subst, ◌∙◌, Some}
use Rattle.mono_trace.specs.TickCounts.{AreTicks, armed_count, armed_tick}
use Rattle.mono_trace.proofs.TickCountLemmas.{exchanged}
use Rattle.mono_trace.proofs.AnswerLemmas.{on_ok, held}
use Rattle.mono_trace.proofs.tick_counts.set.Goals as goal

pub returns-clause-places : goal.returns-clause-places
returns-clause-places c = held c.change.result _ c.in_ok-set.ensures.changed

pub returns-clause-ticks : goal.returns-clause-ticks
returns-clause-ticks c =
    let old = c.args.places.now in
    let new = c.set.new.self in
    let is = c.in_ok-set.ensures.changed in
    on_ok c.change.result _ _ c.change.ensures (λ so. so (armed_count old.now) (armed_count new.now) (armed_count new.before)
    (exchanged old.now new.now c.args.number (Some c.args.value) c.armed_at-from.result c.armed_at.result c.requires.there (ap (λ m. m.now) is) (c.armed_at-from.ensures ∙ ap armed_tick c.get.ensures) c.armed_at.ensures)
    (subst (λ b. AreTicks (armed_count old.now) (armed_count b) c.args.ticks.now) (sym (ap (λ m. m.before) is)) c.requires.ticks))
