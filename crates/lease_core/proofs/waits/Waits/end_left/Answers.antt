use Rattle.lease_core.specs.Places.{is_of, is_held}
use Rattle.lease_core.proofs.ReleaseLemmas.{left_answers, left_keeps, left_fits, left_counts, left_shrinks}
use Rattle.lease_core.proofs.waits.Waits.end_left.Goals as goal

pub put_both-requires : goal.put_both-requires
put_both-requires c =
    left_fits (is_of c.args.key c.args.session) (is_held c.args.key c.args.holder) c.args.tick c.args.own _ _ c.args.self.now.places.entries _ _ _ c.take-left.ensures.value c.take-left.ensures.entries c.take_held-held.ensures.value c.requires

pub returns-clause-items : goal.returns-clause-items
returns-clause-items c =
    left_answers c.args.session c.args.own c.args.key c.args.holder c.args.tick c.args.self.now.next c.args.self.now.places.entries _ _ _ _ _ c.len.ensures.valid.0 c.args.self.now.order
    c.take-left.ensures.value c.take-left.ensures.entries c.take_held-held.ensures.value c.put_both.ensures.items

pub returns-clause-kept : goal.returns-clause-kept
returns-clause-kept c =
    left_keeps c.args.session c.args.own c.args.key c.args.holder c.args.self.now.places.entries _ _ c.len.ensures.valid.0 c.take-left.ensures.entries c.take_held-held.ensures.entries

pub returns-clause-len : goal.returns-clause-len
returns-clause-len c =
    left_shrinks (is_of c.args.key c.args.session) (is_held c.args.key c.args.holder) c.args.self.now.places.entries _ _ c.take-left.ensures.entries c.take_held-held.ensures.entries

pub returns-clause-room : goal.returns-clause-room
returns-clause-room c =
    left_counts (is_of c.args.key c.args.session) (is_held c.args.key c.args.holder) c.args.tick c.args.own _ _ c.args.self.now.places.entries _ _ _ _ c.take-left.ensures.value c.take-left.ensures.entries c.take_held-held.ensures.value
    c.take_held-held.ensures.entries c.put_both.ensures.len
