use Rattle.std.proofs.Common.{rules, ◌≡◌, ◌+◌, length, refl, ap, ◌∙◌, arith}
use Rattle.std.specs.VecDeque.{deque_len}
use Rattle.mono_inbox.proofs.CountLemmas.{waits_within}
use Rattle.mono_inbox.proofs.RowGrowthLemmas.{row-sound, row-known}
use Rattle.mono_inbox.specs.State.{in_row}
use Rattle.std.specs.Prelude.{◌||◌, slice_index_or, map, false}
use Rattle.mono_inbox.specs.Standings.{knows}
use Rattle.mono_inbox.proofs.state.InboxState.know_behind.Goals as goal

pub make_room-requires-clause-waiting : goal.make_room-requires-clause-waiting
make_room-requires-clause-waiting c =
    let len : deque_len c.self.inside.waiting ≡ length c.self.inside.waiting.items = search rules in
    omega (arith, len, waits_within c.self.inside.standings, c.self.invariant.listed, c.self.invariant.placed)

pub invariant_of-self-in-Ok : goal.invariant_of-self-in-Ok
invariant_of-self-in-Ok c =
    rw (c.extend-more.ensures.after, c.make_room.ensures.items)
    (row-sound c.self.inside.waiting.items c.self.inside.standings c.self.inside.places _ _ c.extend-more.result c.self.invariant (omega (arith, c.in-Ok.ensures.room, c.extend-more.ensures.most)))

pub returns-in-Ok-clause-known : goal.returns-in-Ok-clause-known
returns-in-Ok-clause-known c =
    let task_is : length c.self.inside.standings ≡ c.args.task = omega arith in
    rw (← c.self.view_is, c.extend-more.ensures.after, c.make_room.ensures.items) (record {
      known = λ u. row-known c.self.inside.standings c.extend-more.result u ∙ ap (λ t. in_row t (t + c.extend-more.result) u || slice_index_or (map knows c.self.inside.standings) u false) task_is;
      waiting = refl;
    })
