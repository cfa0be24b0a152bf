use Rattle.std.proofs.Common.{ap, ◌∙◌, ◌≡◌, arith}
use Rattle.mono_rt.specs.EndedTasks.{closed_in}
use Rattle.mono_rt.proofs.EndedTaskLemmas.{closed_alone, no_room}
use Rattle.mono_rt.proofs.wakers.Wakers.close.Goals as goal
use Rattle.mono_rt.proofs.wakers.Wakers.close.Goals.{then-is_none, else-is_none}

pub returns : goal.returns
returns g c =
    let same : closed_in c.if-is_none.self.retired.entries c.if-is_none.self.ended.items ≡ closed_in c.args.self.now.retired.entries c.args.self.now.ended.items = elim c.if-is_none.branch [
      | then-is_none w ↦ ap (λ s. closed_in s.retired.entries s.ended.items) w.self-is
      | else-is_none w ↦ ap (λ s. closed_in s.retired.entries s.ended.items) w.self-is
    ] in
    let none = no_room _ _ _ c.make_room.ensures.room (λ less. omega (arith, less, c.if-len-capacity.false, c.len.ensures, c.capacity.ensures)) in
    record {
      closed = closed_alone c.make_room.new.self.retired.entries c.told-self.result.entries c.make_room.new.self.ended.items _ c.args.task c.told-self.ensures none (c.make_room.ensures.closed ∙ same);
    }
