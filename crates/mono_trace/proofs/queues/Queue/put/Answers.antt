use Rattle.std.proofs.Common.{ℕ, List, ap, ◌∙◌}
use Rattle.mono_trace.specs.Queues.{unmoved}
use Rattle.mono_trace.proofs.TableCallLemmas.{put_last}
use Rattle.mono_trace.proofs.queues.Queue.put.Goals as goal

pub returns : goal.returns
returns c =
    let old = c.self.inside in
    let new = c.push_back.new.self.items in
    let before = put_last old.items.items new old.moves.items c.push.new.self.items c.args.t c.in_ok-push_back.ensures.items c.in_ok-push.ensures.items in
    rw (← c.self.view_is)
    (ap (λ (b : List ℕ). record { now = new; before = b }) before ∙ ap (λ (xs : List ℕ). record { now = xs; before = unmoved old.moves.items old.items.items }) c.in_ok-push_back.ensures.items)
