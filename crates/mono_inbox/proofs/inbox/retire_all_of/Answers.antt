use Rattle.std.proofs.Common.{ap, sym, ◌∙◌, arith}
use Rattle.std.specs.Prelude.{◌&&◌, not}
use Rattle.mono_model.specs.Inbox.{is_waiting}
use Rattle.mono_inbox.specs.State.{is_known}
use Rattle.mono_inbox.proofs.RowLemmas.{forgets_row, none_left}
use Rattle.mono_inbox.proofs.inbox.retire_all_of.Goals as goal

pub loop-at-preserved : goal.loop-at-preserved
loop-at-preserved c =
    let before = c.loop-at.invariant in (
      λ t. forgets_row c.args.tasks.now c.loop-at.at _ c.row_length-count.result t _ _ _ c.row_length-count.ensures.inside c.row_length-count.ensures.row (c.retire_row_of.ensures.known t) (before.0 t),
      c.retire_row_of.ensures.waiting ∙ before.1,
    )

pub returns : goal.returns
returns c =
    let before = c.loop-at.invariant in
    record {
      known = λ t. ap (λ xs. not (is_waiting xs t) && is_known c.loop-at.state t) (sym (none_left c.args.tasks.now c.loop-at.at (omega (arith, c.loop-at-test.false)))) ∙ before.0 t;
      waiting = before.1;
    }
