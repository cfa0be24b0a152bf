use Rattle.std.proofs.Common.{◌≡◌, ◌+◌, refl, ap, ◌∙◌, arith}
use Rattle.std.specs.Prelude.{◌&&◌, not}
use Rattle.mono_inbox.specs.State.{is_known, in_row}
use Rattle.mono_inbox.proofs.RowLemmas.{row_empty, row_rest}
use Rattle.mono_inbox.proofs.inbox.retire_row_of.Goals as goal

pub loop-done-init : goal.loop-done-init
loop-done-init c = (omega arith, record { known = λ t. row_empty c.args.from t (is_known c.args.state.now t); waiting = refl })

pub loop-done-preserved : goal.loop-done-preserved
loop-done-preserved c =
    let before = c.loop-done.invariant in
    let done = c.loop-done.done in
    let more = c.retire_next_of-done.result in
    let until : c.args.from + done + more ≡ c.args.from + (done + more) = omega arith in (
      omega (arith, before.0, c.retire_next_of-done.ensures.most),
      record {
        known = λ t. row_rest c.args.from (c.args.from + done) (c.args.from + done + more) t _ _ _ (omega arith) (omega arith) (before.1.known t) (c.retire_next_of-done.ensures.known.known t)
            ∙ ap (λ u. not (in_row c.args.from u t) && is_known c.args.state.now t) until;
        waiting = c.retire_next_of-done.ensures.known.waiting ∙ before.1.waiting;
      },
    )

pub returns : goal.returns
returns c =
    let before = c.loop-done.invariant in
    let all : c.loop-done.done ≡ c.args.count = omega (arith, before.0, c.loop-done-test.false) in
    record {
      known = λ t. before.1.known t ∙ ap (λ n. not (in_row c.args.from (c.args.from + n) t) && is_known c.args.state.now t) all;
      waiting = before.1.waiting;
    }
