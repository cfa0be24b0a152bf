use Rattle.std.proofs.Common.{◌≡◌, ◌<◌, ◌+◌, length, refl, rules, arith, subst, sym}
use Rattle.mono_machine.specs.Machine.{start_machine}
use Rattle.mono_trace.specs.Refinement.{machine_of}
use Rattle.mono_lines.specs.CheckProgress.{HasFewArms}
use Rattle.mono_lines.proofs.CheckLemmas.{started, one_more, all_read, first_bad}
use Rattle.mono_lines.proofs.trace.checks.read_lines.Goals as goal

pub lines-preserved : goal.lines-preserved
lines-preserved c =
    let taken = c.in_ok-take_next.ensures.taken c.if-not-branch.false in (
      one_more c.args.is_whole c.args.limits c.args.blocking c.args.input.now c.lines.count c.lines.checking.failed c.take_next.new.checking.failed (machine_of c.lines.checking.trace) (machine_of c.take_next.new.checking.trace)
          c.lines.order c.take_next.new.order c.lines.reader.rest.now c.take_next.new.reader.rest.now taken.0 c.lines.invariant.0 taken.1 taken.2 taken.3,
      c.in_ok-take_next.ensures.few,
    )

pub returns-then-not-branch : goal.returns-then-not-branch
returns-then-not-branch c =
    let some : 0 < length c.lines.reader.rest.now = search rules in
    first_bad c.args.is_whole c.args.limits c.args.blocking c.args.input.now c.lines.count c.lines.checking.failed (machine_of c.lines.checking.trace) c.lines.order c.lines.reader.rest.now c.lines.invariant.0 some
    (c.in_ok-take_next.ensures.none c.if-not-branch.true)

pub lines-init : goal.lines-init
lines-init c =
    let start = start_machine c.args.limits c.args.blocking in
    let few : HasFewArms 0 start = omega arith in
    (rw c.new-reader.ensures (started c.args.is_whole c.args.limits c.args.blocking c.args.input.now (machine_of c.new.result) c.new-order.result c.new.ensures c.new-order.ensures), subst (HasFewArms 0) (sym c.new.ensures) few)

pub returns : goal.returns
returns c =
    let rest = c.lines.reader.rest.now in
    let none : length rest ≡ 0 = search rules in
    all_read c.args.is_whole c.args.limits c.args.blocking c.args.input.now c.lines.count (machine_of c.lines.checking.trace) rest
    (record { failed = c.lines.checking.failed; order = c.lines.order; next = c.lines.count + 1 }) c.lines.invariant.0 none refl
