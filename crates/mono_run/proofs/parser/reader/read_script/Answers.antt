use Rattle.std.proofs.Common.{◌≡◌, ◌<◌, length, arith, rules}
use Rattle.mono_run.proofs.FrontLemmas.{unended_first, wrong_first, first_read, unended_next, bad_next, next_read, missing_next}
use Rattle.mono_run.proofs.parser.reader.read_script.Goals as goal

pub returns-in_default : goal.returns-in_default
returns-in_default c = unended_first c.args.input.now (rw c.new-pieces.ensures at c.in_default.ensures.none)

pub returns-in_default-limits_in : goal.returns-in_default-limits_in
returns-in_default-limits_in c =
    let cut = rw c.new-pieces.ensures at c.in-Some.ensures.line in
    wrong_first c.args.input.now c.in-Some.first.now c.line.new.self.rest.now cut.0 cut.1 c.in_default-limits_in.ensures.none

pub lines-init : goal.lines-init
lines-init c =
    let cut = rw c.new-pieces.ensures at c.in-Some.ensures.line in
    first_read c.args.input.now c.count_tasks-kinds.result c.in-Some-limits_in.limits c.new-front.result c.in-Some.first.now c.line.new.self.rest.now c.count_tasks-kinds.ensures cut.0 cut.1
    c.in-Some-limits_in.ensures.found.0 c.in-Some-limits_in.ensures.found.1 c.new-front.ensures

pub returns-in_default-line : goal.returns-in_default-line
returns-in_default-line c =
    let some : 0 < length c.lines.pieces.rest.now = search rules in
    unended_next c.args.input.now c.count_tasks-kinds.result c.lines.front c.lines.count c.lines.pieces.rest.now c.lines.invariant c.in_default-line.ensures.none (λ e. omega (arith, e, some))

pub returns-then-not-branch : goal.returns-then-not-branch
returns-then-not-branch c =
    bad_next c.args.input.now c.count_tasks-kinds.result c.lines.front c.lines.count c.lines.pieces.rest.now c.in-Some-line.text.now c.line-in-lines.new.self.rest.now c.lines.invariant c.in-Some-line.ensures.line.0 c.in-Some-line.ensures.line.1
    (c.in_ok-put.ensures.refused c.if-not-branch.true)

pub lines-preserved : goal.lines-preserved
lines-preserved c =
    next_read c.args.input.now c.count_tasks-kinds.result c.lines.front c.put.new.self c.lines.count c.lines.pieces.rest.now c.in-Some-line.text.now c.line-in-lines.new.self.rest.now c.lines.invariant c.in-Some-line.ensures.line.0 c.in-Some-line.ensures.line.1
    (c.in_ok-put.ensures.taken c.if-not-branch.false)

pub returns-in-None : goal.returns-in-None
returns-in-None c =
    let none : length c.lines.pieces.rest.now ≡ 0 = search rules in
    missing_next c.args.input.now c.count_tasks-kinds.result c.lines.front c.lines.count c.lines.pieces.rest.now c.lines.invariant none c.in-None.ensures.none
