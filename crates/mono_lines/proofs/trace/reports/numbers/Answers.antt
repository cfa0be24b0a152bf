use Rattle.std.proofs.Common.{rules, ◌≡◌, Some, None, codes, ◌∙◌, arith}
use Rattle.mono_text.specs.Parser.{word_at, number_at}
use Rattle.mono_lines.proofs.ReportTurnLemmas.{numbers-none_left, numbers-no_break, numbers-no_number, numbers-next}
use Rattle.mono_lines.proofs.trace.reports.numbers.Goals as goal

pub returns-then-not-take : goal.returns-then-not-take
returns-then-not-take c =
    let no : word_at (codes " ") c.numbers.reader.rest.now ≡ None = search rules in
    let kept : c.take.new.self.rest.now ≡ c.numbers.reader.rest.now = search rules in
    rw kept (c.numbers.invariant ∙ numbers-no_break _ _ _ (omega arith) no)

pub returns-in_default : goal.returns-in_default
returns-in_default c =
    let some : word_at (codes " ") c.numbers.reader.rest.now ≡ Some c.take.new.self.rest.now = search rules in
    let none : number_at c.take.new.self.rest.now ≡ None = search rules in
    c.numbers.invariant ∙ numbers-no_number _ _ _ c.take.new.self.rest.now (omega arith) some none

pub returns : goal.returns
returns c = c.numbers.invariant ∙ numbers-none_left _ _ _ (omega arith)

pub numbers-preserved : goal.numbers-preserved
numbers-preserved c =
    let some : word_at (codes " ") c.numbers.reader.rest.now ≡ Some c.take.new.self.rest.now = search rules in
    let next : number_at c.take.new.self.rest.now ≡ Some (c.in-Some.n, c.number.new.self.rest.now) = search rules in
    rw c.in_ok-push.ensures.ok (c.numbers.invariant ∙ numbers-next _ _ _ _ c.take.new.self.rest.now c.in-Some.n c.number.new.self.rest.now (omega arith) some next)
