use Rattle.std.proofs.Common.{rules, ◌≡◌, Some, None, codes, ◌∙◌, arith, sym}
use Rattle.mono_text.specs.Parser.{word_at, step_at}
use Rattle.mono_text.proofs.TurnPartLemmas.{parts-none_left, parts-no_break, parts-end, parts-bad_end, parts-no_step, parts-next}
use Rattle.mono_text.proofs.reader.Reader.parts.Goals as goal

pub returns-then-not-take : goal.returns-then-not-take
returns-then-not-take c =
    let no : word_at (codes "; ") c.parts.self.rest.now ≡ None = search rules in
    c.parts.invariant ∙ parts-no_break _ _ _ (omega arith) no

pub returns-in-Ends : goal.returns-in-Ends
returns-in-Ends c =
    let some : word_at (codes "; ") c.parts.self.rest.now ≡ Some c.take.new.self.rest.now = search rules in
    c.parts.invariant ∙ parts-end _ _ _ c.take.new.self.rest.now c.in-Ends.end c.turn_end.new.self.rest.now (omega arith) some c.in-Ends.ensures

pub returns-in-IsBad : goal.returns-in-IsBad
returns-in-IsBad c =
    let some : word_at (codes "; ") c.parts.self.rest.now ≡ Some c.take.new.self.rest.now = search rules in
    c.parts.invariant ∙ parts-bad_end _ _ _ c.take.new.self.rest.now (omega arith) some c.in-IsBad.ensures

pub returns-in_default : goal.returns-in_default
returns-in_default c =
    let some : word_at (codes "; ") c.parts.self.rest.now ≡ Some c.take.new.self.rest.now = search rules in
    let none : step_at c.take.new.self.rest.now ≡ None = rw (sym c.in-IsStep.ensures.1) c.in_default.ensures in
    c.parts.invariant ∙ parts-no_step _ _ _ c.take.new.self.rest.now (omega arith) some c.in-IsStep.ensures.0 none

pub parts-preserved : goal.parts-preserved
parts-preserved c =
    let some : word_at (codes "; ") c.parts.self.rest.now ≡ Some c.take.new.self.rest.now = search rules in
    let next : step_at c.take.new.self.rest.now ≡ Some (c.in-Some.step, c.step.new.self.rest.now) = rw (sym c.in-IsStep.ensures.1) c.in-Some.ensures in
    rw c.in_ok-push-in-IsStep.ensures.ok (c.parts.invariant ∙ parts-next _ _ _ _ c.take.new.self.rest.now c.in-Some.step c.step.new.self.rest.now (omega arith) some c.in-IsStep.ensures.0 next)

pub returns : goal.returns
returns c = c.parts.invariant ∙ parts-none_left _ _ _ (omega arith)
