use Rattle.std.proofs.Common.{rules, ◌≡◌, Some, None, codes, ◌∙◌, arith}
use Rattle.mono_text.specs.Parser.{word_at}
use Rattle.mono_lines.specs.ReportParser.{reply_at, ended_at}
use Rattle.mono_lines.proofs.ReportTurnLemmas.{replies-none_left, replies-no_break, replies-end, replies-no_reply, replies-next}
use Rattle.mono_lines.proofs.trace.reports.replies.Goals as goal

pub returns-then-not-take : goal.returns-then-not-take
returns-then-not-take c =
    let no : word_at (codes "; ") c.parts.reader.rest.now ≡ None = search rules in
    c.parts.invariant ∙ replies-no_break _ _ _ _ (omega arith) no

pub returns-in-Some : goal.returns-in-Some
returns-in-Some c =
    let some : word_at (codes "; ") c.parts.reader.rest.now ≡ Some c.take.new.self.rest.now = search rules in
    c.parts.invariant ∙ replies-end _ _ _ _ c.take.new.self.rest.now c.in-Some.ended c.turn_end.new.reader.rest.now (omega arith) some c.in-Some.ensures.found

pub returns-in_default-reply : goal.returns-in_default-reply
returns-in_default-reply c =
    let some : word_at (codes "; ") c.parts.reader.rest.now ≡ Some c.take.new.self.rest.now = search rules in
    let end : ended_at c.take.new.self.rest.now ≡ None = search rules in
    let none : reply_at c.take.new.self.rest.now ≡ None = search rules in
    c.parts.invariant ∙ replies-no_reply _ _ _ _ c.take.new.self.rest.now (omega arith) some end none

pub returns : goal.returns
returns c = c.parts.invariant ∙ replies-none_left _ _ _ _ (omega arith)

pub parts-preserved : goal.parts-preserved
parts-preserved c =
    let some : word_at (codes "; ") c.parts.reader.rest.now ≡ Some c.take.new.self.rest.now = search rules in
    let end : ended_at c.take.new.self.rest.now ≡ None = search rules in
    let next : reply_at c.take.new.self.rest.now ≡ Some (c.in-Some-reply.item, c.reply.new.reader.rest.now) = search rules in
    rw c.in_ok-push.ensures.ok (c.parts.invariant ∙ replies-next _ _ _ _ _ c.take.new.self.rest.now c.in-Some-reply.item c.reply.new.reader.rest.now (omega arith) some end next)
