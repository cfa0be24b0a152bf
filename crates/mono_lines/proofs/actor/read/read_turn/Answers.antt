use Rattle.std.proofs.Common.{rules, ◌≡◌, Some, None, codes, sym}
use Rattle.mono_text.specs.Parser.{word_at}
use Rattle.mono_lines.specs.ActorParser.{part_at}
use Rattle.mono_lines.proofs.ActorTurnLemmas.{no_break, ends, no_part, one_more, fewer_left}
use Rattle.mono_lines.proofs.actor.read.read_turn.Goals as goal

pub returns-in-Some : goal.returns-in-Some
returns-in-Some c =
    let some : word_at (codes "; ") c.parts.reader.rest.now ≡ Some c.take.new.self.rest.now = search rules in
    ends _ _ _ c.take.new.self.rest.now c.in-Some.stop c.read_stop.new.reader.rest.now c.parts.invariant some c.in-Some.ensures.stop

pub returns-in_default-read_part : goal.returns-in_default-read_part
returns-in_default-read_part c =
    let some : word_at (codes "; ") c.parts.reader.rest.now ≡ Some c.take.new.self.rest.now = search rules in
    let none : part_at c.take.new.self.rest.now ≡ None = rw (sym c.in_default.ensures.kept) c.in_default-read_part.ensures in
    no_part _ _ _ c.take.new.self.rest.now c.parts.invariant some c.in_default.ensures.stop none

pub parts-smaller : goal.parts-smaller
parts-smaller c =
    let some : word_at (codes "; ") c.parts.reader.rest.now ≡ Some c.take.new.self.rest.now = search rules in
    let part : part_at c.take.new.self.rest.now ≡ Some (c.in-Some-read_part.handed, c.read_part.new.reader.rest.now) = rw (sym c.in_default.ensures.kept) c.in-Some-read_part.ensures in
    fewer_left _ c.take.new.self.rest.now _ _ some part

pub parts-preserved : goal.parts-preserved
parts-preserved c =
    let some : word_at (codes "; ") c.parts.reader.rest.now ≡ Some c.take.new.self.rest.now = search rules in
    let part : part_at c.take.new.self.rest.now ≡ Some (c.in-Some-read_part.handed, c.read_part.new.reader.rest.now) = rw (sym c.in_default.ensures.kept) c.in-Some-read_part.ensures in
    rw c.in_ok-push.ensures.ok (one_more _ _ _ c.take.new.self.rest.now c.in-Some-read_part.handed c.read_part.new.reader.rest.now c.parts.invariant some c.in_default.ensures.stop part)

pub returns : goal.returns
returns c =
    let no : word_at (codes "; ") c.parts.reader.rest.now ≡ None = search rules in
    no_break _ _ _ c.parts.invariant no
