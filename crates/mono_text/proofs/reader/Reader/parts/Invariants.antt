use Rattle.std.proofs.Common.{◌≡◌, ◌-◌, [], length}
use Rattle.mono_text.specs.Parser.{parts_at}
use Rattle.mono_text.proofs.reader.Reader.parts.Given as goal

abbrev pub invariant-parts : goal.invariant-parts
invariant-parts l = parts_at (length l.fn.self.rest.now) [] l.fn.self.rest.now ≡ parts_at (l.end - l.counter) l.steps l.self.rest.now
