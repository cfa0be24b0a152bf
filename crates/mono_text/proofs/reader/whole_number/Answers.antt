use Rattle.std.proofs.Common.{◌≡◌, ◌<◌, None, Some, length, rules}
use Rattle.mono_text.specs.Parser.{number_at}
use Rattle.mono_text.proofs.NumberLemmas.{if_none, whole, no_number, not_whole}
use Rattle.mono_text.proofs.reader.whole_number.Goals as goal

pub returns-in_err-n-clause-none : goal.returns-in_err-n-clause-none
returns-in_err-n-clause-none c =
    let none : number_at c.args.text.now ≡ None = rw c.new-reader.ensures at c.in_err-n.ensures in
    if_none c.from_residual.result (no_number c.args.text.now none)

pub returns-then-is_empty-clause-found : goal.returns-then-is_empty-clause-found
returns-then-is_empty-clause-found c =
    let some : number_at c.args.text.now ≡ Some (c.in_ok-n.n, c.number.new.self.rest.now) = rw c.new-reader.ensures at c.in_ok-n.ensures in
    let empty : length c.number.new.self.rest.now ≡ 0 = search rules in
    whole c.args.text.now c.in_ok-n.n c.number.new.self.rest.now some empty

pub returns-else-is_empty-clause-none : goal.returns-else-is_empty-clause-none
returns-else-is_empty-clause-none c =
    let some : number_at c.args.text.now ≡ Some (c.in_ok-n.n, c.number.new.self.rest.now) = rw c.new-reader.ensures at c.in_ok-n.ensures in
    let more : 0 < length c.number.new.self.rest.now = search rules in
    not_whole c.args.text.now c.in_ok-n.n c.number.new.self.rest.now some more
