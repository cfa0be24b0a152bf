use Rattle.std.proofs.Common.{◌≡◌, None, Some, length, rules}
use Rattle.mono_text.proofs.NumberLemmas.{if_none}
use Rattle.mono_run.specs.Parser.{limits_at}
use Rattle.mono_run.proofs.SpellingLemmas.{limits_found, no_limits, more_than_limits}
use Rattle.mono_run.proofs.parser.words.limits_in.Goals as goal

pub returns-in_err-limits-clause-none : goal.returns-in_err-limits-clause-none
returns-in_err-limits-clause-none c =
    let none : limits_at c.args.text.now ≡ None = rw c.new-reader.ensures at c.in_err-limits.ensures in
    if_none c.from_residual.result (no_limits c.args.text.now none)

pub returns-then-is_empty-clause-found : goal.returns-then-is_empty-clause-found
returns-then-is_empty-clause-found c =
    let some : limits_at c.args.text.now ≡ Some (c.in_ok-limits.limits, c.three_limits.new.reader.rest.now) = rw c.new-reader.ensures at c.in_ok-limits.ensures in
    let empty : length c.three_limits.new.reader.rest.now ≡ 0 = search rules in
    limits_found c.args.text.now c.in_ok-limits.limits c.three_limits.new.reader.rest.now some empty

pub returns-else-is_empty-clause-none : goal.returns-else-is_empty-clause-none
returns-else-is_empty-clause-none c =
    let some : limits_at c.args.text.now ≡ Some (c.in_ok-limits.limits, c.three_limits.new.reader.rest.now) = rw c.new-reader.ensures at c.in_ok-limits.ensures in
    let more : length c.three_limits.new.reader.rest.now ≡ 0 → ⊥ = search rules in
    more_than_limits c.args.text.now c.in_ok-limits.limits c.three_limits.new.reader.rest.now some more
