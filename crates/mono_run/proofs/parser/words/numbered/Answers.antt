use Rattle.std.proofs.Common.{◌≡◌, ℕ, List, None, Some, length, rules}
use Rattle.mono_text.specs.Parser.{word_at, number_at}
use Rattle.mono_text.proofs.NumberLemmas.{if_none}
use Rattle.mono_run.proofs.SpellingLemmas.{no_word, no_number_behind, number_behind, more_behind}
use Rattle.mono_run.proofs.parser.words.numbered.Goals as goal

pub returns-then-not-take-clause-none : goal.returns-then-not-take-clause-none
returns-then-not-take-clause-none c =
    let none : word_at c.args.word.now c.args.text.now ≡ None = rw (c.new-reader.ensures, c.if-not-take.true) at c.take.ensures.found in
    λ n l e. no_word c.args.word.now c.args.text.now n none e

pub returns-in_err-n-clause-none : goal.returns-in_err-n-clause-none
returns-in_err-n-clause-none c =
    let some : word_at c.args.word.now c.args.text.now ≡ Some c.take.new.self.rest.now = rw (c.new-reader.ensures, c.if-not-take.false) at c.take.ensures.found in
    if_none c.from_residual.result (λ n l e. no_number_behind c.args.word.now c.args.text.now c.take.new.self.rest.now n some c.in_err-n.ensures l e)

pub returns-then-is_empty-clause-found : goal.returns-then-is_empty-clause-found
returns-then-is_empty-clause-found c =
    let some : word_at c.args.word.now c.args.text.now ≡ Some c.take.new.self.rest.now = rw (c.new-reader.ensures, c.if-not-take.false) at c.take.ensures.found in
    let empty : length c.number.new.self.rest.now ≡ 0 = search rules in
    number_behind c.args.word.now c.args.text.now c.take.new.self.rest.now c.number.new.self.rest.now c.in_ok-n.n some c.in_ok-n.ensures empty

pub returns-else-is_empty-clause-none : goal.returns-else-is_empty-clause-none
returns-else-is_empty-clause-none c =
    let some : word_at c.args.word.now c.args.text.now ≡ Some c.take.new.self.rest.now = rw (c.new-reader.ensures, c.if-not-take.false) at c.take.ensures.found in
    let more : length c.number.new.self.rest.now ≡ 0 → ⊥ = search rules in
    λ n l e. more_behind c.args.word.now c.args.text.now c.take.new.self.rest.now c.number.new.self.rest.now c.in_ok-n.n n some c.in_ok-n.ensures more l e
