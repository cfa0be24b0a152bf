use Rattle.std.proofs.Common.{◌∷◌, arith, take, sym, ◌∙◌, ap}
use Rattle.mono_text.specs.Words as spec
use Rattle.mono_text.proofs.WordEndLemmas.{all_behind, word_ends, one_word}
use Rattle.mono_text.proofs.words.cut.Goals as goal

pub returns-then-is_gap-clause-behind : goal.returns-then-is_gap-clause-behind
returns-then-is_gap-clause-behind c =
    word_ends c.args.bytes.now c.bytes.place c.bytes-test.true c.bytes.invariant.none (sym c.is_gap.ensures ∙ c.if-is_gap.true)
    ∙ ap (λ rest. take c.bytes.place c.args.bytes.now ∷ spec.words rest) (sym (all_behind c.args.bytes.now c.bytes.place))

pub returns-clause-last : goal.returns-clause-last
returns-clause-last c = one_word c.args.bytes.now (λ k less. c.bytes.invariant.none k (omega (arith, less, c.bytes-test.false)))
