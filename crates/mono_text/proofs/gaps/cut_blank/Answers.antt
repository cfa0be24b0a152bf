use Rattle.std.proofs.Common.{◌∷◌, arith, take, sym, ◌∙◌, ap}
use Rattle.mono_text.specs.Gaps as spec
use Rattle.mono_text.proofs.WordEndLemmas.{all_behind, piece_ends, one_piece}
use Rattle.mono_text.proofs.gaps.cut_blank.Goals as goal

pub returns-then-is_blank-clause-behind : goal.returns-then-is_blank-clause-behind
returns-then-is_blank-clause-behind c =
    piece_ends c.args.bytes.now c.bytes.place c.bytes-test.true c.bytes.invariant.none (sym c.is_blank.ensures ∙ c.if-is_blank.true)
    ∙ ap (λ rest. take c.bytes.place c.args.bytes.now ∷ spec.pieces rest) (sym (all_behind c.args.bytes.now c.bytes.place))

pub returns-clause-last : goal.returns-clause-last
returns-clause-last c = one_piece c.args.bytes.now (λ k less. c.bytes.invariant.none k (omega (arith, less, c.bytes-test.false)))
