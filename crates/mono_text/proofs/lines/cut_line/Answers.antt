use Rattle.std.proofs.Common.{◌∷◌, true, arith, take, sym, ◌∙◌, ap}
use Rattle.mono_text.specs.Lines.{lines}
use Rattle.mono_text.proofs.WordEndLemmas.{all_behind, line_ends, only_line}
use Rattle.mono_text.proofs.lines.cut_line.Goals as goal

pub returns-then-bytes-place-eq10-clause-behind : goal.returns-then-bytes-place-eq10-clause-behind
returns-then-bytes-place-eq10-clause-behind c =
    line_ends c.args.bytes.now c.bytes.place c.bytes-test.true c.bytes.invariant.none c.if-bytes-place-eq10.true
    ∙ ap (λ rest. record { bytes = take c.bytes.place c.args.bytes.now; is_ended = true } ∷ lines rest) (sym (all_behind c.args.bytes.now c.bytes.place))

pub returns-clause-last : goal.returns-clause-last
returns-clause-last c = only_line c.args.bytes.now c.requires (λ k less. c.bytes.invariant.none k (omega (arith, less, c.bytes-test.false)))
