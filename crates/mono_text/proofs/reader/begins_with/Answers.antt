use Rattle.std.proofs.Common.{arith, refl, ◌∙◌}
use Rattle.std.proofs.lemmas.Bool.{ne_eqb}
use Rattle.mono_text.proofs.PrefixLemmas.{word_short, word_goes_on, word_ends, word_through}
use Rattle.mono_text.proofs.reader.begins_with.Goals as goal

pub returns-then-text-word-clause-cut : goal.returns-then-text-word-clause-cut
returns-then-text-word-clause-cut c = word_short c.args.word.now c.args.text.now c.if-text-word.true

pub bytes-init : goal.bytes-init
bytes-init c = refl

pub returns-then-text-i-clause-cut : goal.returns-then-text-i-clause-cut
returns-then-text-i-clause-cut c =
    c.bytes.invariant ∙ word_ends c.args.word.now c.args.text.now c.bytes.i c.bytes-test.true (omega arith) (ne_eqb _ _ c.if-text-i.true)

pub bytes-preserved : goal.bytes-preserved
bytes-preserved c =
    c.bytes.invariant ∙ word_goes_on c.args.word.now c.args.text.now c.bytes.i c.bytes-test.true (omega arith) c.if-text-i.false

pub returns-clause-cut : goal.returns-clause-cut
returns-clause-cut c = c.bytes.invariant ∙ word_through c.args.word.now c.args.text.now c.bytes.i (omega arith)
