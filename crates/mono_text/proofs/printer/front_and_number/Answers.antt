use Rattle.std.proofs.Common.{◌+◌, decimal, ◌∙◌, arith}
use Rattle.mono_text.proofs.DigitCountLemmas.{front_kept}
use Rattle.mono_text.proofs.printer.front_and_number.Goals as goal

pub returns : goal.returns
returns c =
    c.truncate.ensures.items ∙ c.write_number-end.ensures.written
    ∙ front_kept c.args.out.now.items c.args.word.now c.extend_from_slice.new.self.items (decimal c.args.n) (c.len.result + c.args.len) c.args.len (omega arith) c.in_ok-extend_from_slice.ensures.items
