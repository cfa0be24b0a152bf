use Rattle.std.proofs.Common.{◌+◌, ◌++◌, ◌∷◌, [], take, ap, ◌∙◌, append_assoc, arith}
use Rattle.mono_text.specs.LineText.{any_number}
use Rattle.mono_text.proofs.DigitCountLemmas.{front_kept}
use Rattle.mono_text.proofs.printer.put_closed.Goals as goal

pub returns : goal.returns
returns c =
    let old = c.args.out.now.items in
    let front = c.write_any-end.ensures.written ∙ front_kept old c.args.word.now c.extend_from_slice.new.self.items (any_number c.args.n) (c.len.result + c.args.len) c.args.len (omega arith) c.in_ok-extend_from_slice.ensures.items in
    c.close.ensures ∙ ap (λ xs. xs ++ 10 ∷ []) front ∙ append_assoc old (take c.args.len c.args.word.now ++ any_number c.args.n) (10 ∷ [])
