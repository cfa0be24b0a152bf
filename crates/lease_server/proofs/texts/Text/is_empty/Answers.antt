use Rattle.std.proofs.Common.{◌≡◌, [], length, sym, arith, ◌∙◌}
use Rattle.std.proofs.lemmas.List.{nil_from_length}
use Rattle.lease_server.specs.Answers.{all_of}
use Rattle.lease_server.proofs.AnswerLemmas.{none_said}
use Rattle.lease_server.proofs.texts.Text.is_empty.Goals as goal

pub returns : goal.returns
returns c = λ is.
    let none : length c.args.self.now.bytes.items ≡ 0 = omega arith in
    none_said (all_of c.args.self.now.said.entries) (sym c.args.self.now.lines ∙ nil_from_length c.args.self.now.bytes.items none)
