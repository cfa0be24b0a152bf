use Rattle.std.proofs.Common.{◌++◌, ap, sym, ◌∙◌}
use Rattle.lease_server.specs.Answers.{answer_lines, all_of, by_core}
use Rattle.lease_server.proofs.AnswerLemmas.{appended}
use Rattle.lease_server.proofs.texts.Text.put_replies.Goals as goal

pub invariant_of-self : goal.invariant_of-self
invariant_of-self c = record { lines = appended c.args.self.now.said.entries c.args.stamp.now.core c.args.replies.now c.args.self.now.bytes.items c.put_replies.new.out.items c.told-self.result.entries c.args.self.now.lines c.in-Ok.ensures c.told-self.ensures }
