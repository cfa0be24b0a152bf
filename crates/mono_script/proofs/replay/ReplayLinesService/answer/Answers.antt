use Rattle.mono_script.proofs.FollowLemmas.{report_told}
use Rattle.mono_script.proofs.replay.ReplayLinesService.answer.Goals as goal

pub returns : goal.returns
returns c = report_told c.args.self.now.exec c.apply_reusing.new.self c.args.call c.in_ok-report.report c.args.out.now.items c.report_line.new.out.items c.in_ok-report.ensures.step c.in_ok-report_line.ensures
