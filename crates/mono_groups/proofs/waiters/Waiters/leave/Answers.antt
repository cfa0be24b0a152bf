use Rattle.std.proofs.Common.{◌≡◌, refl, rules, tests}
use Rattle.std.proofs.lemmas.Fn.{filter_same}
use Rattle.mono_groups.specs.Waiters.{without}
use Rattle.mono_groups.proofs.waiters.Waiters.leave.Goals as goal

pub returns-in-Some : goal.returns-in-Some
returns-in-Some c =
    let left : c.retain.new.self.items ≡ without c.args.self.now.entries.items c.in-Some.ticket c.args.me = filter_same _ _ _ (λ x b f' k. search (rules, tests)) _ _ c.retain.ensures.filtered in
    rw c.in-Some.is (left, refl)
