use Rattle.mono_session.proofs.EntryLemmas.{key_stands, not_left}
use Rattle.mono_session.proofs.entries.Entries.leave_first.Goals as goal

pub returns-then-not-leave-clause-key : goal.returns-then-not-leave-clause-key
returns-then-not-leave-clause-key c = λ entries entered.
    absurd (not_left entries c.args.session c.in_ok-key.key (c.in_ok-key.ensures entries entered) (c.if-not-leave.ensures.stood entries entered))

pub returns-then-not-leave-clause-kept : goal.returns-then-not-leave-clause-kept
returns-then-not-leave-clause-kept c = λ entries entered.
    absurd (not_left entries c.args.session c.in_ok-key.key (c.in_ok-key.ensures entries entered) (c.if-not-leave.ensures.stood entries entered))

pub returns-clause-kept : goal.returns-clause-kept
returns-clause-kept c = λ entries entered. c.leave.ensures.kept entries entered (key_stands entries c.args.session c.in_ok-key.key (c.in_ok-key.ensures entries entered))
