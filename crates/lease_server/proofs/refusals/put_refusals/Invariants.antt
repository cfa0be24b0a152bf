use Rattle.std.proofs.Common.{◌≡◌, ◌++◌, take}
use Rattle.lease_server.specs.Answers.{refusals_of}
use Rattle.lease_server.specs.Texts.{said_by}
use Rattle.lease_server.proofs.refusals.put_refusals.Given as goal

abbrev pub invariant-loop-number : goal.invariant-loop-number
invariant-loop-number l = said_by l.out ≡ said_by l.fn.out ++ refusals_of (take l.number-index l.numbers)
