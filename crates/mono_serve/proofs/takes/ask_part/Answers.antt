use Rattle.std.proofs.Common.{sym, subst}
use Rattle.mono_sync.specs.Runs.{leads_by}
use Rattle.mono_time.specs.Instants.{nanos_of}
use Rattle.mono_serve.specs.BucketCalls.{Asks, asked, Step}
use Rattle.mono_serve.proofs.BucketWaits.{asks_keep}
use Rattle.mono_serve.proofs.takes.ask_part.Goals as goal

pub returns-clause-leads : goal.returns-clause-leads
returns-clause-leads g c =
    g.met.W.Holds.leads_with _ _ (leads_by Step (asked (nanos_of c.args.now) c.args.ticket c.args.bucket c.args.n c.args.me c.ask.result) _ _ (rw c.part_mut.ensures.value at c.ask.ensures))

pub returns-clause-answer : goal.returns-clause-answer
returns-clause-answer g c =
    subst (λ x. Asks (g.W.Holds.part c.args.whole.now) (nanos_of c.args.now) c.args.ticket c.args.bucket c.args.n c.args.me c.ask.result x) (sym (g.met.W.Holds.part_with c.args.whole.now c.ask.new.self))
    (rw c.part_mut.ensures.value at c.ask.ensures)

pub returns-clause-keeps : goal.returns-clause-keeps
returns-clause-keeps g c =
    g.met.W.Holds.keeps_with c.args.me _ _ (asks_keep c.args.me _ _ (nanos_of c.args.now) c.args.ticket c.args.bucket c.args.n c.ask.result (rw c.part_mut.ensures.value at c.ask.ensures))
