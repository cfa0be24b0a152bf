use Rattle.std.proofs.Common.{false, Ok, Err, refl, rules}
use Rattle.mono_channel.specs.Owned.{IntoSendGives}
use Rattle.mono_channel.specs.Spent.{sends_by}
use Rattle.mono_forms.proofs.SendLemmas.{sends_later, sends_one}
use Rattle.mono_forms.proofs.sends.SendAll.go_on.Goals as goal

pub returns-in-Pending-clause-leaves : goal.returns-in-Pending-clause-leaves
returns-in-Pending-clause-leaves g c = record {
  unspent = c.in-Pending.ensures.again;
  callable = c.requires.callable;
  narrows = λ x h. sends_later g.I.Iterator.next_gives c.args.items (sends_by c.args.send) x (sends_by c.poll.new.self) c.in-Pending.ensures.same h;
}

pub returns-in-Ok-clause-leaves : goal.returns-in-Ok-clause-leaves
returns-in-Ok-clause-leaves g c =
    let given : IntoSendGives (sends_by c.args.send) c.in-Ready.sender c.in-Ready.answer = search rules in record {
      unspent = refl {a = false};
      callable = c.requires.callable;
      narrows = λ x h. sends_one g.I.Iterator.next_gives c.args.items (sends_by c.args.send) x c.in-Ready.sender c.in-Ready.answer (Ok tt) given (search rules) h;
    }

pub returns-clause-leaves : goal.returns-clause-leaves
returns-clause-leaves g c =
    let given : IntoSendGives (sends_by c.args.send) c.in-Ready.sender c.in-Ready.answer = search rules in
    (tt, sends_one g.I.Iterator.next_gives c.args.items (sends_by c.args.send) _ c.in-Ready.sender c.in-Ready.answer (Err c.in-Err.error) given (search rules) (refl, refl, refl))
