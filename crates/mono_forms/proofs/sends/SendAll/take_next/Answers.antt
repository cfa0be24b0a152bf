use Rattle.std.proofs.Common.{ap, rules, subst}
use Rattle.std.specs.Prelude.{is_none}
use Rattle.mono_forms.specs.Sends.{GoesOnSending}
use Rattle.mono_forms.proofs.SendLemmas.{sends_more}
use Rattle.mono_forms.proofs.sends.SendAll.take_next.Goals as goal

pub returns-in-Some : goal.returns-in-Some
returns-in-Some g c = record {
  unspent = ap (λ o. is_none o) c.into_send-send.ensures;
  callable = search rules;
  narrows = λ x h. sends_more g.I.Iterator.next_gives c.args.sender c.args.items c.next.new.self c.in-Some.item c.in-Some.ensures.steps x
      (subst (λ o. GoesOnSending g.I.Iterator.next_gives o c.next.new.self x) c.into_send-send.ensures h);
}
