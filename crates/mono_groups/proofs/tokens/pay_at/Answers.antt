use Rattle.mono_groups.proofs.TokenLemmas.{pays_at}
use Rattle.mono_groups.proofs.tokens.pay_at.Goals as goal

pub returns : goal.returns
returns c = pays_at c.args.nodes.now c.args.key c.value_mut.result.now c.pay.new.self c.pay.result c.value_mut.ensures.value c.pay.ensures
