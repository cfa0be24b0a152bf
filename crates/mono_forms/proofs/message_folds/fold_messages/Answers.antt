use Rattle.std.proofs.Common.{subst}
use Rattle.mono_forms.specs.MessageFolds.{GoesOnReceiving}
use Rattle.mono_forms.proofs.MessageFoldLemmas.{folds_all}
use Rattle.mono_forms.proofs.message_folds.fold_messages.Goals as goal

pub returns : goal.returns
returns g c = λ x h. folds_all g.F.FnMut c.args.initial c.args.func x c.args.receiver
    (subst (λ o. GoesOnReceiving g.F.FnMut o c.args.initial c.args.func x) c.into_recv.ensures h)
