use Rattle.std.proofs.Common.{◌≡◌, [], Some, Ok, ap, refl, rules, subst, sym}
use Rattle.std.specs.Prelude.{is_none}
use Rattle.std.specs.Fn.{Called}
use Rattle.mono_channel.specs.Owned.{IntoRecvGives}
use Rattle.mono_channel.specs.Spent.{receives_by}
use Rattle.mono_forms.specs.MessageFolds.{CombinesAny, CanCombine, GoesOnReceiving, RecvGives}
use Rattle.mono_forms.proofs.MessageFoldLemmas.{combines_on, folds_all, receives_later, receives_one}
use Rattle.mono_forms.proofs.message_folds.FoldMessages.turn.Goals as goal

pub returns-in-Pending-clause-leaves : goal.returns-in-Pending-clause-leaves
returns-in-Pending-clause-leaves g c =
    let held : c.args.self.now.inner ≡ Some (c.in-Some.recv, c.in-Some.value) = search rules in record {
      unspent = c.in-Pending.ensures.again;
      callable = subst (λ o. CanCombine g.F.FnMut o c.args.self.now.func) held c.requires.callable;
      narrows = λ x h. subst (λ o. RecvGives g.F.FnMut o c.args.self.now.func x) (sym held)
          (receives_later g.F.FnMut c.in-Some.value c.args.self.now.func x (receives_by c.in-Some.recv) (receives_by c.poll.new.self) c.in-Pending.ensures.same h);
    }

pub func-next-requires : goal.func-next-requires
func-next-requires g c =
    let held : c.args.self.now.inner ≡ Some (c.in-Some.recv, c.in-Some.value) = search rules in
    let can : CombinesAny g.F.FnMut c.in-Some.value c.args.self.now.func = subst (λ o. CanCombine g.F.FnMut o c.args.self.now.func) held c.requires.callable in
    can.at [] c.in-Ok-Some.message (c.args.self.now.func, c.in-Some.value) refl

pub returns-in-Ok-Some-clause-leaves : goal.returns-in-Ok-Some-clause-leaves
returns-in-Ok-Some-clause-leaves g c =
    let held : c.args.self.now.inner ≡ Some (c.in-Some.recv, c.in-Some.value) = search rules in
    let can : CombinesAny g.F.FnMut c.in-Some.value c.args.self.now.func = subst (λ o. CanCombine g.F.FnMut o c.args.self.now.func) held c.requires.callable in
    let called : Called g.F.FnMut c.args.self.now.func (c.in-Some.value, (c.in-Ok-Some.message, tt)) c.func-next.result c.func-next.new.self = search rules in
    let given : IntoRecvGives (receives_by c.in-Some.recv) c.in-Ready.receiver c.in-Ready.answer = search rules in
    let is : c.in-Ready.answer ≡ Ok (Some c.in-Ok-Some.message) = search rules in record {
      unspent = ap (λ o. is_none o) c.into_recv.ensures;
      callable = combines_on g.F.FnMut c.in-Some.value c.args.self.now.func can c.in-Ok-Some.message c.func-next.result c.func-next.new.self called;
      narrows = λ x h. subst (λ o. RecvGives g.F.FnMut o c.args.self.now.func x) (sym held)
          (receives_one g.F.FnMut c.in-Some.value c.args.self.now.func x (receives_by c.in-Some.recv) c.in-Ready.receiver c.in-Ready.answer c.in-Ok-Some.message given is c.func-next.result c.func-next.new.self called
          (folds_all g.F.FnMut c.func-next.result c.func-next.new.self x c.in-Ready.receiver (subst (λ o. GoesOnReceiving g.F.FnMut o c.func-next.result c.func-next.new.self x) c.into_recv.ensures h)));
    }
