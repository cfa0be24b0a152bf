use Rattle.std.proofs.Common.{refl, [], ◌∷◌}
use Rattle.std.specs.Fn.{CalledAtMut}
use Rattle.mono_model.specs.Poll.{IfReady}
use Rattle.mono_model.specs.declared.poll.Poll.{Poll}
use Rattle.mono_model.specs.declared.poll.Poll.TheVariants.{Ready, Pending}
use Rattle.mono_combine.specs.PollFns.{Poller, CallGives}
use Rattle.mono_combine.proofs.poll_fns.PollFnTaskFuture.poll.Goals as goal

-- Some call may give the answer that a call gave.
gives_call : {F C T : Type 0} (g : Poller F C T) (f f' : F) (c d : C) (r : Poll T) → CalledAtMut g f c r f' d → IfReady r (CallGives g)
gives_call g f f' c d (Ready x) called = (f, c, f', d, called)
gives_call g f f' c d Pending called = tt

pub returns-clause-given : goal.returns-clause-given
returns-clause-given g c = gives_call g.F.FnMut _ _ _ _ _ (record { shown = _; shows = refl; left = _; called = c.f.ensures; leaves = refl })

pub f-requires : goal.f-requires
f-requires g c = (c.requires.callable (_ ∷ [])).0

pub returns-clause-reached : goal.returns-clause-reached
returns-clause-reached g c = ((c.requires.callable (c.args.cx ∷ [])).1 _ _ _ (record { shown = _; shows = refl; left = _; called = c.f.ensures; leaves = refl })).0

pub returns-clause-callable : goal.returns-clause-callable
returns-clause-callable g c = λ xs. ((c.requires.callable (c.args.cx ∷ xs)).1 _ _ _ (record { shown = _; shows = refl; left = _; called = c.f.ensures; leaves = refl })).1
