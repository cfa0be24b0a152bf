use Rattle.std.proofs.Common.{◌≡◌, refl, ap, subst, rules}
use Rattle.std.specs.Prelude.{⊤}
use Rattle.std.specs.Fn.{Once}
use denote.Ref.{Bor}
use Rattle.mono_forms.specs.Inspectors.{Sees}
use Rattle.mono_forms.proofs.inspectors.InspectTaskFuture.poll.Goals as goal

-- The closure that was called is the kept one.
sees : {X F : Type 0} (call : Once F (Bor X × Unit {0}) ⊤) (f f' : F) (x : X) (shown : Bor X) → shown.now ≡ x → f ≡ f' → call.post f (shown, tt) tt → Sees call f' x x
sees call f f' x shown shows same says = (refl, (shown, subst (λ k. call.post k (shown, tt) tt) same says, shows))

pub returns-in-Ready-clause-polled : goal.returns-in-Ready-clause-polled
returns-in-Ready-clause-polled g c =
    let pair : c.unwrap-future.result ≡ (c.poll.new.self, c.in-Some.field-0-1) = search rules in
    rw c.in-Some.is (record {
      answer = _;
      left = _;
      middle = _;
      polled = c.poll.ensures.polled;
      rest = rw c.in-Ready.is (rw (ap (λ p. p.0) pair) at c.cancel.ensures.cancelled, c.take.ensures.after, sees g.F.FnOnce _ _ _ _ refl (ap (λ p. p.1) pair) c.f.ensures);
    })

pub returns-in-Ready-clause-given : goal.returns-in-Ready-clause-given
returns-in-Ready-clause-given g c =
    let pair : c.unwrap-future.result ≡ (c.poll.new.self, c.in-Some.field-0-1) = search rules in
    rw c.in-Some.is (c.in-Ready.x, c.in-Ready.ensures.given, sees g.F.FnOnce _ _ _ _ refl (ap (λ p. p.1) pair) c.f.ensures)

pub returns-in-Pending-clause-same : goal.returns-in-Pending-clause-same
returns-in-Pending-clause-same g c = λ x h. rw c.in-Some.is (h.0, c.in-Pending.ensures.same h.0 h.1, h.2)
