-- Polls that follow one another.
use Rattle.std.proofs.Common.{◌≡◌, [], ◌∷◌, ◌++◌, Option, Some, None, Result, Ok, Err, refl, sym, ap, subst, ◌∙◌}
use Rattle.std.specs.Prelude.{⊤}
use Rattle.std.specs.declared.alloc.AllocError.{AllocError}
use Rattle.mono_model.specs.declared.poll.Poll.{Poll}
use Rattle.mono_model.specs.declared.poll.Poll.TheVariants.{Ready, Pending}
use Rattle.mono_channel.specs.declared.errors.SendError.{SendError}
use Rattle.mono_channel.specs.Ends.{Ends, sent_by, shares_of, is_open, KeepsEnd, IsPair}
use Rattle.mono_model.specs.Poll.{IfReady, OnPending}
use Rattle.mono_channel.specs.Messages.{SendGives}
use Rattle.mono_channel.specs.Polls.{FindsNone, PollsToReceive, PollsToSend}

module _ {T : Type 0} where
  keeps_on : (a b c : Ends T) → KeepsEnd a b → KeepsEnd b c → KeepsEnd a c
  keeps_on a b c k l = (l.0 ∙ k.0, λ over. l.1 (k.1 over))

  -- one that found none after another that did
  pub finds_none_again : (a b c : Ends T) → FindsNone a b → FindsNone b c → FindsNone a c
  finds_none_again a b c f p = (p.0 ∙ f.0, p.1 ∙ f.1, p.2 ∙ f.2, f.3, p.4 ∙ f.4, keeps_on a b c f.5 p.5)

  -- a poll that found none, and then another
  pub then_receives : (a b c : Ends T) (r : Poll (Result (Option T) AllocError)) → FindsNone a b → PollsToReceive b r c → PollsToReceive a r c
  then_receives a b c (Ready (Ok (Some x))) f p = (p.0 ∙ f.0, p.1 ∙ ap (λ l. l ++ x ∷ []) f.1, p.2 ∙ f.2, p.3 ∙ f.4, keeps_on a b c f.5 p.4)
  then_receives a b c (Ready (Ok None)) f p = finds_none_again a b c f p
  then_receives a b c (Ready (Err e)) f p = finds_none_again a b c f p
  then_receives a b c Pending f p = finds_none_again a b c f p

  ends_after : (a b c : Ends T) (x : T) (kept : Option T) (r : Result ⊤ (SendError T)) → IsPair b a → sent_by b ≡ sent_by a → shares_of b ≡ shares_of a → is_open b ≡ is_open a → PollsToSend b (Some x) (Ready r) c kept
      → PollsToSend a (Some x) (Ready r) c None
  ends_after a b c x kept (Ok done) pair sent shares same q = (q.0 ∙ pair, q.1 ∙ ap (λ l. l ++ x ∷ []) sent, refl, q.3 ∙ shares, (sym same ∙ q.4.0, q.4.1))
  ends_after a b c x kept (Err e) pair sent shares same q = (q.0 ∙ pair, q.1 ∙ sent, q.2, refl, q.4 ∙ shares, q.5 ∙ same)

  -- a poll that kept the message, and then the last one
  pub sends_at_last : (a b c : Ends T) (x : T) (k kept : Option T) (r : Result ⊤ (SendError T)) → PollsToSend a (Some x) Pending b k → PollsToSend b k (Ready r) c kept → PollsToSend a (Some x) (Ready r) c None
  sends_at_last a b c x k kept r p q = ends_after a b c x kept r p.0 p.1 p.3 (p.4.1 ∙ sym p.4.0) (subst (λ o. PollsToSend b o (Ready r) c kept) p.2 q)

  -- a poll that kept the message, and then another that does
  pub waits_on : (a b c : Ends T) (x : T) (k kept : Option T) → PollsToSend a (Some x) Pending b k → PollsToSend b k Pending c kept → PollsToSend a (Some x) Pending c kept
  waits_on a b c x k kept p q =
      let s : PollsToSend b (Some x) Pending c kept = subst (λ o. PollsToSend b o Pending c kept) p.2 q in (s.0 ∙ p.0, s.1 ∙ p.1, s.2, s.3 ∙ p.3, (p.4.0, s.4.1))

  -- what a poll answers is given
  pub send_given : (a b : Ends T) (x : T) (m kept : Option T) (r : Poll (Result ⊤ (SendError T))) → m ≡ Some x → PollsToSend a (Some x) r b kept → IfReady r (SendGives a m)
  send_given a b x m kept (Ready v) is q = subst (λ o. SendGives a o v) (sym is) (b, ends_after a a b x kept v refl refl refl refl q)
  send_given a b x m kept Pending is q = tt

-- what holds anyhow
pub on_pending : {A X : Type 0} (r : Poll A) → X → OnPending r X
on_pending (Ready a) x = tt
on_pending Pending x = x
