-- What a sender has sent of an iterator's items, turn by turn.
use Rattle.std.proofs.Common.{◌≡◌, [], ◌∷◌, ◌++◌, Option, Some, None, Result, Ok, Err, refl, ap, sym, subst, ◌∙◌}
use Rattle.std.specs.Prelude.{⊤}
use Rattle.std.proofs.lemmas.List.{append_assoc, append-nil}
use Rattle.mono_model.specs.declared.poll.Poll.TheVariants.{Ready}
use Rattle.mono_channel.specs.Ends.{Ends, sent_by}
use Rattle.mono_channel.specs.Owned.{IntoSendGives}
use Rattle.mono_channel.specs.Polls.{PollsToSend, StaysOpen}
use Rattle.mono_channel.specs.declared.errors.SendError.{SendError}
use Rattle.mono_forms.specs.Sends.{SendsItems, AfterSend, GoesOnSending, refused_item}
use Rattle.mono_forms.specs.declared.sends.AllSent.{AllSent}

module _ {T U I : Type 0} (steps : I → Option T → I → Type 0) (a : Ends T) (i j : I) (m : T) (given : steps i (Some m) j) (x : AllSent T U I) where
  sent_on : (b : Ends T) (r : Result ⊤ (SendError T)) → PollsToSend a (Some m) (Ready r) b None → AfterSend steps r b j x → SendsItems steps a i x
  sent_on b (Ok done) k s =
      let stays : StaysOpen a b = k.4 in record {
        items = m ∷ s.items;
        taken = (s.taken.0, (j, given, s.taken.1), s.taken.2);
        sent = s.sent ∙ (ap (λ l. l ++ s.items) k.1 ∙ append_assoc (sent_by a) (m ∷ []) s.items);
        pair = s.pair ∙ k.0;
        shares = s.shares ∙ k.3;
        stays_open = s.stays_open ∙ (stays.1 ∙ sym stays.0);
      }
  sent_on b (Err e) k s =
      let back : refused_item x.result ≡ Some m = ap refused_item s.2 ∙ ap (λ y. Some y) k.2 in record {
        items = [];
        taken = (i, refl, subst (λ o. steps i o x.rest) (sym back) (subst (λ t. steps i (Some m) t) (sym s.1) given));
        sent = ap (λ e. sent_by e) s.0 ∙ (k.1 ∙ sym (append-nil (sent_by a)));
        pair = ap (λ e. e.channel) s.0 ∙ k.0;
        shares = ap (λ e. e.hand.shares) s.0 ∙ k.4;
        stays_open = ap (λ e. e.live) s.0 ∙ k.5;
      }

  -- The iterator gave an item, whose send answers.
  pub sends_more : GoesOnSending steps (Some (a, m)) j x → SendsItems steps a i x
  sends_more h = sent_on h.end h.answer h.given h.after

module _ {T U I : Type 0} (steps : I → Option T → I → Type 0) (i : I) (o : Option (Ends T × T)) (x : AllSent T U I) where
  -- The send waits, and gives no more than before.
  pub sends_later : (p : Option (Ends T × T)) → ((y : Ends T × Result ⊤ (SendError T)) → IntoSendGives p y.0 y.1 → IntoSendGives o y.0 y.1) → GoesOnSending steps p i x → GoesOnSending steps o i x
  sends_later p same h = record { end = h.end; answer = h.answer; given = same (h.end, h.answer) h.given; after = h.after }

  -- The send answers.
  pub sends_one : (b : Ends T) (r s : Result ⊤ (SendError T)) → IntoSendGives o b r → r ≡ s → AfterSend steps s b i x → GoesOnSending steps o i x
  sends_one b r s given is after = record { end = b; answer = r; given = given; after = subst (λ t. AfterSend steps t b i x) (sym is) after }
