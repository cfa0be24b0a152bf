-- What a receiver has received, and what the closure made of it, turn by turn.
use Rattle.std.proofs.Common.{◌≡◌, [], ◌∷◌, ◌++◌, true, Option, Some, None, Result, Ok, Err, ap, sym, subst, ◌∙◌}
use Rattle.std.specs.Prelude.{OnOk}
use Rattle.std.specs.Fn.{Mut, Called}
use Rattle.std.specs.declared.alloc.AllocError.{AllocError}
use Rattle.std.proofs.lemmas.List.{append_assoc, append-nil}
use Rattle.mono_channel.specs.Delivery.{Arrived}
use Rattle.mono_channel.specs.Ends.{Ends, received_by, settled_by, shares_of, has_ended, KeepsEnd}
use Rattle.mono_channel.specs.Polls.{FindsNone}
use Rattle.mono_channel.specs.Owned.{IntoRecvGives}
use Rattle.mono_forms.specs.MessageFolds.{FoldsMessages, AfterRecv, GoesOnReceiving, CombinesAny}
use Rattle.mono_forms.specs.declared.message_folds.Folded.{Folded}

module _ {F S T : Type 0} (call : Mut F (S × (T × Unit {0})) S) (value : S) (func : F) where
  -- The closure was called at a message, and may be called at the next.
  pub combines_on : CombinesAny call value func → (m : T) (next : S) (later : F) → Called call func (value, (m, tt)) next later → CombinesAny call next later
  combines_on can m next later called = record { at = λ items n q stepped. can.at (m ∷ items) n q ((later, next), called, stepped) }

  module _ {U : Type 0} (x : Folded T U S) where
    -- no more message was received
    finds_none : (a b : Ends T) → FindsNone a b → x.receiver ≡ b → x.value ≡ value → OnOk x.result (has_ended x.receiver ≡ true) → FoldsMessages call a value func x
    finds_none a b k end same ended =
        let keeps : KeepsEnd a b = k.5 in
        let arrived : Arrived (shares_of b) (received_by b) (settled_by b) =
        subst (λ n. Arrived n (received_by b) (settled_by b)) (sym k.4) (subst (λ l. Arrived (shares_of a) l (settled_by b)) (sym k.1) (subst (λ l. Arrived (shares_of a) (received_by a) l) (sym k.2) k.3)) in
        record {
          items = [];
          later = func;
          combined = ap {B = F × S} (λ v. (func, v)) (sym same);
          received = ap (λ e. received_by e) end ∙ (k.1 ∙ sym (append-nil (received_by a)));
          settled = ap (λ e. settled_by e) end ∙ k.2;
          pair = ap (λ e. e.channel) end ∙ k.0;
          shares = ap (λ e. shares_of e) end ∙ k.4;
          keeps = subst (λ e. KeepsEnd a e) (sym end) keeps;
          arrived = subst (λ e. Arrived (shares_of e) (received_by e) (settled_by e)) (sym end) arrived;
          ended = ended;
        }

    folds_on : (a b : Ends T) (r : Result (Option T) AllocError) → IntoRecvGives (Some a) b r → AfterRecv call r b value func x → FoldsMessages call a value func x
    folds_on a b (Ok (Some m)) k s =
        let keeps : KeepsEnd a b = k.0.4 in record {
          items = m ∷ s.3.items;
          later = s.3.later;
          combined = ((s.1, s.0), s.2, s.3.combined);
          received = s.3.received ∙ (ap (λ l. l ++ s.3.items) k.0.1 ∙ append_assoc (received_by a) (m ∷ []) s.3.items);
          settled = s.3.settled ∙ k.0.2;
          pair = s.3.pair ∙ k.0.0;
          shares = s.3.shares ∙ k.0.3;
          keeps = (s.3.keeps.0 ∙ keeps.0, λ over. s.3.keeps.1 (keeps.1 over));
          arrived = s.3.arrived;
          ended = s.3.ended;
        }
    folds_on a b (Ok None) k s = finds_none a b k.0 s.0 s.1 (subst (λ r. OnOk r (has_ended x.receiver ≡ true)) (sym s.2) (ap (λ e. has_ended e) s.0 ∙ k.1))
    folds_on a b (Err e) k s = finds_none a b k.0 s.0 s.1 (subst (λ r. OnOk r (has_ended x.receiver ≡ true)) (sym s.2) tt)

    -- A receive answers, and so on.
    pub folds_all : (a : Ends T) → GoesOnReceiving call (Some a) value func x → FoldsMessages call a value func x
    folds_all a h = folds_on a h.end h.answer h.given h.after

    -- The receive waits, and gives no more than before.
    pub receives_later : (o p : Option (Ends T)) → ((y : Ends T × Result (Option T) AllocError) → IntoRecvGives p y.0 y.1 → IntoRecvGives o y.0 y.1) → GoesOnReceiving call p value func x → GoesOnReceiving call o value func x
    receives_later o p same h = record { end = h.end; answer = h.answer; given = same (h.end, h.answer) h.given; after = h.after }

    -- The receive answers with a message, at which the closure is called.
    pub receives_one : (o : Option (Ends T)) (b : Ends T) (r : Result (Option T) AllocError) (m : T) → IntoRecvGives o b r → r ≡ Ok (Some m) → (next : S) (later : F) → Called call func (value, (m, tt)) next later
        → FoldsMessages call b next later x → GoesOnReceiving call o value func x
    receives_one o b r m given is next later called folds = record { end = b; answer = r; given = given; after = subst (λ s. AfterRecv call s b value func x) (sym is) (next, later, called, folds) }
