-- Messages that a closure combines: what the receiver has received in the end, and what the closure made of it.
use Rattle.std.specs.Prelude.{⊤, ◌≡◌, ◌++◌, Bool, true, List, Option, Some, None, Result, Ok, Err, OnOk}
use Rattle.std.specs.List.{FoldsTo}
use Rattle.std.specs.Fn.{Mut, Called}
use Rattle.std.specs.declared.alloc.AllocError.{AllocError}
use Rattle.mono_channel.specs.Delivery.{Arrived}
use Rattle.mono_channel.specs.Ends.{Ends, IsPair, received_by, settled_by, shares_of, has_ended, KeepsEnd}
use Rattle.mono_channel.specs.Owned.{IntoRecvGives}
use Rattle.mono_channel.specs.Spent.{receives_by, into_recv_spent}
use Rattle.mono_channel.specs.declared.owned.IntoRecv.{IntoRecv}
use Rattle.mono_forms.specs.declared.message_folds.FoldMessages.{FoldMessages}
use Rattle.mono_forms.specs.declared.message_folds.Folded.{Folded}

abbrev pub recv_spent : {T U S : Type 0} → Option (IntoRecv T U × S) → Bool
recv_spent (Some p) = into_recv_spent p.0
recv_spent None = true

abbrev pub fold_spent : {T U S F : Type 0} → FoldMessages T U S F → Bool
fold_spent f = recv_spent f.inner

module _ {F S T : Type 0} (call : Mut F (S × (T × Unit {0})) S) where
  -- The closure was called at the value so far and a message.
  abbrev pub Combines : F × S → T → F × S → Type 0
  Combines p m q = Called call p.0 (p.1, (m, tt)) q.1 q.0

  -- The closure may be called at each message, and at the value that it made of the messages before.
  pub record CombinesAny (value : S) (func : F) : Type 0 where
    pub at : (items : List T) (m : T) (q : F × S) → FoldsTo Combines (func, value) items q → call.pre q.0 (q.1, (m, tt))

  abbrev pub CanCombine : {P : Type 0} → Option (P × S) → F → Type 0
  CanCombine (Some p) func = CombinesAny p.1 func
  CanCombine None func = ⊤

  module _ {U : Type 0} where
    abbrev pub FoldCanPoll : FoldMessages T U S F → Type 0
    FoldCanPoll f = CanCombine f.inner f.func

    -- The receiver received these messages, in order, and the closure combined exactly these. All that the settled senders
    -- sent was received. If the result is no error, the channel has ended.
    pub record FoldsMessages (a : Ends T) (value : S) (func : F) (x : Folded T U S) : Type 0 where
      pub items : List T
      pub later : F
      pub combined : FoldsTo Combines (func, value) items (later, x.value)
      pub received : received_by x.receiver ≡ received_by a ++ items
      pub settled : settled_by x.receiver ≡ settled_by a
      pub pair : IsPair x.receiver a
      pub shares : shares_of x.receiver ≡ shares_of a
      pub keeps : KeepsEnd a x.receiver
      pub arrived : Arrived (shares_of x.receiver) (received_by x.receiver) (settled_by x.receiver)
      pub ended : OnOk x.result (has_ended x.receiver ≡ true)

    -- The closure combines a message, and the messages after it follow; or the channel has ended, or there is no memory.
    abbrev pub AfterRecv : Result (Option T) AllocError → Ends T → S → F → Folded T U S → Type 0
    AfterRecv (Ok (Some m)) b value func x = (next : S) × (later : F) × Called call func (value, (m, tt)) next later × FoldsMessages b next later x
    AfterRecv (Ok None) b value func x = (x.receiver ≡ b) × (x.value ≡ value) × (x.result ≡ Ok tt)
    AfterRecv (Err e) b value func x = (x.receiver ≡ b) × (x.value ≡ value) × (x.result ≡ Err e)

    -- A receive answers, and so on.
    pub record GoesOnReceiving (o : Option (Ends T)) (value : S) (func : F) (x : Folded T U S) : Type 0 where
      pub end : Ends T
      pub answer : Result (Option T) AllocError
      pub given : IntoRecvGives o end answer
      pub after : AfterRecv answer end value func x

    abbrev pub RecvGives : Option (IntoRecv T U × S) → F → Folded T U S → Type 0
    RecvGives (Some p) func x = GoesOnReceiving (receives_by p.0) p.1 func x
    RecvGives None func x = ⊥

    abbrev pub FoldMessagesGives : FoldMessages T U S F → Folded T U S → Type 0
    FoldMessagesGives f x = RecvGives f.inner f.func x
