-- Items that are sent one after the other: what the sender has sent in the end.
use Rattle.std.specs.Prelude.{⊤, ◌≡◌, ◌++◌, Bool, true, false, List, Option, Some, None, Result, Ok, Err}
use Rattle.std.specs.Iterator.{YieldsThen}
use Rattle.mono_channel.specs.Ends.{Ends, IsPair, sent_by, shares_of, is_open}
use Rattle.mono_channel.specs.Errors.{unsent}
use Rattle.mono_channel.specs.Owned.{IntoSendGives}
use Rattle.mono_channel.specs.Spent.{sends_by, into_send_spent}
use Rattle.mono_channel.specs.declared.errors.SendError.{SendError}
use Rattle.mono_forms.specs.declared.sends.AllSent.{AllSent}
use Rattle.mono_forms.specs.declared.sends.SendAll.{SendAll}
use Rattle.mono_forms.specs.declared.sends.Stage.{Stage}
use Rattle.mono_forms.specs.declared.sends.Stage.TheVariants.{Takes, Sends}

abbrev pub is_sent : {E : Type 0} → Result ⊤ E → Bool
is_sent (Ok done) = true
is_sent (Err e) = false

-- The item that comes back, none if all were sent.
abbrev pub refused_item : {T : Type 0} → Result ⊤ (SendError T) → Option T
refused_item (Ok done) = None
refused_item (Err e) = Some (unsent e)

abbrev pub stage_spent : {T U R : Type 0} → Stage T U R → Bool
stage_spent (Takes s) = false
stage_spent (Sends f) = into_send_spent f

abbrev pub inner_spent : {T U I R : Type 0} → Option (Stage T U R × I) → Bool
inner_spent (Some p) = stage_spent p.0
inner_spent None = true

-- The next item may be taken.
abbrev pub CanTake : {P I : Type 0} → (I → Type 0) → Option (P × I) → Type 0
CanTake can_next (Some p) = can_next p.1
CanTake can_next None = ⊤

module _ {T U I : Type 0} (steps : I → Option T → I → Type 0) where
  -- The iterator gave these items and then ended, or gave the item that comes back. The sender sent exactly these, in order.
  pub record SendsItems (a : Ends T) (i : I) (x : AllSent T U I) : Type 0 where
    pub items : List T
    pub taken : YieldsThen steps i items (refused_item x.result) x.rest
    pub sent : sent_by x.sender ≡ sent_by a ++ items
    pub pair : IsPair x.sender a
    pub shares : shares_of x.sender ≡ shares_of a
    pub stays_open : is_open x.sender ≡ is_open a

  -- The sender with which an item's send was answered sends the other items, or the item is refused.
  abbrev pub AfterSend : Result ⊤ (SendError T) → Ends T → I → AllSent T U I → Type 0
  AfterSend (Ok done) b i x = SendsItems b i x
  AfterSend (Err e) b i x = (x.sender ≡ b) × (x.rest ≡ i) × (x.result ≡ Err e)

  -- A send of an item answers, and so on.
  pub record GoesOnSending (o : Option (Ends T × T)) (i : I) (x : AllSent T U I) : Type 0 where
    pub end : Ends T
    pub answer : Result ⊤ (SendError T)
    pub given : IntoSendGives o end answer
    pub after : AfterSend answer end i x

  module _ {R : Type 0} where
    abbrev pub StageGives : Stage T U R → I → AllSent T U I → Type 0
    StageGives (Takes s) i x = SendsItems s i x
    StageGives (Sends f) i x = GoesOnSending (sends_by f) i x

    abbrev pub InnerGives : Option (Stage T U R × I) → AllSent T U I → Type 0
    InnerGives (Some p) x = StageGives p.0 p.1 x
    InnerGives None x = ⊥

    abbrev pub SendAllGives : SendAll T U I R → AllSent T U I → Type 0
    SendAllGives f x = InnerGives f.inner x
