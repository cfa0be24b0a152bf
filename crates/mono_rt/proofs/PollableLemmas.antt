-- The futures of a runtime stay ones that can be polled.
use Rattle.std.proofs.Common.{◌≡◌, ◌<◌, ◌≤◌, ◌+◌, ℕ, false, List, [], ◌∷◌, ◌++◌, length, Option, Some, None, refl, ap, sym, subst, ◌∙◌, inl, inr, arith}
use Rattle.std.specs.Prelude.{⊤, slice_set, IfSome}
use Rattle.std.proofs.lemmas.Bool.{cases_eq, cases_lt}
use Rattle.std.proofs.lemmas.List.{get_or-set_same, get_or-set_other, get_or_past, length-set, get_or_append_left, get_or_push, length_push}
use Rattle.mono_model.specs.Table.{value_at}
use Rattle.mono_model.specs.declared.poll.Poll.{Poll}
use Rattle.mono_model.specs.declared.poll.Poll.TheVariants.{Ready}
use Rattle.mono_task.specs.Members.{FutureOf, SharedOf}
use Rattle.mono_rt.specs.Reaches.{ReachesSharing, IsAligned}
use Rattle.mono_rt.specs.PossibleAnswers.{AnswersNoMore}
use Rattle.mono_rt.specs.Pollable.{EachCanPoll, AddsPollable, SpawnsPollable, CanTurn}
use Rattle.mono_rt.specs.declared.contexts.Cx.{Cx}

none_some : {X : Type 0} (v : Option X) (x : X) → v ≡ None → v ≡ Some x → ⊥
none_some v x none some = cc

the_same : {X : Type 0} (v : Option X) (x y : X) → v ≡ Some x → v ≡ Some y → x ≡ y
the_same v x y p q = cc

module _ {F : Type 0} (can_poll : F → Type 0) where
  -- a future that is there
  held_can : (v : Option F) (f : F) → v ≡ Some f → IfSome v can_poll → can_poll f
  held_can None f is can = absurd (none_some None f refl is)
  held_can (Some g) f is can = subst can_poll (the_same (Some g) g f refl is) can

  pub if_held : (v : Option F) → ((f : F) → v ≡ Some f → can_poll f) → IfSome v can_poll
  if_held None can = tt
  if_held (Some f) can = can f refl

  pub each_same : (old new : List (Option F)) → new ≡ old → EachCanPoll can_poll old → EachCanPoll can_poll new
  each_same old new same each = subst (EachCanPoll can_poll) (sym same) each

  -- one place changes
  pub each_set : (futures : List (Option F)) (t : ℕ) (left : Option F) → EachCanPoll can_poll futures → IfSome left can_poll → EachCanPoll can_poll (slice_set futures t left)
  each_set futures t left each can = λ q f at. elim (cases_eq q t) [
    | inl same ↦ elim (cases_lt q (length futures)) [
      | inl below ↦ held_can left f (sym (get_or-set_same futures t left None (omega (arith, below, same))) ∙ ap (λ n. value_at (slice_set futures t left) n) (sym same) ∙ at) can
      | inr past ↦ absurd (none_some (value_at (slice_set futures t left) q) f (get_or_past (slice_set futures t left) q None (omega (arith, past, length-set futures t left))) at)
    ]
    | inr apart ↦ each q f (sym (get_or-set_other futures t q left None apart) ∙ at)
  ]

  -- one more future
  pub each_push : (futures : List (Option F)) (future : F) → EachCanPoll can_poll futures → can_poll future → EachCanPoll can_poll (futures ++ Some future ∷ [])
  each_push futures future each can = λ q f at. elim (cases_lt q (length futures)) [
    | inl below ↦ each q f (sym (get_or_append_left futures (Some future ∷ []) None q below) ∙ at)
    | inr past ↦ elim (cases_eq (length futures) q) [
      | inl last ↦ held_can (Some future) f (sym (get_or_push futures (Some future) None q last) ∙ at) can
      | inr apart ↦ absurd (none_some (value_at (futures ++ Some future ∷ []) q) f (get_or_past (futures ++ Some future ∷ []) q None (beyond (length futures) q (length (futures ++ Some future ∷ [])) past apart (length_push futures (Some future)))) at)
    ]
  ]
    where
      beyond : (n q m : ℕ) → n ≤ q → (n ≡ q → ⊥) → m ≡ n + 1 → m ≤ q
      beyond n q m past apart is = omega (arith, past, apart, is)

  -- calls that keep each place, and what they add
  pub each_added : (old new : List (Option F)) → ((t : ℕ) → t < length old → value_at new t ≡ value_at old t) → EachCanPoll can_poll old → AddsPollable can_poll old new → EachCanPoll can_poll new
  each_added old new keeps each adds = λ q f at. elim (cases_lt q (length old)) [
    | inl below ↦ each q f (sym (keeps q below) ∙ at)
    | inr past ↦ adds q f past at
  ]

module _ {F O P U W J A V : Type 0} (future : FutureOf F (Cx F O P U W J A V) O) where
  pub spawns_on : (P Q : Type 0) → (P → Q) → SpawnsPollable future P → SpawnsPollable future Q
  spawns_on P Q by spawns = record {
    polls = λ f g answer c d at_c at_d unspent able polled. spawns.polls f g answer c d (λ p. at_c (by p)) (λ p. at_d (by p)) unspent able polled;
    cancels = λ f g output c d e at_d at_e able polled cancelled. spawns.cancels f g output c d e (λ p. at_d (by p)) (λ p. at_e (by p)) able polled cancelled;
  }

  -- from a later context
  pub turn_on : (c d : Cx F O P U W J A V) → (IsAligned c → IsAligned d) → EachCanPoll future.can_poll d.futures.items → CanTurn future c → CanTurn future d
  turn_on c d aligned each can = record { table = each; spawns = spawns_on (IsAligned c) (IsAligned d) aligned can.spawns }

  pub turn_same : (gives : F → O → Type 0) (c d : Cx F O P U W J A V) → AnswersNoMore gives c d → d.futures.items ≡ c.futures.items → CanTurn future c → CanTurn future d
  turn_same gives c d later same can = turn_on c d later.aligned (each_same future.can_poll c.futures.items d.futures.items same can.table) can

  -- a task is made of this future
  pub turn_with : (c d : Cx F O P U W J A V) (made : F) → (IsAligned c → IsAligned d) → d.futures.items ≡ c.futures.items ++ Some made ∷ [] → future.can_poll made → CanTurn future c → CanTurn future d
  turn_with c d made aligned items able can = turn_on c d aligned (subst (EachCanPoll future.can_poll) (sym items) (each_push future.can_poll c.futures.items made can.table able)) can

  -- a new runtime has no future yet
  pub turn_new : (c : Cx F O P U W J A V) → c.futures.items ≡ [] → SpawnsPollable future ⊤ → IsAligned c → CanTurn future c
  turn_new c items spawns aligned = record { table = subst (EachCanPoll future.can_poll) (sym items) (λ t f at. absurd (none_some None f refl at)); spawns = spawns_on ⊤ (IsAligned c) (λ i. aligned) spawns }

  -- a poll of a future that can be polled
  pub polled_can : (number : O → ℕ) (sharing : SharedOf W) (c d : Cx F O P U W J A V) (f g : F) (answer : Poll O) → CanTurn future c → future.is_spent f ≡ false → future.can_poll f → future.polls f c answer g d → ReachesSharing number sharing c d → EachCanPoll future.can_poll d.futures.items
  polled_can number sharing c d f g answer can unspent able polled reached =
      each_added future.can_poll c.futures.items d.futures.items reached.keeps can.table (can.spawns.polls f g answer c d (λ h. h) reached.aligned unspent able polled)

  -- and the cancel of what it left
  pub cancelled_can : (number : O → ℕ) (sharing : SharedOf W) (c d e : Cx F O P U W J A V) (f g : F) (output : O) → CanTurn future c → future.can_poll f → future.polls f c (Ready output) g d → ReachesSharing number sharing c d → EachCanPoll future.can_poll d.futures.items
      → future.cancels g d e → ReachesSharing number sharing d e → EachCanPoll future.can_poll e.futures.items
  cancelled_can number sharing c d e f g output can able polled reached each cancelled on =
      each_added future.can_poll d.futures.items e.futures.items on.keeps each (can.spawns.cancels f g output c d e reached.aligned (λ h. on.aligned (reached.aligned h)) able polled cancelled)

  -- if every value of the type can be polled
  pub every_spawned : (P : Type 0) → ((f : F) → future.can_poll f) → SpawnsPollable future P
  every_spawned P can = record {
    polls = λ f g answer c d at_c at_d unspent able polled t h past at. can h;
    cancels = λ f g output c d e at_d at_e able polled cancelled t h past at. can h;
  }

  pub every_turn : (c : Cx F O P U W J A V) → ((f : F) → future.can_poll f) → CanTurn future c
  every_turn c can = record { table = λ t f at. can f; spawns = every_spawned (IsAligned c) can }
