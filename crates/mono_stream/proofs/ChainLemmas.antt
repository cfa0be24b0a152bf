-- The items of two streams, one stream after the other.
use Rattle.std.proofs.Common.{◌≡◌, ℕ, zero, suc, Bool, true, false, List, [], ◌∷◌, Option, Some, None, refl, ap, subst, ◌∙◌}
use Rattle.mono_model.specs.declared.poll.Poll.{Poll}
use Rattle.mono_model.specs.declared.poll.Poll.TheVariants.{Ready, Pending}
use Rattle.mono_stream.specs.Items.{After, Gives}
use Rattle.mono_stream.specs.Sides.{AfterSide, SidePolls}
use Rattle.mono_stream.specs.Appends.{AfterFirst, ChainPolls}
use Rattle.mono_stream.specs.JoinedItems.{SecondsItems, AfterFirsts, FirstsItems, ChainsItems}
use Rattle.mono_stream.specs.declared.appends.Chain.{Chain}

module _ {A B C X : Type 0} (polls : A → C → Poll (Option X) → A → C → Type 0) (cancels : A → C → C → Type 0) (second_polls : B → C → Poll (Option X) → B → C → Type 0) where
  abbrev Polled : Chain A B → C → Poll (Option X) → Chain A B → C → Type 0
  Polled = ChainPolls polls cancels second_polls

  abbrev Chained : Option A → B → List X → Bool → Chain A B → Type 0
  Chained first second zs has_ended new = ChainsItems polls second_polls first second zs has_ended new

  abbrev Later : ℕ → Chain A B → Bool → Chain A B → Type 0
  Later n mid has_ended new = (zs : List X) → Gives Polled n mid zs has_ended new → Chained mid.first mid.second zs has_ended new

  -- Only the second stream is left, and was polled.
  second_more : (n : ℕ) (r : Poll (Option X)) (s : B) (mid new : Chain A B) (c d : C) (zs : List X) (has_ended : Bool) → mid.first ≡ None → second_polls s c r mid.second d → Later n mid has_ended new → After r mid (Gives Polled n mid) zs has_ended new
      → SecondsItems polls second_polls s zs has_ended new
  second_more n (Ready (Some x)) s mid new c d zs has_ended over polled later (rest, first, given) =
      let items = subst (λ a. Chained a mid.second rest has_ended new) over (later rest given) in
      record { count = suc items.count; given = (Ready (Some x), mid.second, record { before = c; after = d; polled = polled }, (rest, first, items.given)); none = items.none }
  second_more n (Ready None) s mid new c d zs has_ended over polled later (none, ended, last) =
      record {
        count = suc zero;
        given = (Ready None, mid.second, record { before = c; after = d; polled = polled }, (none, ended, ap (λ m. m.second) last));
        none = ap (λ m. m.first) last ∙ over;
      }
  second_more n Pending s mid new c d zs has_ended over polled later given =
      let items = subst (λ a. Chained a mid.second zs has_ended new) over (later zs given) in
      record { count = suc items.count; given = (Pending, mid.second, record { before = c; after = d; polled = polled }, items.given); none = items.none }

  -- The first stream gave an item.
  cons_items : (ended : Bool) (left : A) (second : B) (x : X) (xs rest zs : List X) (has_ended : Bool) (new : Chain A B) → zs ≡ x ∷ rest → AfterFirsts polls second_polls ended left second xs rest has_ended new
      → AfterFirsts polls second_polls ended left second (x ∷ xs) zs has_ended new
  cons_items true left second x xs rest zs has_ended new first (ys, are, more) = (ys, first ∙ ap (λ l. x ∷ l) are, more)
  cons_items false left second x xs rest zs has_ended new first (are, unended, stays, same) = (first ∙ ap (λ l. x ∷ l) are, unended, stays, same)

  by_side : (n : ℕ) (answer ready r : Poll (Option X)) (a left : A) (s : B) (c e m d : C) (mid new : Chain A B) (zs : List X) (has_ended : Bool) → polls a c ready left e → AfterSide polls cancels ready left e answer mid.first m
      → AfterFirst polls cancels second_polls answer s m r mid.second d → Later n mid has_ended new → After r mid (Gives Polled n mid) zs has_ended new → FirstsItems polls second_polls a s zs has_ended new
  by_side n answer (Ready (Some x)) r a left s c e m d mid new zs has_ended polled (is, stays, still) rest later after =
      let (ready, same, kept) = subst (λ q. AfterFirst polls cancels second_polls q s m r mid.second d) is rest in
      let (more, first, given) = subst (λ q. After q mid (Gives Polled n mid) zs has_ended new) ready after in
      let items = subst (λ b. FirstsItems polls second_polls left b more has_ended new) same (subst (λ o. Chained o mid.second more has_ended new) stays (later more given)) in
      record {
        count = suc items.count;
        items = x ∷ items.items;
        ended = items.ended;
        left = items.left;
        given = (Ready (Some x), left, record { before = c; after = e; polled = polled }, (items.items, refl, items.given));
        rest = cons_items items.ended items.left s x items.items more zs has_ended new first items.rest;
      }
  by_side n answer (Ready None) r a left s c e m d mid new zs has_ended polled (is, over, given_up) rest later after =
      let second = subst (λ q. AfterFirst polls cancels second_polls q s m r mid.second d) is rest in
      record {
        count = suc zero;
        items = [];
        ended = true;
        left = left;
        given = (Ready None, left, record { before = c; after = e; polled = polled }, (refl, refl, refl));
        rest = (zs, refl, second_more n r s mid new m d zs has_ended over second later after);
      }
  by_side n answer Pending r a left s c e m d mid new zs has_ended polled (is, stays, still) rest later after =
      let (waits, same, kept) = subst (λ q. AfterFirst polls cancels second_polls q s m r mid.second d) is rest in
      let given = subst (λ q. After q mid (Gives Polled n mid) zs has_ended new) waits after in
      let items = subst (λ b. FirstsItems polls second_polls left b zs has_ended new) same (subst (λ o. Chained o mid.second zs has_ended new) stays (later zs given)) in
      record {
        count = suc items.count;
        items = items.items;
        ended = items.ended;
        left = items.left;
        given = (Pending, left, record { before = c; after = e; polled = polled }, items.given);
        rest = items.rest;
      }

  by_first : (n : ℕ) (first : Option A) (answer r : Poll (Option X)) (s : B) (c m d : C) (mid new : Chain A B) (zs : List X) (has_ended : Bool) → SidePolls polls cancels first c answer mid.first m → AfterFirst polls cancels second_polls answer s m r mid.second d
      → Later n mid has_ended new → After r mid (Gives Polled n mid) zs has_ended new → Chained first s zs has_ended new
  by_first n (Some a) answer r s c m d mid new zs has_ended p rest later after = by_side n answer p.answer r a p.left s c p.middle m d mid new zs has_ended p.polled p.rest rest later after
  by_first n None answer r s c m d mid new zs has_ended (is, over, still) rest later after =
      second_more n r s mid new m d zs has_ended over (subst (λ q. AfterFirst polls cancels second_polls q s m r mid.second d) is rest) later after

  nothing : (first : Option A) (second : B) (zs : List X) (has_ended : Bool) (new : Chain A B) → zs ≡ [] → has_ended ≡ false → new.first ≡ first → new.second ≡ second → Chained first second zs has_ended new
  nothing (Some a) second zs has_ended new none unended same same2 = record { count = zero; items = []; ended = false; left = a; given = (refl, refl, refl); rest = (none, unended, same, same2) }
  nothing None second zs has_ended new none unended same same2 = record { count = zero; given = (none, unended, same2); none = same }

  pub chains : (n : ℕ) (old : Chain A B) (zs : List X) (has_ended : Bool) (new : Chain A B) → Gives Polled n old zs has_ended new → Chained old.first old.second zs has_ended new
  chains zero old zs has_ended new (none, unended, last) = nothing old.first old.second zs has_ended new none unended (ap (λ m. m.first) last) (ap (λ m. m.second) last)
  chains (suc n) old zs has_ended new (r, mid, polled, after) =
      let p = polled.polled in
      by_first n old.first p.answer r old.second polled.before p.middle polled.after mid new zs has_ended p.first p.rest (λ ys. chains n mid ys has_ended new) after
