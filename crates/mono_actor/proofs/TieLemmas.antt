-- The ties between places and timers after one place changes.
use Rattle.std.proofs.Common.{◌≡◌, ◌≢◌, ◌<◌, inl, inr, ℕ, zero, suc, true, false, List, [], ◌∷◌, ◌++◌, length, set, Some, None, Option, refl, ap, sym, subst, ◌∙◌, arith}
use Rattle.std.proofs.lemmas.Bool.{cases_eq, cases_lt}
use Rattle.std.proofs.lemmas.List.{get_or-set_other, get_or-set_same, get_or_past}
use Rattle.mono_model.specs.Table.{value_at}
use Rattle.mono_actor.specs.Steps.{waiting_in}
use Rattle.mono_actor.specs.Places.{mode_of, Place}
use Rattle.mono_actor.specs.Timers.{tick_at, is_known, number_at, Sets, Added, Freed}
use Rattle.mono_actor.specs.Consistency.{Tied, timer_in, Ties}
use Rattle.mono_actor.specs.declared.timers.Alarms.{Alarms}

true-false : true ≡ false → ⊥
true-false e = cc

none-some : {X : Type 0} (x : X) → None ≡ Some x → ⊥
none-some x e = cc

same-some : {X : Type 0} (x y : X) → Some x ≡ Some y → x ≡ y
same-some x y e = cc

pub given : {V : Type 0} (table : List (Option V)) (s : ℕ) (v : V) → value_at table s ≡ Some v → s < length table
given table s v at = elim (cases_lt s (length table)) [ inl inside ↦ inside | inr past ↦ absurd (none-some v (sym (get_or_past table s None past) ∙ at)) ]

pub value_last : {V : Type 0} (table : List (Option V)) (v : Option V) → value_at (table ++ v ∷ []) (length table) ≡ v
value_last [] v = refl
value_last (x ∷ xs) v = value_last xs v

pub value_other : {V : Type 0} (table : List (Option V)) (v : Option V) (q : ℕ) → q ≢ length table → value_at (table ++ v ∷ []) q ≡ value_at table q
value_other [] v zero apart = absurd (apart refl)
value_other [] v (suc q) apart = refl
value_other (x ∷ xs) v zero apart = refl
value_other (x ∷ xs) v (suc q) apart = value_other xs v q (λ e. apart (omega (arith, e)))

-- this key alone waits for another tick
pub record Retimed (old new : Alarms) (key : ℕ) (tick : Option ℕ) : Type 0 where
  pub here : tick_at new key ≡ tick
  pub others : (other : ℕ) → other ≢ key → tick_at new other ≡ tick_at old other
  pub known : (other : ℕ) → is_known new other ≡ is_known old other
  pub numbers : (other : ℕ) → number_at new other ≡ number_at old other

pub of_sets : (old new : Alarms) (key : ℕ) (tick : Option ℕ) → Sets old new key tick → Retimed old new key tick
of_sets old new key tick s = record { here = s.here; others = s.others; known = s.known; numbers = s.numbers }

pub of_same : (timers : Alarms) (key : ℕ) (tick : Option ℕ) → tick_at timers key ≡ tick → Retimed timers timers key tick
of_same timers key tick is = record { here = is; others = λ other apart. refl; known = λ other. refl; numbers = λ other. refl }

pub of_both : (old mid new : Alarms) (key : ℕ) (first second : Option ℕ) → Retimed old mid key first → Retimed mid new key second → Retimed old new key second
of_both old mid new key first second a b = record {
  here = b.here;
  others = λ other apart. b.others other apart ∙ a.others other apart;
  known = λ other. b.known other ∙ a.known other;
  numbers = λ other. b.numbers other ∙ a.numbers other;
}

module _ {M : Type 0} where
  -- the live actor whose key it is
  pub record Owned (places : List (Option (Place M))) (timers : Alarms) (key : ℕ) : Type 0 where
    pub place : Place M
    pub at : value_at places (number_at timers key) ≡ Some place
    pub timer : place.timer ≡ key

  found : (places : List (Option (Place M))) (timers : Alarms) (key : ℕ) (v : Option (Place M)) → value_at places (number_at timers key) ≡ v → timer_in v ≡ Some key → Owned places timers key
  found places timers key None at is = absurd (none-some key is)
  found places timers key (Some place) at is = record { place = place; at = at; timer = same-some place.timer key is }

  pub owner : (places : List (Option (Place M))) (timers : Alarms) (key tick : ℕ) → Ties places timers → tick_at timers key ≡ Some tick → Owned places timers key
  owner places timers key tick ties at = found places timers key (value_at places (number_at timers key)) refl (ties.owned key tick at)

  pub holder : (places : List (Option (Place M))) (timers : Alarms) (key : ℕ) → Ties places timers → is_known timers key ≡ true → Owned places timers key
  holder places timers key ties known = found places timers key (value_at places (number_at timers key)) refl (ties.held key known)

  owns : (places : List (Option (Place M))) (timers : Alarms) (key : ℕ) → Owned places timers key → timer_in (value_at places (number_at timers key)) ≡ Some key
  owns places timers key own = ap timer_in own.at ∙ ap Some own.timer

  pub ties-same : (places : List (Option (Place M))) (old new : Alarms) → Ties places old → ((other : ℕ) → tick_at new other ≡ tick_at old other)
      → ((other : ℕ) → is_known new other ≡ is_known old other) → ((other : ℕ) → number_at new other ≡ number_at old other) → Ties places new
  ties-same places old new ties ticks known numbers = record {
    tied = λ b r at. (let its = ties.tied b r at in record { known = known r.timer ∙ its.known; number = numbers r.timer ∙ its.number; tick = ticks r.timer ∙ its.tick });
    owned = λ key tick at. (let own = owner places old key tick ties (sym (ticks key) ∙ at) in owns places new key (record { place = own.place; at = ap (value_at places) (numbers key) ∙ own.at; timer = own.timer }));
    held = λ key is. (let own = holder places old key ties (sym (known key) ∙ is) in owns places new key (record { place = own.place; at = ap (value_at places) (numbers key) ∙ own.at; timer = own.timer }));
  }

  -- a key that was given out is given back, and all stays
  pub ties-undone : (places : List (Option (Place M))) (old mid new : Alarms) (number key : ℕ) → Ties places old → Added old mid number key → Freed mid new key → Ties places new
  ties-undone places old mid new number key ties added freed = record {
    tied = λ b r at. (
        let its = ties.tied b r at in
        let differs = free_apart r.timer its.known in record {
          known = freed.known r.timer differs ∙ added.known r.timer differs ∙ its.known;
          number = freed.numbers r.timer ∙ added.numbers r.timer differs ∙ its.number;
          tick = freed.ticks r.timer ∙ added.ticks r.timer ∙ its.tick;
        });
    owned = λ k tick at. (
        let own = owner places old k tick ties (sym (freed.ticks k ∙ added.ticks k) ∙ at) in
        stays k own (sym (ap (is_known old) own.timer) ∙ (ties.tied (number_at old k) own.place own.at).known));
    held = λ k is. (
        let differs : k ≢ key = λ e. true-false (sym is ∙ ap (is_known new) e ∙ freed.now_free) in
        let known : is_known old k ≡ true = sym (freed.known k differs ∙ added.known k differs) ∙ is in
        stays k (holder places old k ties known) known);
  }
    where
      free_apart : (k : ℕ) → is_known old k ≡ true → k ≢ key
      free_apart k known e = true-false (sym known ∙ ap (is_known old) e ∙ added.was_free)

      stays : (k : ℕ) → Owned places old k → is_known old k ≡ true → timer_in (value_at places (number_at new k)) ≡ Some k
      stays k own known = owns places new k (record { place = own.place; at = ap (value_at places) (freed.numbers k ∙ added.numbers k (free_apart k known)) ∙ own.at; timer = own.timer })

  pub ties-changed : (places : List (Option (Place M))) (old new : Alarms) (a : ℕ) (p q : Place M) → Ties places old → value_at places a ≡ Some p → q.timer ≡ p.timer
      → Retimed old new p.timer (waiting_in (mode_of q.mode)) → Ties (set places a (Some q)) new
  ties-changed places old new a p q ties was same_timer re = record {
    tied = λ b r at. elim (cases_eq b a) [
      | inl here ↦ (
          let is : q ≡ r = same-some q r (sym (get_or-set_same places a (Some q) None (given places a p was)) ∙ sym (ap (value_at (set places a (Some q))) here) ∙ at) in
          subst (λ x. Tied new b x) is (record {
            known = re.known q.timer ∙ ap (is_known old) same_timer ∙ mine.known;
            number = re.numbers q.timer ∙ ap (number_at old) same_timer ∙ mine.number ∙ sym here;
            tick = ap (tick_at new) same_timer ∙ re.here;
          }))
      | inr apart ↦ (
          let its = ties.tied b r (sym (get_or-set_other places a b (Some q) None apart) ∙ at) in
          let differs : r.timer ≢ p.timer = λ e. apart (sym its.number ∙ ap (number_at old) e ∙ mine.number) in
          record { known = re.known r.timer ∙ its.known; number = re.numbers r.timer ∙ its.number; tick = re.others r.timer differs ∙ its.tick })
    ];
    owned = λ key tick at. elim (cases_eq key p.timer) [
      | inl here ↦ stays_here key here
      | inr apart ↦ stays_other key apart (owner places old key tick ties (sym (re.others key apart) ∙ at))
    ];
    held = λ key known. elim (cases_eq key p.timer) [
      | inl here ↦ stays_here key here
      | inr apart ↦ stays_other key apart (holder places old key ties (sym (re.known key) ∙ known))
    ];
  }
    where
      stays_here : (key : ℕ) → key ≡ p.timer → timer_in (value_at (set places a (Some q)) (number_at new key)) ≡ Some key
      stays_here key here = owns (set places a (Some q)) new key (record {
        place = q;
        at = ap (value_at (set places a (Some q))) (re.numbers key ∙ ap (number_at old) here ∙ (ties.tied a p was).number) ∙ get_or-set_same places a (Some q) None (given places a p was);
        timer = same_timer ∙ sym here;
      })

      stays_other : (key : ℕ) → key ≢ p.timer → Owned places old key → timer_in (value_at (set places a (Some q)) (number_at new key)) ≡ Some key
      stays_other key apart own =
          let other : number_at old key ≢ a = λ e. apart (sym own.timer ∙ ap (λ (x : Place M). x.timer) (same-some own.place p (sym own.at ∙ ap (value_at places) e ∙ was))) in
          owns (set places a (Some q)) new key (record { place = own.place; at = ap (value_at (set places a (Some q))) (re.numbers key) ∙ get_or-set_other places a (number_at old key) (Some q) None other ∙ own.at; timer = own.timer })

      mine : Tied old a p
      mine = ties.tied a p was

  pub ties-gone : (places : List (Option (Place M))) (old new : Alarms) (a : ℕ) (p : Place M) → Ties places old → value_at places a ≡ Some p → waiting_in (mode_of p.mode) ≡ None
      → Freed old new p.timer → Ties (set places a None) new
  ties-gone places old new a p ties was waits_not freed = record {
    tied = λ b r at. elim (cases_eq b a) [
      | inl here ↦ absurd (none-some r (sym (get_or-set_same places a None None (given places a p was)) ∙ sym (ap (value_at (set places a None)) here) ∙ at))
      | inr apart ↦ (
          let its = ties.tied b r (sym (get_or-set_other places a b None None apart) ∙ at) in
          let differs : r.timer ≢ p.timer = λ e. apart (sym its.number ∙ ap (number_at old) e ∙ mine.number) in
          record { known = freed.known r.timer differs ∙ its.known; number = freed.numbers r.timer ∙ its.number; tick = freed.ticks r.timer ∙ its.tick })
    ];
    owned = λ key tick at. (
        let own = owner places old key tick ties (sym (freed.ticks key) ∙ at) in
        let other : number_at old key ≢ a = λ e. (
        let same : key ≡ p.timer = sym own.timer ∙ ap (λ (x : Place M). x.timer) (same-some own.place p (sym own.at ∙ ap (value_at places) e ∙ was)) in
        none-some tick (sym (ap (tick_at old) same ∙ mine.tick ∙ waits_not) ∙ sym (freed.ticks key) ∙ at)) in
        owns (set places a None) new key (record { place = own.place; at = ap (value_at (set places a None)) (freed.numbers key) ∙ get_or-set_other places a (number_at old key) None None other ∙ own.at; timer = own.timer }));
    held = λ key is. (
        let differs : key ≢ p.timer = λ e. true-false (sym is ∙ ap (is_known new) e ∙ freed.now_free) in
        let own = holder places old key ties (sym (freed.known key differs) ∙ is) in
        let other : number_at old key ≢ a = λ e. differs (sym own.timer ∙ ap (λ (x : Place M). x.timer) (same-some own.place p (sym own.at ∙ ap (value_at places) e ∙ was))) in
        owns (set places a None) new key (record { place = own.place; at = ap (value_at (set places a None)) (freed.numbers key) ∙ get_or-set_other places a (number_at old key) None None other ∙ own.at; timer = own.timer }));
  }
    where
      mine : Tied old a p
      mine = ties.tied a p was

  pub ties-added : (places : List (Option (Place M))) (old new : Alarms) (q : Place M) → Ties places old → waiting_in (mode_of q.mode) ≡ None
      → Added old new (length places) q.timer → Ties (places ++ Some q ∷ []) new
  ties-added places old new q ties waits_not added = record {
    tied = λ b r at. elim (cases_eq b (length places)) [
      | inl here ↦ (
          let is : q ≡ r = same-some q r (sym (value_last places (Some q)) ∙ sym (ap (value_at (places ++ Some q ∷ [])) here) ∙ at) in
          subst (λ x. Tied new b x) is (record { known = added.now_known; number = added.its_number ∙ sym here; tick = added.none ∙ sym waits_not }))
      | inr apart ↦ (
          let its = ties.tied b r (sym (value_other places (Some q) b apart) ∙ at) in
          let differs = free_apart r.timer its.known in
          record { known = added.known r.timer differs ∙ its.known; number = added.numbers r.timer differs ∙ its.number; tick = added.ticks r.timer ∙ its.tick })
    ];
    owned = λ key tick at. (
        let own = owner places old key tick ties (sym (added.ticks key) ∙ at) in
        stays key own (sym (ap (is_known old) own.timer) ∙ (ties.tied (number_at old key) own.place own.at).known));
    held = λ key is. elim (cases_eq key q.timer) [
      | inl here ↦ owns (places ++ Some q ∷ []) new key (record {
        place = q;
        at = ap (value_at (places ++ Some q ∷ [])) (ap (number_at new) here ∙ added.its_number) ∙ value_last places (Some q);
        timer = sym here;
      })
      | inr apart ↦ (let known : is_known old key ≡ true = sym (added.known key apart) ∙ is in stays key (holder places old key ties known) known)
    ];
  }
    where
      free_apart : (key : ℕ) → is_known old key ≡ true → key ≢ q.timer
      free_apart key known e = true-false (sym known ∙ ap (is_known old) e ∙ added.was_free)

      stays : (key : ℕ) → Owned places old key → is_known old key ≡ true → timer_in (value_at (places ++ Some q ∷ []) (number_at new key)) ≡ Some key
      stays key own known =
          let inside = given places (number_at old key) own.place own.at in
          owns (places ++ Some q ∷ []) new key (record {
            place = own.place;
            at = ap (value_at (places ++ Some q ∷ [])) (added.numbers key (free_apart key known)) ∙ value_other places (Some q) (number_at old key) (λ e. omega (arith, e, inside)) ∙ own.at;
            timer = own.timer;
          })
