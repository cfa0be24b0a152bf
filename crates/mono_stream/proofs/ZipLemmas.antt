-- The items of two streams in pairs.
use Rattle.std.proofs.Common.{◌≡◌, ℕ, zero, suc, Bool, true, false, List, [], ◌∷◌, ◌++◌, map, Option, Some, None, refl, sym, ap, subst, ◌∙◌}
use Rattle.std.specs.List.{cons_option}
use Rattle.mono_model.specs.declared.poll.Poll.{Poll}
use Rattle.mono_model.specs.declared.poll.Poll.TheVariants.{Ready, Pending}
use Rattle.mono_stream.specs.Items.{After, Gives}
use Rattle.mono_stream.specs.Zips.{AfterFill, Fills, Pairs, AfterSecond, AfterFirst, ZipPolls}
use Rattle.mono_stream.specs.JoinedItems.{ZipsItems}
use Rattle.mono_stream.specs.declared.zips.Zip.{Zip}
use Rattle.mono_stream.specs.declared.zips.Filled.{Filled}
use Rattle.mono_stream.specs.declared.zips.Filled.TheVariants.{Held, Ended, Waits}

ended_held : {P : Type 0} → Ended ≡ Held → P
ended_held e = absurd (cc)

ended_waits : {P : Type 0} → Ended ≡ Waits → P
ended_waits e = absurd (cc)

held_ended : {P : Type 0} → Held ≡ Ended → P
held_ended e = absurd (cc)

waits_ended : {P : Type 0} → Waits ≡ Ended → P
waits_ended e = absurd (cc)

module _ {S C X : Type 0} (polls : S → C → Poll (Option X) → S → C → Type 0) where
  -- The items from before a poll that holds one, by those after it.
  record Before (s : S) (held item : Option X) (xs : List X) (has_ended : Bool) (u : S) : Type 0 where
    count : ℕ
    items : List X
    given : Gives polls count s items has_ended u
    is : cons_option held items ≡ cons_option item xs

  by_answer : (answer : Poll (Option X)) (filled : Filled) (s t u : S) (item : Option X) (c d : C) (k : ℕ) (xs : List X) (has_ended : Bool) → polls s c answer t d → AfterFill polls answer filled item → (filled ≡ Ended → ⊥)
      → Gives polls k t xs has_ended u → Before s None item xs has_ended u
  by_answer (Ready (Some x)) filled s t u item c d k xs has_ended polled (is, held) on given = record {
    count = suc k;
    items = x ∷ xs;
    given = (Ready (Some x), t, record { before = c; after = d; polled = polled }, (xs, refl, given));
    is = ap (λ o. cons_option o xs) (sym held);
  }
  by_answer (Ready None) filled s t u item c d k xs has_ended polled (is, held) on given = absurd (on is)
  by_answer Pending filled s t u item c d k xs has_ended polled (is, held) on given = record {
    count = suc k;
    items = xs;
    given = (Pending, t, record { before = c; after = d; polled = polled }, given);
    is = ap (λ o. cons_option o xs) (sym held);
  }

  fill_before : (held : Option X) (filled : Filled) (s t u : S) (item : Option X) (c d : C) (k : ℕ) (xs : List X) (has_ended : Bool) → Fills polls s held c filled t item d → (filled ≡ Ended → ⊥) → Gives polls k t xs has_ended u → Before s held item xs has_ended u
  fill_before (Some x) filled s t u item c d k xs has_ended (is, same, held, still) on given = record {
    count = k;
    items = xs;
    given = subst (λ p. Gives polls k p xs has_ended u) same given;
    is = ap (λ o. cons_option o xs) (sym held);
  }
  fill_before None filled s t u item c d k xs has_ended (answer, polled, rest) on given = by_answer answer filled s t u item c d k xs has_ended polled rest on given

  end_by : (answer : Poll (Option X)) (s t : S) (item : Option X) (c d : C) → polls s c answer t d → AfterFill polls answer Ended item → Before s None item [] true t
  end_by (Ready (Some x)) s t item c d polled (is, held) = ended_held is
  end_by (Ready None) s t item c d polled (is, held) = record {
    count = suc zero;
    items = [];
    given = (Ready None, t, record { before = c; after = d; polled = polled }, (refl, refl, refl));
    is = ap (λ o. cons_option o []) (sym held);
  }
  end_by Pending s t item c d polled (is, held) = ended_waits is

  fill_ended : (held : Option X) (s t : S) (item : Option X) (c d : C) → Fills polls s held c Ended t item d → Before s held item [] true t
  fill_ended (Some x) s t item c d (is, same, held, still) = ended_held is
  fill_ended None s t item c d (answer, polled, rest) = end_by answer s t item c d polled rest

module _ {A B C X Y : Type 0} (polls : A → C → Poll (Option X) → A → C → Type 0) (second_polls : B → C → Poll (Option Y) → B → C → Type 0) where
  abbrev Zips : Zip A B X Y → List (X × Y) → Bool → Zip A B X Y → Type 0
  Zips old pairs has_ended new = ZipsItems polls second_polls old pairs has_ended new

  abbrev Polled : Zip A B X Y → C → Poll (Option (X × Y)) → Zip A B X Y → C → Type 0
  Polled = ZipPolls polls second_polls

  abbrev Later : ℕ → Zip A B X Y → Bool → Zip A B X Y → Type 0
  Later n mid has_ended new = (ps : List (X × Y)) → Gives Polled n mid ps has_ended new → Zips mid ps has_ended new

  -- No pair came, and the items stay held.
  none_came : (old mid new : Zip A B X Y) (ps : List (X × Y)) (has_ended : Bool) (filled filled2 : Filled) (item : Option X) (item2 : Option Y) (c m d : C) → Fills polls old.first old.first_item c filled mid.first item m → (filled ≡ Ended → ⊥)
      → Fills second_polls old.second old.second_item m filled2 mid.second item2 d → (filled2 ≡ Ended → ⊥) → mid.first_item ≡ item → mid.second_item ≡ item2 → Zips mid ps has_ended new → Zips old ps has_ended new
  none_came old mid new ps has_ended filled filled2 item item2 c m d fills on fills2 on2 held held2 later =
      let first = fill_before polls old.first_item filled old.first mid.first new.first item c m later.count later.xs later.first_ended fills on later.first in
      let second = fill_before second_polls old.second_item filled2 old.second mid.second new.second item2 m d later.second_count later.ys later.second_ended fills2 on2 later.second in
      record {
        count = first.count;
        xs = first.items;
        first_ended = later.first_ended;
        first = first.given;
        second_count = second.count;
        ys = second.items;
        second_ended = later.second_ended;
        second = second.given;
        firsts = first.is ∙ ap (λ o. cons_option o later.xs) (sym held) ∙ later.firsts;
        seconds = second.is ∙ ap (λ o. cons_option o later.ys) (sym held2) ∙ later.seconds;
        ends = later.ends;
      }

  -- A pair came.
  pair_came : (old mid new : Zip A B X Y) (x : X) (y : Y) (ps qs : List (X × Y)) (has_ended : Bool) (filled filled2 : Filled) (c m d : C) → Fills polls old.first old.first_item c filled mid.first (Some x) m → (filled ≡ Ended → ⊥)
      → Fills second_polls old.second old.second_item m filled2 mid.second (Some y) d → (filled2 ≡ Ended → ⊥) → mid.first_item ≡ None → mid.second_item ≡ None → ps ≡ (x, y) ∷ qs → Zips mid qs has_ended new → Zips old ps has_ended new
  pair_came old mid new x y ps qs has_ended filled filled2 c m d fills on fills2 on2 held held2 begins later =
      let first = fill_before polls old.first_item filled old.first mid.first new.first (Some x) c m later.count later.xs later.first_ended fills on later.first in
      let second = fill_before second_polls old.second_item filled2 old.second mid.second new.second (Some y) m d later.second_count later.ys later.second_ended fills2 on2 later.second in
      record {
        count = first.count;
        xs = first.items;
        first_ended = later.first_ended;
        first = first.given;
        second_count = second.count;
        ys = second.items;
        second_ended = later.second_ended;
        second = second.given;
        firsts = first.is ∙ ap (λ l. x ∷ l) (ap (λ o. cons_option o later.xs) (sym held) ∙ later.firsts) ∙ ap (λ l. map (λ p. p.0) l ++ cons_option new.first_item []) (sym begins);
        seconds = second.is ∙ ap (λ l. y ∷ l) (ap (λ o. cons_option o later.ys) (sym held2) ∙ later.seconds) ∙ ap (λ l. map (λ p. p.1) l ++ cons_option new.second_item []) (sym begins);
        ends = later.ends;
      }

  -- Both items are there, or one is missing.
  by_pair : (n : ℕ) (old mid new : Zip A B X Y) (ps : List (X × Y)) (has_ended : Bool) (filled filled2 : Filled) (item : Option X) (item2 : Option Y) (c m d : C) (r : Poll (Option (X × Y))) → Fills polls old.first old.first_item c filled mid.first item m
      → (filled ≡ Ended → ⊥) → Fills second_polls old.second old.second_item m filled2 mid.second item2 d → (filled2 ≡ Ended → ⊥) → Pairs item item2 r mid.first_item mid.second_item → Later n mid has_ended new
      → After r mid (Gives Polled n mid) ps has_ended new → Zips old ps has_ended new
  by_pair n old mid new ps has_ended filled filled2 (Some x) (Some y) c m d r fills on fills2 on2 (is, held, held2) later after =
      let (qs, begins, given) = subst (λ q. After q mid (Gives Polled n mid) ps has_ended new) is after in
      pair_came old mid new x y ps qs has_ended filled filled2 c m d fills on fills2 on2 held held2 begins (later qs given)
  by_pair n old mid new ps has_ended filled filled2 (Some x) None c m d r fills on fills2 on2 (is, held, held2) later after =
      none_came old mid new ps has_ended filled filled2 (Some x) None c m d fills on fills2 on2 held held2 (later ps (subst (λ q. After q mid (Gives Polled n mid) ps has_ended new) is after))
  by_pair n old mid new ps has_ended filled filled2 None item2 c m d r fills on fills2 on2 (is, held, held2) later after =
      none_came old mid new ps has_ended filled filled2 None item2 c m d fills on fills2 on2 held held2 (later ps (subst (λ q. After q mid (Gives Polled n mid) ps has_ended new) is after))

  -- One of them has ended.
  first_ended : (old mid new : Zip A B X Y) (ps : List (X × Y)) (has_ended : Bool) (item : Option X) (c m : C) → Fills polls old.first old.first_item c Ended mid.first item m → mid.second ≡ old.second → mid.first_item ≡ item → mid.second_item ≡ old.second_item
      → ps ≡ [] → has_ended ≡ true → new ≡ mid → Zips old ps has_ended new
  first_ended old mid new ps has_ended item c m fills same held held2 none over last =
      let first = fill_ended polls old.first_item old.first mid.first item c m fills in
      record {
        count = first.count;
        xs = first.items;
        first_ended = true;
        first = subst (λ z. Gives polls first.count old.first first.items true z.first) (sym last) first.given;
        second_count = zero;
        ys = [];
        second_ended = false;
        second = (refl, refl, ap (λ z. z.second) last ∙ same);
        firsts = first.is ∙ ap (λ o. cons_option o []) (sym held) ∙ ap (λ z. cons_option z.first_item []) (sym last) ∙ ap (λ l. map (λ p. p.0) l ++ cons_option new.first_item []) (sym none);
        seconds = ap (λ o. cons_option o []) (sym held2) ∙ ap (λ z. cons_option z.second_item []) (sym last) ∙ ap (λ l. map (λ p. p.1) l ++ cons_option new.second_item []) (sym none);
        ends = over;
      }

  second_ended : (old mid new : Zip A B X Y) (ps : List (X × Y)) (has_ended : Bool) (filled : Filled) (item : Option X) (item2 : Option Y) (c m d : C) → Fills polls old.first old.first_item c filled mid.first item m → (filled ≡ Ended → ⊥)
      → Fills second_polls old.second old.second_item m Ended mid.second item2 d → mid.first_item ≡ item → mid.second_item ≡ item2 → ps ≡ [] → has_ended ≡ true → new ≡ mid → Zips old ps has_ended new
  second_ended old mid new ps has_ended filled item item2 c m d fills on fills2 held held2 none over last =
      let first = fill_before polls old.first_item filled old.first mid.first mid.first item c m zero [] false fills on (refl, refl, refl) in
      let second = fill_ended second_polls old.second_item old.second mid.second item2 m d fills2 in
      record {
        count = first.count;
        xs = first.items;
        first_ended = false;
        first = subst (λ z. Gives polls first.count old.first first.items false z.first) (sym last) first.given;
        second_count = second.count;
        ys = second.items;
        second_ended = true;
        second = subst (λ z. Gives second_polls second.count old.second second.items true z.second) (sym last) second.given;
        firsts = first.is ∙ ap (λ o. cons_option o []) (sym held) ∙ ap (λ z. cons_option z.first_item []) (sym last) ∙ ap (λ l. map (λ p. p.0) l ++ cons_option new.first_item []) (sym none);
        seconds = second.is ∙ ap (λ o. cons_option o []) (sym held2) ∙ ap (λ z. cons_option z.second_item []) (sym last) ∙ ap (λ l. map (λ p. p.1) l ++ cons_option new.second_item []) (sym none);
        ends = over;
      }

  by_second : (n : ℕ) (old mid new : Zip A B X Y) (ps : List (X × Y)) (has_ended : Bool) (filled filled2 : Filled) (item : Option X) (item2 : Option Y) (c m d : C) (r : Poll (Option (X × Y))) → Fills polls old.first old.first_item c filled mid.first item m
      → (filled ≡ Ended → ⊥) → Fills second_polls old.second old.second_item m filled2 mid.second item2 d → AfterSecond polls second_polls filled2 item item2 r mid.first_item mid.second_item → Later n mid has_ended new
      → After r mid (Gives Polled n mid) ps has_ended new → Zips old ps has_ended new
  by_second n old mid new ps has_ended filled Held item item2 c m d r fills on fills2 rest later after =
      by_pair n old mid new ps has_ended filled Held item item2 c m d r fills on fills2 (λ e. held_ended e) rest later after
  by_second n old mid new ps has_ended filled Ended item item2 c m d r fills on fills2 (is, held, held2) later after =
      let (none, over, last) = subst (λ q. After q mid (Gives Polled n mid) ps has_ended new) is after in
      second_ended old mid new ps has_ended filled item item2 c m d fills on fills2 held held2 none over last
  by_second n old mid new ps has_ended filled Waits item item2 c m d r fills on fills2 (is, held, held2) later after =
      none_came old mid new ps has_ended filled Waits item item2 c m d fills on fills2 (λ e. waits_ended e) held held2
      (later ps (subst (λ q. After q mid (Gives Polled n mid) ps has_ended new) is after))

  by_first : (n : ℕ) (old mid new : Zip A B X Y) (ps : List (X × Y)) (has_ended : Bool) (filled : Filled) (item : Option X) (c m d : C) (r : Poll (Option (X × Y))) → Fills polls old.first old.first_item c filled mid.first item m
      → AfterFirst polls second_polls filled item old m r mid d → Later n mid has_ended new → After r mid (Gives Polled n mid) ps has_ended new → Zips old ps has_ended new
  by_first n old mid new ps has_ended Held item c m d r fills rest later after =
      by_second n old mid new ps has_ended Held rest.filled item rest.item c m d r fills (λ e. held_ended e) rest.fills rest.rest later after
  by_first n old mid new ps has_ended Ended item c m d r fills (is, same, held, held2, still) later after =
      let (none, over, last) = subst (λ q. After q mid (Gives Polled n mid) ps has_ended new) is after in
      first_ended old mid new ps has_ended item c m fills same held held2 none over last
  by_first n old mid new ps has_ended Waits item c m d r fills rest later after =
      by_second n old mid new ps has_ended Waits rest.filled item rest.item c m d r fills (λ e. waits_ended e) rest.fills rest.rest later after

  pub zips : (n : ℕ) (old : Zip A B X Y) (ps : List (X × Y)) (has_ended : Bool) (new : Zip A B X Y) → Gives Polled n old ps has_ended new → Zips old ps has_ended new
  zips zero old ps has_ended new (none, unended, last) = record {
    count = zero;
    xs = [];
    first_ended = false;
    first = (refl, refl, ap (λ z. z.first) last);
    second_count = zero;
    ys = [];
    second_ended = false;
    second = (refl, refl, ap (λ z. z.second) last);
    firsts = ap (λ z. cons_option z.first_item []) (sym last) ∙ ap (λ l. map (λ p. p.0) l ++ cons_option new.first_item []) (sym none);
    seconds = ap (λ z. cons_option z.second_item []) (sym last) ∙ ap (λ l. map (λ p. p.1) l ++ cons_option new.second_item []) (sym none);
    ends = unended;
  }
  zips (suc n) old ps has_ended new (r, mid, polled, after) =
      let p = polled.polled in
      by_first n old mid new ps has_ended p.filled p.item polled.before p.middle polled.after r p.fills p.rest (λ qs. zips n mid qs has_ended new) after
