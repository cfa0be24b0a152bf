-- The sources of the joins of many futures, and of a try-join of two.
use Rattle.std.specs.Prelude.{◌≡◌, ◌⊎◌, ◌||◌, Bool, true, false, if◌then◌else◌, List, [], ◌∷◌, map, Option, Some, None, is_none, is_some, Result, Ok, Err}
use Rattle.std.specs.List.{list_any, filter_map, cons_option}
use Rattle.std.proofs.Common.{inl, inr, sym, ap, subst, refl, ◌∙◌}
use Rattle.mono_model.specs.Poll.{OnPending, OnReady}
use Rattle.mono_model.specs.declared.poll.Poll.{Poll}
use Rattle.mono_model.specs.declared.poll.Poll.TheVariants.{Ready, Pending}
use Rattle.mono_task.specs.Members.{FutureOf}
use Rattle.mono_combine.specs.declared.maybe.MaybeDone.{MaybeDone}
use Rattle.mono_combine.specs.declared.maybe.MaybeDone.TheVariants.{Future, Done, Gone}
use Rattle.mono_combine.specs.declared.try_joins.TryJoin2.{TryJoin2}
use Rattle.mono_combine.specs.Branches.{Advances, output_of}
use Rattle.mono_combine.specs.BranchLists.{EachInTurn, GivesUp, AllCancel, AllGone, JoinListPolls}
use Rattle.mono_combine.specs.Rules.{error_of, value_of, unless_failed, join_rule, try_join_rule}
use Rattle.mono_combine.specs.TryJoins.{failure_of, both_results, as_result_list, AdvancesUnless, BothCancel, TryJoinPolls, TryJoinCancels}
use Rattle.mono_combine.specs.TryLists.{has_failed, Trying, TriesOnce, TryJoinListPolls}
use Rattle.mono_wait.specs.Sources.{Source}
use Rattle.mono_wait.specs.Joins.{MaybeNeeds, MaybeCovers, maybe_left, advance_reached, advance_covers}
use Rattle.mono_wait.specs.Frames.{Frame, Part, Needs, HeardIn, CoversIn, OneIn, same_reached, heard_before, heard_after, one_before, one_after}

-- those of each unfinished branch
abbrev pub ListNeeds : {T O : Type 0} → Needs T → List (MaybeDone T O) → Source → Type 0
ListNeeds needs [] x = ⊥
ListNeeds needs (m ∷ ms) x = MaybeNeeds needs m x ⊎ ListNeeds needs ms x

abbrev pub TryJoinNeeds : {A B X Y E : Type 0} → Needs A → Needs B → TryJoin2 A B X Y E → Source → Type 0
TryJoinNeeds a b f x = MaybeNeeds a f.a x ⊎ MaybeNeeds b f.b x

no_answer : {Z : Type 0} (z : Z) → Pending ≡ Ready z → ⊥
no_answer z e = cc

none_is : {Z : Type 0} (b : Bool) (z : Z) → Pending ≡ (if b then Pending else Ready z) → b ≡ true
none_is true z e = refl
none_is false z e = absurd (no_answer z e)

no_true : false ≡ true → ⊥
no_true e = cc

module _ {C T O : Type 0} (w : Frame C) (future : FutureOf T C O) (part : Part w future) where
  one_reached : (m : MaybeDone T O) (c : C) (n : MaybeDone T O) (d : C) → Advances future m c n d → w.reaches c d
  one_reached = advance_reached future w.reaches w.itself w.on part.reach part.left

  each_left : (ms : List (MaybeDone T O)) (c : C) (ns : List (MaybeDone T O)) (d : C) → EachInTurn (GivesUp future) ms c ns d → w.reaches c d
  each_left [] c [] d q = same_reached w c d q
  each_left [] c (n ∷ ns) d q = absurd q
  each_left (m ∷ ms) c [] d q = absurd q
  each_left (m ∷ ms) c (n ∷ ns) d (middle, up, rest) = w.on c middle d (maybe_left future w.reaches w.itself part.left m c middle up.1) (each_left ms middle ns d rest)

  pub list_left : (ms : List (MaybeDone T O)) (c d : C) → AllCancel future ms c d → w.reaches c d
  list_left ms c d q = each_left ms c q.0 d q.1

  pub each_reached : (ms : List (MaybeDone T O)) (c : C) (ns : List (MaybeDone T O)) (d : C) → EachInTurn (Advances future) ms c ns d → w.reaches c d
  each_reached [] c [] d q = same_reached w c d q
  each_reached [] c (n ∷ ns) d q = absurd q
  each_reached (m ∷ ms) c [] d q = absurd q
  each_reached (m ∷ ms) c (n ∷ ns) d (middle, turn, rest) = w.on c middle d (one_reached m c n middle turn) (each_reached ms middle ns d rest)

  abbrev OneCovers : C → MaybeDone T O → C → Type 0
  OneCovers = MaybeCovers future w.number w.work w.reaches w.watcher part.needs

  one_covers : (m : MaybeDone T O) (c : C) (n : MaybeDone T O) (d : C) → Advances future m c n d → OneCovers c n d
  one_covers = advance_covers future w.number w.work w.reaches w.watcher part.needs part.covers

  one_hears : (c : C) (n : MaybeDone T O) (d : C) → OneCovers c n d → (x : Source) → MaybeNeeds part.needs n x → HeardIn w c d x
  one_hears c (Future f) d covered x is = covered.each x is
  one_hears c (Done y) d covered x is = absurd is
  one_hears c Gone d covered x is = absurd is

  each_hears : (ms : List (MaybeDone T O)) (c : C) (ns : List (MaybeDone T O)) (d : C) → EachInTurn (Advances future) ms c ns d → (x : Source) → ListNeeds part.needs ns x → HeardIn w c d x
  each_hears [] c [] d q x is = absurd is
  each_hears [] c (n ∷ ns) d q x is = absurd q
  each_hears (m ∷ ms) c [] d q x is = absurd q
  each_hears (m ∷ ms) c (n ∷ ns) d (middle, turn, rest) x is = elim is [
    | inl first ↦ heard_before w c middle d x (one_hears c n middle (one_covers m c n middle turn) x first) (each_reached ms middle ns d rest)
    | inr later ↦ heard_after w c middle d x (one_reached m c n middle turn) (each_hears ms middle ns d rest x later)
  ]

  abbrev ListOne : C → List (MaybeDone T O) → C → Type 0
  ListOne c ns d = OneIn w c d (ListNeeds part.needs ns)

  -- the first branch waits, or one after it
  arms_first : (c m d : C) (n : MaybeDone T O) (ns : List (MaybeDone T O)) → w.reaches c m → w.reaches m d → (list_any is_none (map output_of ns) ≡ true → ListOne m ns d) → OneCovers c n m
      → list_any is_none (map output_of (n ∷ ns)) ≡ true → ListOne c (n ∷ ns) d
  arms_first c m d (Future f) ns to more later covered is = one_before w c m d (part.needs f) (ListNeeds part.needs (Future f ∷ ns)) (λ x needed. inl needed) covered.one more
  arms_first c m d (Done y) ns to more later covered is = one_after w c m d (ListNeeds part.needs ns) (ListNeeds part.needs (Done y ∷ ns)) (λ x needed. inr needed) to (later is)
  arms_first c m d Gone ns to more later covered is = absurd covered

  each_arms : (ms : List (MaybeDone T O)) (c : C) (ns : List (MaybeDone T O)) (d : C) → EachInTurn (Advances future) ms c ns d → list_any is_none (map output_of ns) ≡ true → ListOne c ns d
  each_arms [] c [] d q some = absurd (no_true some)
  each_arms [] c (n ∷ ns) d q some = absurd q
  each_arms (m ∷ ms) c [] d q some = absurd q
  each_arms (m ∷ ms) c (n ∷ ns) d (middle, turn, rest) some =
      arms_first c middle d n ns (one_reached m c n middle turn) (each_reached ms middle ns d rest) (λ is. each_arms ms middle ns d rest is) (one_covers m c n middle turn) some

  -- if one branch is unfinished, all that the unfinished ones need is heard
  pub each_covers : (ms : List (MaybeDone T O)) (c : C) (ns : List (MaybeDone T O)) (d : C) → EachInTurn (Advances future) ms c ns d → list_any is_none (map output_of ns) ≡ true → CoversIn w c d (ListNeeds part.needs ns)
  each_covers ms c ns d turns some = record { one = each_arms ms c ns d turns some; each = each_hears ms c ns d turns }

  pub join_list_reached : (ms : List (MaybeDone T O)) (c : C) (r : Poll (List O)) (ns : List (MaybeDone T O)) (b : Bool) (d : C) → JoinListPolls future ms c r ns b d → w.reaches c d
  join_list_reached ms c r ns b d q = each_reached ms c q.polled d q.turns

  pub join_lists_cover : (ms : List (MaybeDone T O)) (c : C) (ns : List (MaybeDone T O)) (b : Bool) (d : C) → JoinListPolls future ms c Pending ns b d → CoversIn w c d (ListNeeds part.needs ns)
  join_lists_cover ms c ns b d q =
      subst (λ v. CoversIn w c d (ListNeeds part.needs v)) (sym q.waits.0) (each_covers ms c q.polled d q.turns (none_is (list_any is_none (map output_of q.polled)) (filter_map (λ output. output) (map output_of q.polled)) q.answer))

module _ {C T X E : Type 0} (w : Frame C) (future : FutureOf T C (Result X E)) (part : Part w future) where
  abbrev Branches : Type 0
  Branches = List (MaybeDone T (Result X E))

  unless_reached : (one_failed : Bool) (m : MaybeDone T (Result X E)) (c : C) (n : MaybeDone T (Result X E)) (d : C) → AdvancesUnless future one_failed m c n d → w.reaches c d
  unless_reached true m c n d q = same_reached w c d q.1
  unless_reached false m c n d q = advance_reached future w.reaches w.itself w.on part.reach part.left m c n d q

  tries_reached : (ms : Branches) (s : Trying C) (ns : Branches) (t : Trying C) → EachInTurn (TriesOnce future) ms s ns t → w.reaches s.cx t.cx
  tries_reached [] s [] t q = same_reached w s.cx t.cx (ap (λ v. v.cx) q)
  tries_reached [] s (n ∷ ns) t q = absurd q
  tries_reached (m ∷ ms) s [] t q = absurd q
  tries_reached (m ∷ ms) s (n ∷ ns) t (u, turn, rest) = w.on s.cx u.cx t.cx (unless_reached s.one_failed m s.cx n u.cx turn.advanced) (tries_reached ms u ns t rest)

  pub try_join_list_reached : (ms : Branches) (c : C) (r : Poll (Result (List X) E)) (ns : Branches) (b : Bool) (d : C) → TryJoinListPolls future ms c r ns b d → w.reaches c d
  try_join_list_reached ms c r ns b d q = w.on c q.after d (tries_reached ms (record { one_failed = false; cx = c }) q.polled (record { one_failed = q.one_failed; cx = q.after }) q.turns) (by_answer r q.waits q.ends)
    where
      by_answer : (p : Poll (Result (List X) E)) → OnPending p ((ns ≡ q.polled) × (b ≡ false) × (d ≡ q.after)) → OnReady p ((b ≡ true) × AllCancel future q.polled q.after d × AllGone ns) → w.reaches q.after d
      by_answer (Ready y) waits ends = list_left w future part q.polled q.after d ends.1
      by_answer Pending waits ends = same_reached w q.after d waits.2

  -- while none has failed, each branch has its turn
  none_failed : (ms : Branches) (s : Trying C) (ns : Branches) (t : Trying C) → EachInTurn (TriesOnce future) ms s ns t → s.one_failed ≡ false → filter_map error_of (map output_of ns) ≡ [] → EachInTurn (Advances future) ms s.cx ns t.cx
  none_failed [] s [] t q live none = ap (λ v. v.cx) q
  none_failed [] s (n ∷ ns) t q live none = absurd q
  none_failed (m ∷ ms) s [] t q live none = absurd q
  none_failed (m ∷ ms) s (n ∷ ns) t (u, turn, rest) live none =
      let it : (failure_of n ≡ None) × (filter_map error_of (map output_of ns) ≡ []) = by_error (failure_of n) (filter_map error_of (map output_of ns)) none in
      (u.cx, subst (λ b. AdvancesUnless future b m s.cx n u.cx) live turn.advanced, none_failed ms u ns t rest (turn.failed ∙ ap (λ b. b || has_failed n) live ∙ ap is_some it.0) it.1)
    where
      by_error : (e : Option E) (es : List E) → cons_option e es ≡ [] → (e ≡ None) × (es ≡ [])
      by_error None es is = (refl, is)
      by_error (Some e) es is = absurd (no_list is)
        where
          no_list : e ∷ es ≡ [] → ⊥
          no_list e = cc

  -- a rule that waits has no error and an output to come
  rule_waits : (outputs : List (Option (Result X E))) → Pending ≡ try_join_rule outputs → (filter_map error_of outputs ≡ []) × (list_any is_none outputs ≡ true)
  rule_waits outputs is = by_errors (filter_map error_of outputs) is
    where
      by_errors : (es : List E) → Pending ≡ unless_failed es outputs → (es ≡ []) × (list_any is_none outputs ≡ true)
      by_errors [] is = (refl, none_is (list_any is_none outputs) (Ok (filter_map value_of outputs)) is)
      by_errors (e ∷ es) is = absurd (no_answer (Err e) is)

  pub try_join_lists_cover : (ms : Branches) (c : C) (ns : Branches) (b : Bool) (d : C) → TryJoinListPolls future ms c Pending ns b d → CoversIn w c d (ListNeeds part.needs ns)
  try_join_lists_cover ms c ns b d q =
      let it : (filter_map error_of (map output_of q.polled) ≡ []) × (list_any is_none (map output_of q.polled) ≡ true) = rule_waits (map output_of q.polled) q.answer in
      subst (λ v. CoversIn w c d (ListNeeds part.needs v)) (sym q.waits.0) (subst (λ e. CoversIn w c e (ListNeeds part.needs q.polled)) (sym q.waits.2)
      (each_covers w future part ms c q.polled q.after (none_failed ms (record { one_failed = false; cx = c }) q.polled (record { one_failed = q.one_failed; cx = q.after }) q.turns refl it.0) it.1))

module _ {C A B X Y E : Type 0} (w : Frame C) (a : FutureOf A C (Result X E)) (b : FutureOf B C (Result Y E)) (p : Part w a) (q : Part w b) where
  both_left : (first : MaybeDone A (Result X E)) (second : MaybeDone B (Result Y E)) (c d : C) → BothCancel a b first second c d → w.reaches c d
  both_left first second c d (middle, one, two) = w.on c middle d (maybe_left a w.reaches w.itself p.left first c middle one) (maybe_left b w.reaches w.itself q.left second middle d two)

  pub try_join_left : (f : TryJoin2 A B X Y E) (c d : C) → TryJoinCancels a b f c d → w.reaches c d
  try_join_left f c d it = both_left f.a f.b c d it

  pub try_join_reached : (f : TryJoin2 A B X Y E) (c : C) (r : Poll (Result (X × Y) E)) (g : TryJoin2 A B X Y E) (d : C) → TryJoinPolls a b f c r g d → w.reaches c d
  try_join_reached f c r g d it =
      w.on c it.between d (advance_reached a w.reaches w.itself w.on p.reach p.left f.a c it.first it.between it.a_polled)
      (w.on it.between it.after d (unless_reached w b q (is_some (failure_of it.first)) f.b it.between it.second it.after it.b_polled) (by_answer r it.waits it.ends))
    where
      by_answer : (answer : Poll (Result (X × Y) E)) → OnPending answer ((g ≡ record { a = it.first; b = it.second }) × (d ≡ it.after)) → OnReady answer ((g ≡ record { a = Gone; b = Gone }) × BothCancel a b it.first it.second it.after d) → w.reaches it.after d
      by_answer (Ready z) waits ends = both_left it.first it.second it.after d ends.1
      by_answer Pending waits ends = same_reached w it.after d waits.1

  abbrev Covered : C → C → MaybeDone A (Result X E) → MaybeDone B (Result Y E) → Type 0
  Covered c d first second = CoversIn w c d (λ x. MaybeNeeds p.needs first x ⊎ MaybeNeeds q.needs second x)

  a_covers : (f : MaybeDone A (Result X E)) (c : C) (first : MaybeDone A (Result X E)) (m : C) → Advances a f c first m → MaybeCovers a w.number w.work w.reaches w.watcher p.needs c first m
  a_covers = advance_covers a w.number w.work w.reaches w.watcher p.needs p.covers

  b_covers : (f : MaybeDone B (Result Y E)) (c : C) (second : MaybeDone B (Result Y E)) (m : C) → Advances b f c second m → MaybeCovers b w.number w.work w.reaches w.watcher q.needs c second m
  b_covers = advance_covers b w.number w.work w.reaches w.watcher q.needs q.covers

  abbrev ok_first : X → Option (Result X E)
  ok_first x = Some (Ok x)

  both_end : (x : X) (y : Result Y E) → Pending ≡ try_join_rule (both_results (ok_first x) (Some y)) → ⊥
  both_end x (Ok y) e = no_answer (Ok (inl x ∷ inr y ∷ [])) e
  both_end x (Err y) e = no_answer (Err y) e

  -- the second was polled, since the first has not failed
  two_cover : (c m d : C) (first : MaybeDone A (Result X E)) (before second : MaybeDone B (Result Y E)) → w.reaches c m → MaybeCovers a w.number w.work w.reaches w.watcher p.needs c first m
      → AdvancesUnless b (is_some (failure_of first)) before m second d → Pending ≡ try_join_rule (both_results (output_of first) (output_of second)) → Covered c d first second
  two_cover c m d (Future f) before second reached one turn told = record {
    one = one_before w c m d (p.needs f) (λ x. MaybeNeeds {O = Result X E} p.needs (Future f) x ⊎ MaybeNeeds {O = Result Y E} q.needs second x) (λ x is. inl is) one.one more;
    each = λ x is. elim is [
      | inl left ↦ heard_before w c m d x (one.each x left) more
      | inr right ↦ heard_after w c m d x reached (one_hears w b q m second d (b_covers before m second d turn) x right)
    ];
  }
    where
      more : w.reaches m d
      more = unless_reached w b q false before m second d turn
  two_cover c m d (Done (Ok x)) before second reached one turn told = by_second second (b_covers before m second d turn) told
    where
      by_second : (s : MaybeDone B (Result Y E)) → MaybeCovers b w.number w.work w.reaches w.watcher q.needs m s d → Pending ≡ try_join_rule (both_results (ok_first x) (output_of s)) → Covered c d (Done (Ok x)) s
      by_second (Future g) two is = record {
        one = one_after w c m d (q.needs g) (λ z. MaybeNeeds {O = Result X E} p.needs (Done (Ok x)) z ⊎ MaybeNeeds {O = Result Y E} q.needs (Future g) z) (λ z is. inr is) reached two.one;
        each = λ z needed. elim needed [ inl none ↦ absurd none | inr right ↦ heard_after w c m d z reached (two.each z right) ];
      }
      by_second (Done y) two is = absurd (both_end x y is)
      by_second Gone two is = absurd two
  two_cover c m d (Done (Err e)) before second reached one turn told = absurd (no_answer (Err e) told)
  two_cover c m d Gone before second reached one turn told = absurd one

  pub try_joins_cover : (f : TryJoin2 A B X Y E) (c : C) (g : TryJoin2 A B X Y E) (d : C) → TryJoinPolls a b f c Pending g d → CoversIn w c d (TryJoinNeeds p.needs q.needs g)
  try_joins_cover f c g d it =
      subst (λ v. CoversIn w c d (TryJoinNeeds p.needs q.needs v)) (sym it.waits.0) (subst (λ e. Covered c e it.first it.second) (sym it.waits.1)
      (two_cover c it.between it.after it.first f.b it.second (advance_reached a w.reaches w.itself w.on p.reach p.left f.a c it.first it.between it.a_polled) (a_covers f.a c it.first it.between it.a_polled) it.b_polled it.answer))
