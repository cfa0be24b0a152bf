use Rattle.std.proofs.Common.{◌≡◌, ◌≢◌, ◌<◌, ◌==◌, Bool, true, false, length, take, sym, ap, subst, ◌∙◌, inl, inr, arith}
use Rattle.std.specs.Prelude.{slice_index_or, MatchBool}
use Rattle.std.specs.List.{list_any}
use Rattle.std.proofs.lemmas.List.{get_or_default}
use Rattle.mono_sync.specs.Touched.{IsMarked, Rises}
use Rattle.mono_sync.proofs.TouchedLemmas.{rising, cuts, inserts, has_cut, has_still}
use Rattle.mono_sync.proofs.touched.Touched.note.Goals as goal
use Rattle.mono_sync.proofs.touched.Touched.note.Goals.{else-place-len-via-then-place-len+else-index-key, else-place-len-via-else-place-len}

true-false : true ≡ false → ⊥
true-false e = cc

added : (b : Bool) (P Q : Type 0) → b ≡ true → MatchBool b P Q → P
added true P Q e p = p
added false P Q e p = absurd (true-false (sym e))

refused : (b : Bool) (P Q : Type 0) → b ≡ false → MatchBool b P Q → Q
refused true P Q e p = absurd (true-false e)
refused false P Q e p = p

pub place_of-place-requires : goal.place_of-place-requires
place_of-place-requires c = record { ascending = λ i j d le within. rising 0 c.self.inside.keys.items c.self.inside.from i j d c.self.invariant le within }

pub invariant_of-self : goal.invariant_of-self
invariant_of-self c =
    let same = refused c.put.result _ _ c.if-not-put.true c.put.ensures in
    subst (λ zs. Rises 0 zs c.args.key) (sym (c.truncate.ensures.items ∙ ap (take c.place_of-place.result) same))
    (cuts 0 c.self.inside.keys.items c.self.inside.from c.place_of-place.result c.args.key c.self.invariant c.place_of-place.ensures (omega arith))

pub invariant_of-self-else-not-put : goal.invariant_of-self-else-not-put
invariant_of-self-else-not-put c =
    let same = added c.put.result _ _ c.if-not-put.false c.put.ensures in
    let other : c.place_of-place.result < length c.self.inside.keys.items → slice_index_or c.self.inside.keys.items c.place_of-place.result 0 ≢ c.args.key = elim c.else-place-len.branch [
      | else-place-len-via-then-place-len+else-index-key w ↦ λ within e. w.if-index-key.false (w.index.ensures ∙ get_or_default c.self.inside.keys.items c.place_of-place.result w.index.result.now 0 within ∙ e)
      | else-place-len-via-else-place-len w ↦ λ within e. absurd (omega (arith, w.if-place-len.false, within, c.len.ensures, c.self.inside.keys.ok.0))
    ] in
    subst (λ zs. Rises 0 zs c.self.inside.from) (sym same)
    (inserts 0 c.self.inside.keys.items c.self.inside.from c.place_of-place.result c.args.key c.self.invariant c.place_of-place.ensures (omega arith) (omega (arith, c.if-key-self.false)) other)

pub returns-then-not-put-clause-others : goal.returns-then-not-put-clause-others
returns-then-not-put-clause-others c k marked =
    let same = refused c.put.result _ _ c.if-not-put.true c.put.ensures in
    let before : IsMarked (record { keys = c.self.inside.keys.items; from = c.self.inside.from }) k = subst (λ s. IsMarked s k) (sym c.self.view_is) marked in
    elim before [
      | inl there ↦ elim (has_cut 0 c.self.inside.keys.items c.self.inside.from c.place_of-place.result c.args.key k c.self.invariant c.place_of-place.ensures (omega (arith, c.if-key-self.false)) there) [
        | inl kept ↦ inl (ap (λ zs. list_any (λ j. j == k) zs) (c.truncate.ensures.items ∙ ap (take c.place_of-place.result) same) ∙ kept)
        | inr past ↦ inr past
      ]
      | inr past ↦ inr (omega (arith, past, c.if-key-self.false))
    ]

pub returns-else-not-put-clause-others : goal.returns-else-not-put-clause-others
returns-else-not-put-clause-others c k marked =
    let same = added c.put.result _ _ c.if-not-put.false c.put.ensures in
    let before : IsMarked (record { keys = c.self.inside.keys.items; from = c.self.inside.from }) k = subst (λ s. IsMarked s k) (sym c.self.view_is) marked in
    elim before [
      | inl there ↦ inl (ap (λ zs. list_any (λ j. j == k) zs) same ∙ has_still c.self.inside.keys.items c.place_of-place.result c.args.key k there)
      | inr past ↦ inr past
    ]
