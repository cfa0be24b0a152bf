-- Two lists exchange their nodes by their heads, and slots that are in no list change.
use Rattle.std.proofs.Common.{arith, ◌≡◌, ◌≢◌, ℕ, ◌+◌, ◌-◌, ◌<◌, ◌≤◌, ◌⊎◌, inl, inr, length, true, false, ◌==◌, if◌then◌else◌, List, [], ◌∷◌, ◌++◌, map, Some, None, get_or, set, ap, refl, sym, ◌∙◌, subst, get_or-set_same, get_or-set_other, length-set, length-append, eq-eqb, not}
use Rattle.std.proofs.lemmas.Bool.Decides.{eqb_tells}
use Rattle.std.proofs.lemmas.List.{length-map, map-set, get_or_past}
use Rattle.std.proofs.lemmas.Bool.{cases_lt}
use Rattle.std.proofs.Math.ListN.{get_or-map, get_or-append}
use Rattle.std.proofs.Math.Seq.{get_or-append_seam}
use Rattle.std.proofs.Math.Seq.{map-set_same}
use Rattle.mono_wheel.proofs.SlotLemmas.{same_at}
use Rattle.slab.specs.Slab.{Updates, Slab, slab_len}
use Rattle.mono_wheel.specs.Lists.{Lists, IsIn, IsLoose, with_list, with_entry, list_at, is_node, entry_at, no_entry, Added, Freed}
use Rattle.mono_wheel.specs.Rings.{Slots, ring_of, seen, at, head_at, next_in, prev_in, next_of, prev_of, is_inner, is_outer, entry_of, is_inner_at, is_outer_at, Distinct, Stand, Joined}
use Rattle.mono_wheel.specs.declared.nodes.Node.{Node}
use Rattle.mono_wheel.specs.declared.entry.Entry.{Entry}
use Rattle.mono_wheel.proofs.ChainLemmas.{chain-frame, is_in_equal}
use Rattle.mono_wheel.proofs.RingLemmas.{stand-lists, inner_not_outer, false-true}
use Rattle.mono_wheel.proofs.CallLemmas.{seen-below, cascaded-stand, same_record, seen-known, seen-loose}

-- The place of an element before the i-th and the j-th were exchanged.
turned : ℕ → ℕ → ℕ → ℕ
turned i j m = if m == i then j else if m == j then i else m

turn : {X : Type 0} → List X → ℕ → ℕ → X → List X
turn xs i j d = set (set xs i (get_or xs j d)) j (get_or xs i d)

get_or-turned : {X : Type 0} (xs : List X) (i j m : ℕ) (d : X) → i < length xs → j < length xs → i ≢ j → get_or (turn xs i j d) m d ≡ get_or xs (turned i j m) d
unfolding turn turned
get_or-turned xs i j m d bi bj ne =
    let bj2 : j < length (set xs i (get_or xs j d)) = rw length-set bj in
    elim (eqb_tells m j) [
      | inl e ↦ elim (eqb_tells m i) [
        | inl f ↦ absurd (ne (sym f.1 ∙ e.1))
        | inr f ↦ rw (f.0, e.0) (ap (λ z. get_or (set (set xs i (get_or xs j d)) j (get_or xs i d)) z d) e.1 ∙ get_or-set_same (set xs i (get_or xs j d)) j (get_or xs i d) d bj2)
      ]
      | inr e ↦ elim (eqb_tells m i) [
        | inl f ↦ rw f.0 (get_or-set_other (set xs i (get_or xs j d)) j m (get_or xs i d) d e.1 ∙ ap (λ z. get_or (set xs i (get_or xs j d)) z d) f.1 ∙ get_or-set_same xs i (get_or xs j d) d bi)
        | inr f ↦ rw (f.0, e.0) (get_or-set_other (set xs i (get_or xs j d)) j m (get_or xs i d) d e.1 ∙ get_or-set_other xs i m (get_or xs j d) d f.1)
      ]
    ]

length-turn : {X : Type 0} (xs : List X) (i j : ℕ) (d : X) → length (turn xs i j d) ≡ length xs
unfolding turn
length-turn xs i j d = length-set (set xs i (get_or xs j d)) j (get_or xs i d) ∙ length-set xs i (get_or xs j d)

turned-below : (i j m n : ℕ) → i < n → j < n → m < n → turned i j m < n
unfolding turned
turned-below i j m n bi bj bm =
    elim (eqb_tells m i) [ inl e ↦ rw e.0 bj | inr e ↦ elim (eqb_tells m j) [ inl f ↦ rw (e.0, f.0) bi | inr f ↦ rw (e.0, f.0) bm ] ]

turned-back : (i j m : ℕ) → turned i j (turned i j m) ≡ m
unfolding turned
turned-back i j m =
    elim (eqb_tells m i) [
      | inl e ↦ rw e.0 (elim (eqb_tells j i) [ inl f ↦ rw f.0 (f.1 ∙ sym e.1) | inr f ↦ rw (f.0, eq-eqb j j refl) (sym e.1) ])
      | inr e ↦ elim (eqb_tells m j) [
        | inl f ↦ rw (e.0, f.0) (rw (eq-eqb i i refl) (sym f.1))
        | inr f ↦ rw (e.0, f.0) (rw (e.0, f.0) refl)
      ]
    ]

turned-apart : (i j m n : ℕ) → turned i j m ≡ turned i j n → m ≡ n
turned-apart i j m n h = sym (turned-back i j m) ∙ ap (turned i j) h ∙ turned-back i j n

-- two lists have each other's nodes
stand-turned : (slots : Slots) (heads : List ℕ) (lists : List (List ℕ)) (i j : ℕ) → i < length heads → j < length heads → i ≢ j → Stand slots heads lists → Stand slots (turn heads i j 0) (turn lists i j [])
stand-turned slots heads lists i j bi bj ne s =
    let bli : i < length lists = omega (arith, s.count, bi) in
    let blj : j < length lists = omega (arith, s.count, bj) in
    let hl : length (turn heads i j 0) ≡ length heads = length-turn heads i j 0 in
    let head : (m : ℕ) → head_at (turn heads i j 0) m ≡ head_at heads (turned i j m) = λ m. get_or-turned heads i j m 0 bi bj ne in
    let list : (m : ℕ) → at (turn lists i j []) m ≡ at lists (turned i j m) = λ m. get_or-turned lists i j m [] bli blj ne in
    let low : (m : ℕ) → m < length (turn heads i j 0) → turned i j m < length heads = λ m b. turned-below i j m (length heads) bi bj (subst (λ z. m < z) hl b) in
    record {
      count = length-turn lists i j [] ∙ s.count ∙ sym hl;
      rings = λ m b. rw (head m, list m) (s.rings (turned i j m) (low m b));
      distinct = λ m b. rw (list m) (s.distinct (turned i j m) (low m b));
      apart = λ m n k bm bn hm hn. turned-apart i j m n (s.apart (turned i j m) (turned i j n) k (low m bm) (low n bn) (subst (IsIn k) (list m) hm) (subst (IsIn k) (list n) hn));
      inner = λ m k b h. s.inner (turned i j m) k (low m b) (subst (IsIn k) (list m) h);
      outer = λ m b. rw (head m) (s.outer (turned i j m) (low m b));
      heads_apart = λ m n bm bn e. turned-apart i j m n (s.heads_apart (turned i j m) (turned i j n) (low m bm) (low n bn) (sym (head m) ∙ e ∙ head n));
    }

pub after-take : (slots : Slots) (heads : List ℕ) (v : Lists) (room i j x y : ℕ) → seen slots heads room ≡ v → Stand slots heads (map (ring_of slots) heads) →
    i < length v.lists → j < length v.lists → i ≢ j → list_at v j ≡ [] → x ≡ head_at heads j → y ≡ head_at heads i →
    Stand slots (set (set heads i x) j y) (map (ring_of slots) (set (set heads i x) j y)) × (seen slots (set (set heads i x) j y) room ≡ with_list (with_list v i []) j (list_at v i))
unfolding turn
after-take slots heads v room i j x y e s bi bj ne empty hx hy =
    let stands = stand-turned slots heads (map (ring_of slots) heads) i j (seen-below slots heads room v i e bi) (seen-below slots heads room v j e bj) ne s in
    let here : set (set heads i x) j y ≡ set (set heads i (head_at heads j)) j (head_at heads i) = ap (λ z. set (set heads i z) j y) hx ∙ ap (λ z. set (set heads i (head_at heads j)) j z) hy in
    let again : Stand slots (set (set heads i x) j y) (turn (map (ring_of slots) heads) i j []) = subst (λ zs. Stand slots zs (turn (map (ring_of slots) heads) i j [])) (sym here) stands in
    let none : at (map (ring_of slots) heads) j ≡ [] = subst (λ w. list_at w j ≡ []) (sym e) empty in (
      cascaded-stand slots _ _ again,
      subst (λ w. seen slots (set (set heads i x) j y) room ≡ with_list (with_list w i []) j (list_at w i)) e
          (same_record _ _ _ _ _ _ _ _ (stand-lists slots _ _ again ∙ ap (λ z. set (set (map (ring_of slots) heads) i z) j (at (map (ring_of slots) heads) i)) none) refl refl refl),
    )

-- Only slots that are in no ring change.
stand-kept : (slots s2 : Slots) (heads : List ℕ) (lists : List (List ℕ)) → Stand slots heads lists →
    ((l k : ℕ) → l < length heads → ((k ≡ head_at heads l) ⊎ IsIn k (at lists l)) → get_or s2 k None ≡ get_or slots k None) → Stand s2 heads lists
stand-kept slots s2 heads lists s same = record {
  count = s.count;
  rings = λ l b. chain-frame (next_in slots) (prev_in slots) (next_in s2) (prev_in s2) _ (at lists l) _
      (ap next_of (same l _ b (inl refl))) (λ k h. ap next_of (same l k b (inr h)))
      (ap prev_of (same l _ b (inl refl))) (λ k h. ap prev_of (same l k b (inr h))) (s.rings l b);
  distinct = s.distinct;
  apart = s.apart;
  inner = λ l k b h. ap is_inner (same l k b (inr h)) ∙ s.inner l k b h;
  outer = λ l b. ap is_outer (same l _ b (inl refl)) ∙ s.outer l b;
  heads_apart = s.heads_apart;
}

-- a slot that was vacant has anything now
pub stand-filled : (slots s2 : Slots) (heads : List ℕ) (lists : List (List ℕ)) (node : ℕ) → Stand slots heads lists → get_or slots node None ≡ None →
    ((k : ℕ) → k ≢ node → get_or s2 k None ≡ get_or slots k None) → Stand s2 heads lists
stand-filled slots s2 heads lists node s none same = stand-kept slots s2 heads lists s (λ l k b w. same k (λ e. elim w [
  | inl h ↦ false-true (sym (ap is_outer none) ∙ subst (λ z. is_outer_at slots z ≡ true) (sym h ∙ e) (s.outer l b))
  | inr h ↦ false-true (sym (ap is_inner none) ∙ subst (λ z. is_inner_at slots z ≡ true) e (s.inner l k b h))
]))

-- a node that is in no list goes
pub stand-freed : (slots s2 : Slots) (heads : List ℕ) (lists : List (List ℕ)) (node : ℕ) → Stand slots heads lists → is_inner_at slots node ≡ true → ((m : ℕ) → IsIn node (at lists m) → ⊥) →
    ((k : ℕ) → k ≢ node → get_or s2 k None ≡ get_or slots k None) → Stand s2 heads lists
stand-freed slots s2 heads lists node s known loose same = stand-kept slots s2 heads lists s (λ l k b w. same k (λ e. elim w [
  | inl h ↦ inner_not_outer slots node known (subst (λ z. is_outer_at slots z ≡ true) (sym h ∙ e) (s.outer l b))
  | inr h ↦ loose l (is_in_equal k node _ e h)
]))

-- which numbers are nodes, as slots show it
node_in : (slots : Slots) (k : ℕ) → get_or (map is_inner slots) k false ≡ is_inner_at slots k
node_in slots k = get_or-map is_inner slots k None

-- what numbers carry, as slots show it
pub carried_in : (slots : Slots) (k : ℕ) → get_or (map entry_of slots) k no_entry ≡ entry_of (get_or slots k None)
carried_in slots k = get_or-map entry_of slots k None

lists_known : (slots : Slots) (heads : List ℕ) → Stand slots heads (map (ring_of slots) heads) → (node l : ℕ) → is_inner_at slots node ≡ false → IsIn node (at (map (ring_of slots) heads) l) → ⊥
lists_known slots heads s node l unknown h =
    elim (cases_lt l (length heads)) [
      | inl b ↦ false-true (sym unknown ∙ s.inner l node b h)
      | inr b ↦ subst (λ zs. IsIn node zs) (get_or_past (map (ring_of slots) heads) l [] (omega (arith, b, length-map heads (ring_of slots)))) h
    ]

-- a node lies in the table
room-of : (slots : Slots) (k : ℕ) → is_inner_at slots k ≡ true → k < length (map entry_of slots)
room-of slots k h = let b : k < length slots = inner-below slots k h in omega (arith, b, length-map slots entry_of)
  where
    inner-below : (slots : Slots) (k : ℕ) → is_inner_at slots k ≡ true → k < length slots
    inner-below slots k h = elim (cases_lt k (length slots)) [
      | inl b ↦ b
      | inr b ↦ absurd (false-true (sym (ap is_inner (get_or_past slots k None b)) ∙ h))
    ]

pub after-add : (old new : Slab Node) (heads : List ℕ) (v : Lists) (limit node : ℕ) (x : Node) → seen old.slots heads (limit - slab_len old) ≡ v → Stand old.slots heads (map (ring_of old.slots) heads) →
    get_or old.slots node None ≡ None → Updates old new node (Some x) → x.is_end ≡ false → x.entry ≡ no_entry → slab_len new ≡ slab_len old + 1 → 0 < v.room →
    Added v (seen new.slots heads (limit - slab_len new)) node
after-add old new heads v limit node x e s none u inner nothing len room =
    let again = stand-filled old.slots new.slots heads _ node s none u.others in
    let more : 0 < limit - slab_len old = subst (λ w. 0 < w.room) (sym e) room in
    let unknown : is_inner_at old.slots node ≡ false = ap is_inner none in
    subst (λ w. Added w (seen new.slots heads (limit - slab_len new)) node) e
    (record {
      was_unknown = node_in old.slots node ∙ unknown;
      known = node_in new.slots node ∙ ap is_inner u.changed ∙ ap not inner;
      others = λ k ne. node_in new.slots k ∙ ap is_inner (u.others k ne) ∙ sym (node_in old.slots k);
      in_none = λ l h. lists_known old.slots heads s node l unknown (subst (λ zs. IsIn node (at zs l)) (stand-lists new.slots heads _ again) h);
      lists = stand-lists new.slots heads _ again;
      entries = λ k. carried_in new.slots k ∙ elim (eqb_tells k node) [
        | inl t ↦ ap (λ z. entry_of (get_or new.slots z None)) t.1 ∙ ap entry_of u.changed ∙ nothing ∙ sym (ap entry_of none) ∙ ap (λ z. entry_of (get_or old.slots z None)) (sym t.1)
        | inr t ↦ ap entry_of (u.others k t.1)
      ] ∙ sym (carried_in old.slots k);
      inside = λ k known. room-of new.slots k (sym (node_in new.slots k) ∙ known);
      room = omega (arith, len, more);
    })

pub after-free : (old new : Slab Node) (heads : List ℕ) (v : Lists) (limit node : ℕ) → seen old.slots heads (limit - slab_len old) ≡ v → Stand old.slots heads (map (ring_of old.slots) heads) →
    IsLoose v node → Updates old new node None → new.slots ≡ set old.slots node None → slab_len new + 1 ≡ slab_len old → slab_len new + 1 ≤ limit →
    Freed v (seen new.slots heads (limit - slab_len new)) node
after-free old new heads v limit node e s loose u written len room =
    let again = stand-freed old.slots new.slots heads _ node s (seen-known old.slots heads _ v node e loose.known) (seen-loose old.slots heads _ v node e loose) u.others in
    subst (λ w. Freed w (seen new.slots heads (limit - slab_len new)) node) e
    (record {
      unknown = node_in new.slots node ∙ ap is_inner u.changed;
      others = λ k ne. node_in new.slots k ∙ ap is_inner (u.others k ne) ∙ sym (node_in old.slots k);
      lists = stand-lists new.slots heads _ again;
      entries = ap (map entry_of) written ∙ map-set entry_of old.slots node None;
      room = omega (arith, len, room);
    })

-- a number that was vacant is in no ring
vacant_apart : (slots : Slots) (heads : List ℕ) (lists : List (List ℕ)) (node : ℕ) → Stand slots heads lists → get_or slots node None ≡ None → (l k : ℕ) → l < length heads → ((k ≡ head_at heads l) ⊎ IsIn k (at lists l)) → k ≢ node
vacant_apart slots heads lists node s none l k b w e = elim w [
  | inl h ↦ false-true (sym (ap is_outer none) ∙ subst (λ z. is_outer_at slots z ≡ true) (sym h ∙ e) (s.outer l b))
  | inr h ↦ false-true (sym (ap is_inner none) ∙ subst (λ z. is_inner_at slots z ≡ true) e (s.inner l k b h))
]

-- a new end node is joined to itself
pub stand-ended : (slots s1 s2 : Slots) (heads : List ℕ) (lists : List (List ℕ)) (head : ℕ) → Stand slots heads lists → get_or slots head None ≡ None →
    ((k : ℕ) → k ≢ head → get_or s1 k None ≡ get_or slots k None) → Joined s1 s2 head head → Stand s2 heads lists
stand-ended slots s1 s2 heads lists head s none others f =
    let far = vacant_apart slots heads lists head s none in
    let next : (k : ℕ) → k ≢ head → next_in s2 k ≡ next_in slots k = λ k ne. f.next_others k ne ∙ ap next_of (others k ne) in
    let prev : (k : ℕ) → k ≢ head → prev_in s2 k ≡ prev_in slots k = λ k ne. f.prev_others k ne ∙ ap prev_of (others k ne) in
    record {
      count = s.count;
      rings = λ l b. chain-frame (next_in slots) (prev_in slots) (next_in s2) (prev_in s2) _ (at lists l) _
          (next _ (far l _ b (inl refl))) (λ k h. next k (far l k b (inr h)))
          (prev _ (far l _ b (inl refl))) (λ k h. prev k (far l k b (inr h))) (s.rings l b);
      distinct = s.distinct;
      apart = s.apart;
      inner = λ l k b h. same_at is_inner s1 s2 None k f.kinds.inner ∙ ap is_inner (others k (far l k b (inr h))) ∙ s.inner l k b h;
      outer = λ l b. same_at is_outer s1 s2 None (head_at heads l) f.kinds.outer ∙ ap is_outer (others (head_at heads l) (far l _ b (inl refl))) ∙ s.outer l b;
      heads_apart = s.heads_apart;
    }

below_or_last : (m n : ℕ) (heads : List ℕ) (head : ℕ) → n ≡ length heads → m < length (heads ++ head ∷ []) → (m < n) ⊎ (m ≡ n)
below_or_last m n heads head e b = let h : m < length heads + 1 = subst (λ z. m < z) (length-append heads (head ∷ [])) b in elim (cases_lt m n) [ inl l ↦ inl l | inr g ↦ inr (omega (arith, e, h, g)) ]

-- a ring with no node is one more list
pub stand-listed : (slots : Slots) (heads : List ℕ) (lists : List (List ℕ)) (head : ℕ) → Stand slots heads lists →
    next_in slots head ≡ head → prev_in slots head ≡ head → is_outer_at slots head ≡ true → ((l : ℕ) → l < length heads → head_at heads l ≢ head) →
    Stand slots (heads ++ head ∷ []) (lists ++ [] ∷ [])
stand-listed slots heads lists head s forth back outer fresh =
    let n : ℕ = length heads in
    let old_head : (m : ℕ) → m < length heads → head_at (heads ++ head ∷ []) m ≡ head_at heads m = λ m b. get_or-append heads (head ∷ []) 0 m b in
    let new_head : head_at (heads ++ head ∷ []) (length heads) ≡ head = get_or-append_seam heads head [] 0 in
    let old_list : (m : ℕ) → m < length heads → at (lists ++ [] ∷ []) m ≡ at lists m = λ m b. get_or-append lists ([] ∷ []) [] m (omega (arith, b, s.count)) in
    let new_list : at (lists ++ [] ∷ []) (length heads) ≡ [] = subst (λ z. at (lists ++ [] ∷ []) z ≡ []) s.count (get_or-append_seam lists [] [] []) in
    let cases : (m : ℕ) → m < length (heads ++ head ∷ []) → (m < length heads) ⊎ (m ≡ length heads) = λ m b. below_or_last m (length heads) heads head refl b in
    let none : (m k : ℕ) → m ≡ length heads → IsIn k (at (lists ++ [] ∷ []) m) → ⊥ = λ m k e h. subst (λ zs. IsIn k zs) (ap (at (lists ++ [] ∷ [])) e ∙ new_list) h in
    record {
      count = length-append lists ([] ∷ []) ∙ ap (λ z. z + 1) s.count ∙ sym (length-append heads (head ∷ []));
      rings = λ m b. elim (cases m b) [
        | inl l ↦ rw (old_head m l, old_list m l) (s.rings m l)
        | inr e ↦ rw (ap (head_at (heads ++ head ∷ [])) e ∙ new_head, ap (at (lists ++ [] ∷ [])) e ∙ new_list) (record { forth = forth; back = back })
      ];
      distinct = λ m b. elim (cases m b) [ inl l ↦ rw (old_list m l) (s.distinct m l) | inr e ↦ rw (ap (at (lists ++ [] ∷ [])) e ∙ new_list) tt ];
      apart = λ i j k bi bj hi hj. elim (cases i bi) [
        | inl l ↦ elim (cases j bj) [ inl g ↦ s.apart i j k l g (subst (IsIn k) (old_list i l) hi) (subst (IsIn k) (old_list j g) hj) | inr e ↦ absurd (none j k e hj) ]
        | inr e ↦ absurd (none i k e hi)
      ];
      inner = λ m k b h. elim (cases m b) [ inl l ↦ s.inner m k l (subst (IsIn k) (old_list m l) h) | inr e ↦ absurd (none m k e h) ];
      outer = λ m b. elim (cases m b) [ inl l ↦ rw (old_head m l) (s.outer m l) | inr e ↦ rw (ap (head_at (heads ++ head ∷ [])) e ∙ new_head) outer ];
      heads_apart = λ i j bi bj h. elim (cases i bi) [
        | inl l ↦ elim (cases j bj) [ inl g ↦ s.heads_apart i j l g (sym (old_head i l) ∙ h ∙ old_head j g) | inr e ↦ absurd (fresh i l (sym (old_head i l) ∙ h ∙ ap (head_at (heads ++ head ∷ [])) e ∙ new_head)) ]
        | inr e ↦ elim (cases j bj) [ inl g ↦ absurd (fresh j g (sym (old_head j g) ∙ sym h ∙ ap (head_at (heads ++ head ∷ [])) e ∙ new_head)) | inr f ↦ e ∙ sym f ]
      ];
    }

-- The view once a list was added.
pub after-list : (slots s1 s2 : Slots) (heads heads2 : List ℕ) (v : Lists) (room head : ℕ) (x : Node) → seen slots heads room ≡ v → Stand slots heads (map (ring_of slots) heads) → get_or slots head None ≡ None →
    get_or s1 head None ≡ Some x → x.is_end ≡ true → x.entry ≡ no_entry → ((k : ℕ) → k ≢ head → get_or s1 k None ≡ get_or slots k None) → Joined s1 s2 head head → heads2 ≡ heads ++ head ∷ [] →
    Stand s2 heads2 (map (ring_of s2) heads2) × (map (ring_of s2) heads2 ≡ v.lists ++ [] ∷ []) × ((k : ℕ) → get_or (map is_inner s2) k false ≡ is_node v k) × ((k : ℕ) → get_or (map entry_of s2) k no_entry ≡ entry_at v k)
after-list slots s1 s2 heads heads2 v room head x e s none here ends nothing others f he =
    let old = stand-ended slots s1 s2 heads (map (ring_of slots) heads) head s none others f in
    let new = stand-listed s2 heads (map (ring_of slots) heads) head old f.next_before f.prev_after (same_at is_outer s1 s2 None head f.kinds.outer ∙ ap is_outer here ∙ ends) (λ l b h. vacant_apart slots heads _ head s none l _ b (inl refl) h) in
    let moved : Stand s2 heads2 (map (ring_of slots) heads ++ [] ∷ []) = subst (λ hs. Stand s2 hs (map (ring_of slots) heads ++ [] ∷ [])) (sym he) new in (
      cascaded-stand s2 heads2 _ moved,
      subst (λ w. map (ring_of s2) heads2 ≡ w.lists ++ [] ∷ []) e (stand-lists s2 heads2 _ moved),
      subst (λ w. (k : ℕ) → get_or (map is_inner s2) k false ≡ is_node w k) e
          (λ k. node_in s2 k ∙ same_at is_inner s1 s2 None k f.kinds.inner ∙ elim (eqb_tells k head) [
            | inl h ↦ ap (is_inner_at s1) h.1 ∙ ap is_inner here ∙ ap not ends ∙ sym (ap is_inner none) ∙ ap (is_inner_at slots) (sym h.1) ∙ sym (node_in slots k)
            | inr h ↦ ap is_inner (others k h.1) ∙ sym (node_in slots k)
          ]),
      subst (λ w. (k : ℕ) → get_or (map entry_of s2) k no_entry ≡ entry_at w k) e
          (λ k. carried_in s2 k ∙ same_at entry_of s1 s2 None k f.kinds.entries ∙ elim (eqb_tells k head) [
            | inl h ↦ ap (λ z. entry_of (get_or s1 z None)) h.1 ∙ ap entry_of here ∙ nothing ∙ sym (ap entry_of none) ∙ ap (λ z. entry_of (get_or slots z None)) (sym h.1) ∙ sym (carried_in slots k)
            | inr h ↦ ap entry_of (others k h.1) ∙ sym (carried_in slots k)
          ]),
    )

-- a node carries other ticks
pub after-entry : (slots : Slots) (heads : List ℕ) (v : Lists) (room room2 node : ℕ) (x : Node) (entry : Entry) → seen slots heads room ≡ v → room2 ≡ room → Stand slots heads (map (ring_of slots) heads) → get_or slots node None ≡ Some x →
    (let s2 : Slots = set slots node (Some record { prev = x.prev; next = x.next; entry = entry; is_end = x.is_end }) in Stand s2 heads (map (ring_of s2) heads) × (seen s2 heads room2 ≡ with_entry v node entry))
after-entry slots heads v room room2 node x entry e r s here =
    let s2 : Slots = set slots node (Some record { prev = x.prev; next = x.next; entry = entry; is_end = x.is_end }) in
    let nexts : map next_of s2 ≡ map next_of slots = map-set_same next_of slots node _ None (rw here refl) in
    let prevs : map prev_of s2 ≡ map prev_of slots = map-set_same prev_of slots node _ None (rw here refl) in
    let inners : map is_inner s2 ≡ map is_inner slots = map-set_same is_inner slots node _ None (rw here refl) in
    let outers : map is_outer s2 ≡ map is_outer slots = map-set_same is_outer slots node _ None (rw here refl) in
    let next : (k : ℕ) → next_in s2 k ≡ next_in slots k = λ k. same_at next_of slots s2 None k nexts in
    let prev : (k : ℕ) → prev_in s2 k ≡ prev_in slots k = λ k. same_at prev_of slots s2 None k prevs in
    let stands : Stand s2 heads (map (ring_of slots) heads) = record {
      count = s.count;
      rings = λ l b. chain-frame (next_in slots) (prev_in slots) (next_in s2) (prev_in s2) _ (at (map (ring_of slots) heads) l) _ (next _) (λ k h. next k) (prev _) (λ k h. prev k) (s.rings l b);
      distinct = s.distinct;
      apart = s.apart;
      inner = λ l k b h. same_at is_inner slots s2 None k inners ∙ s.inner l k b h;
      outer = λ l b. same_at is_outer slots s2 None (head_at heads l) outers ∙ s.outer l b;
      heads_apart = s.heads_apart;
    } in (
      cascaded-stand s2 heads _ stands,
      subst (λ w. seen s2 heads room2 ≡ with_entry w node entry) e (same_record _ _ _ _ _ _ _ _ (stand-lists s2 heads _ stands) inners (map-set entry_of slots node _) r),
    )

-- No list past the last has a node.
past : (slots : Slots) (heads : List ℕ) (l : ℕ) → length heads ≤ l → at (map (ring_of slots) heads) l ≡ []
past slots heads l h = get_or_past (map (ring_of slots) heads) l [] (omega (arith, h, length-map heads (ring_of slots)))

module _ (slots : Slots) (heads : List ℕ) (room : ℕ) (v : Lists) (e : seen slots heads room ≡ v) (s : Stand slots heads (map (ring_of slots) heads)) where
  pub seen-once : (l : ℕ) → Distinct (list_at v l)
  seen-once l = subst (λ w. Distinct (list_at w l)) e (elim (cases_lt l (length heads)) [
    | inl b ↦ s.distinct l b
    | inr b ↦ subst Distinct (sym (past slots heads l b)) tt
  ])

  within_below : (l k : ℕ) → IsIn k (at (map (ring_of slots) heads) l) → l < length heads
  within_below l k h = elim (cases_lt l (length heads)) [ inl b ↦ b | inr b ↦ absurd (subst (IsIn k) (past slots heads l b) h) ]

  pub seen-in : (l k : ℕ) → IsIn k (list_at v l) → is_node v k ≡ true
  seen-in l k h =
      let h2 : IsIn k (at (map (ring_of slots) heads) l) = subst (λ w. IsIn k (list_at w l)) (sym e) h in
      subst (λ w. is_node w k ≡ true) e (node_in slots k ∙ s.inner l k (within_below l k h2) h2)
