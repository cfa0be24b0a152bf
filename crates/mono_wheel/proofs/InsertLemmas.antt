-- A node is put between two others by one look at each.
use Rattle.std.proofs.Common.{arith, ◌≡◌, ◌≢◌, ◌<◌, ℕ, zero, suc, rules, List, [], ◌∷◌, length, map, Option, Some, None, is_some, get_or, set, ap, refl, sym, ◌∙◌, subst, get_or-set_same, get_or-set_other}
use Rattle.std.specs.Prelude.{IsSome}
use Rattle.std.specs.List.{count_by}
use Rattle.std.proofs.lemmas.Grind.{common_steps}
use Rattle.std.proofs.lemmas.List.{set-set, set_comm}
use Rattle.std.proofs.Math.Seq.{map-set_same}
use Rattle.mono_wheel.specs.Lists.{Lists, IsLoose, list_at, with_list, with_entry}
use Rattle.mono_wheel.specs.Rings.{Slots, next_of, next_in, ring_of, seen, head_at, Joined, Carries, Put, Stand}
use Rattle.mono_wheel.specs.declared.nodes.Node.{Node}
use Rattle.mono_wheel.specs.declared.entry.Entry.{Entry}
use Rattle.mono_wheel.proofs.SlotLemmas.{some_below, joined, same_at}
use Rattle.mono_wheel.proofs.CallLemmas.{after-push_front}
use Rattle.mono_wheel.proofs.ExchangeLemmas.{after-entry}

-- a write of a value leaves every number that had one with one, and the count of those with one
pub some-kept : (slots : Slots) (i k : ℕ) (x : Node) → IsSome (get_or slots k None) → IsSome (get_or (set slots i (Some x)) k None)
some-kept [] i k x h = h
some-kept (o ∷ os) zero zero x h = search rules
some-kept (o ∷ os) zero (suc k) x h = h
some-kept (o ∷ os) (suc i) zero x h = h
some-kept (o ∷ os) (suc i) (suc k) x h = some-kept os i k x h

count-kept : (slots : Slots) (i : ℕ) (x : Node) → IsSome (get_or slots i None) → count_by is_some (set slots i (Some x)) ≡ count_by is_some slots
count-kept slots i x h = grind (arith, common_steps)

is_some-by : (o : Option Node) (x : Node) → o ≡ Some x → IsSome o
is_some-by o x e = ap is_some e

pub count-joined : (slots : Slots) (before after : ℕ) (x y : Node) → get_or slots before None ≡ Some x →
    get_or (set slots before (Some record { prev = x.prev; next = after; entry = x.entry; is_end = x.is_end })) after None ≡ Some y →
    count_by is_some (set (set slots before (Some record { prev = x.prev; next = after; entry = x.entry; is_end = x.is_end })) after (Some record { prev = before; next = y.next; entry = y.entry; is_end = y.is_end })) ≡ count_by is_some slots
count-joined slots before after x y hx hy =
    count-kept (set slots before (Some record { prev = x.prev; next = after; entry = x.entry; is_end = x.is_end })) after (record { prev = before; next = y.next; entry = y.entry; is_end = y.is_end }) (is_some-by _ y hy)
    ∙ count-kept slots before (record { prev = x.prev; next = after; entry = x.entry; is_end = x.is_end }) (is_some-by _ x hx)

pub count-put : (slots : Slots) (before node : ℕ) (entry : Entry) (x y z : Node) → get_or slots before None ≡ Some x →
    get_or (set slots before (Some record { prev = x.prev; next = node; entry = x.entry; is_end = x.is_end })) node None ≡ Some y →
    get_or (set (set slots before (Some record { prev = x.prev; next = node; entry = x.entry; is_end = x.is_end })) node (Some record { prev = before; next = x.next; entry = entry; is_end = y.is_end })) x.next None ≡ Some z →
    count_by is_some (set (set (set slots before (Some record { prev = x.prev; next = node; entry = x.entry; is_end = x.is_end })) node (Some record { prev = before; next = x.next; entry = entry; is_end = y.is_end })) x.next (Some record { prev = node; next = z.next; entry = z.entry; is_end = z.is_end })) ≡ count_by is_some slots
count-put slots before node entry x y z hx hy hz =
    let led : Node = record { prev = x.prev; next = node; entry = x.entry; is_end = x.is_end } in
    let within : Node = record { prev = before; next = x.next; entry = entry; is_end = y.is_end } in
    let closed : Node = record { prev = node; next = z.next; entry = z.entry; is_end = z.is_end } in
    count-kept (set (set slots before (Some led)) node (Some within)) x.next closed (is_some-by _ z hz) ∙ count-kept (set slots before (Some led)) node within (is_some-by _ y hy) ∙ count-kept slots before led (is_some-by _ x hx)

pub put : (slots : Slots) (before node : ℕ) (entry : Entry) (x y z : Node) → node ≢ before → get_or slots before None ≡ Some x →
    get_or (set slots before (Some record { prev = x.prev; next = node; entry = x.entry; is_end = x.is_end })) node None ≡ Some y →
    get_or (set (set slots before (Some record { prev = x.prev; next = node; entry = x.entry; is_end = x.is_end })) node (Some record { prev = before; next = x.next; entry = entry; is_end = y.is_end })) x.next None ≡ Some z →
    Put slots (set (set (set slots before (Some record { prev = x.prev; next = node; entry = x.entry; is_end = x.is_end })) node (Some record { prev = before; next = x.next; entry = entry; is_end = y.is_end })) x.next (Some record { prev = node; next = z.next; entry = z.entry; is_end = z.is_end })) before node entry
put slots before node entry x y z ne hx hy hz =
    let led : Node = record { prev = x.prev; next = node; entry = x.entry; is_end = x.is_end } in
    let laden : Node = record { prev = y.prev; next = y.next; entry = entry; is_end = y.is_end } in
    let behind : Node = record { prev = before; next = y.next; entry = entry; is_end = y.is_end } in
    let within : Node = record { prev = before; next = x.next; entry = entry; is_end = y.is_end } in
    let closed : Node = record { prev = node; next = z.next; entry = z.entry; is_end = z.is_end } in
    let here : get_or slots node None ≡ Some y = sym (get_or-set_other slots before node (Some led) None ne) ∙ hy in
    let carrying : Slots = set slots node (Some laden) in
    let leading : Slots = set carrying before (Some led) in
    let between : Slots = set leading node (Some behind) in
    let first : get_or carrying before None ≡ Some x = get_or-set_other slots node before (Some laden) None (λ e. ne (sym e)) ∙ hx in
    let second : get_or leading node None ≡ Some laden = get_or-set_other carrying before node (Some led) None ne ∙ get_or-set_same slots node (Some laden) None (some_below slots node y here) in
    let third : get_or between node None ≡ Some behind = get_or-set_same leading node (Some behind) None (some_below leading node laden second) in
    let same : set between node (Some within) ≡ set (set slots before (Some led)) node (Some within) =
    set-set leading node (Some behind) (Some within) ∙ ap (λ s. set s node (Some within)) (set_comm slots node before (Some laden) (Some led) ne) ∙ set-set (set slots before (Some led)) node (Some laden) (Some within) in
    let fourth : get_or (set between node (Some within)) x.next None ≡ Some z = ap (λ s. get_or s x.next None) same ∙ hz in
    record {
      carrying = carrying;
      between = between;
      carries = (y, here, refl);
      behind = joined carrying before node x laden first second;
      ahead =
          subst (λ a. Joined between (set (set (set slots before (Some led)) node (Some within)) x.next (Some closed)) node a) (sym (ap next_of hx))
          (subst (λ s. Joined between (set s x.next (Some closed)) node x.next) same (joined between node x.next behind z third fourth));
    }

carried-next : (slots new : Slots) (node : ℕ) (entry : Entry) → Carries slots new node entry → (k : ℕ) → next_in new k ≡ next_in slots k
carried-next slots new node entry c k =
    subst (λ s. next_in s k ≡ next_in slots k) (sym c.2)
    (same_at next_of slots _ None k (map-set_same next_of slots node (Some record { prev = c.0.prev; next = c.0.next; entry = entry; is_end = c.0.is_end }) None (rw c.1 refl)))

-- A node that was in no list was appended to one.
pub after-put : (slots new : Slots) (heads : List ℕ) (v : Lists) (room room2 l node head : ℕ) (entry : Entry) → seen slots heads room ≡ v → room2 ≡ room →
    Stand slots heads (map (ring_of slots) heads) → l < length v.lists → IsLoose v node → head ≡ head_at heads l → Put slots new head node entry →
    Stand new heads (map (ring_of new) heads) × (seen new heads room2 ≡ with_entry (with_list v l (node ∷ list_at v l)) node entry)
after-put slots new heads v room room2 l node head entry e r s low loose at_head p =
    let carried = after-entry slots heads v room room node p.carries.0 entry e refl s p.carries.1 in
    let stands : Stand p.carrying heads (map (ring_of p.carrying) heads) = subst (λ z. Stand z heads (map (ring_of z) heads)) (sym p.carries.2) carried.0 in
    let shows : seen p.carrying heads room ≡ with_entry v node entry = subst (λ z. seen z heads room ≡ with_entry v node entry) (sym p.carries.2) carried.1 in
    let after = after-push_front p.carrying heads (with_entry v node entry) room room2 l node shows r stands low p.between new (record { known = loose.known; in_none = loose.in_none })
    (subst (λ z. Joined p.carrying p.between z node) at_head p.behind)
    (subst (λ z. Joined p.between new node z) (ap (next_in slots) at_head ∙ sym (carried-next slots p.carrying node entry p.carries (head_at heads l))) p.ahead) in
    (after.0, after.1)
