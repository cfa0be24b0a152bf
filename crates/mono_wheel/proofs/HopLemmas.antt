-- The clock moves into a slot of the top level, whose keys go out before and in again after.
use Rattle.std.proofs.Common.{arith, ◌≡◌, ◌≢◌, zero, suc, ℕ, ◌+◌, ◌-◌, ◌*◌, ◌^◌, ◌<◌, ◌≤◌, inl, inr, List, map, Option, Some, None, get_or, ap, refl, sym, ◌∙◌, subst}
use Rattle.std.proofs.lemmas.Bool.{cases_lt}
use Rattle.std.proofs.lemmas.Bool.Decides.{eqb_tells}
use Rattle.std.proofs.Math.Nat.{div-mul-le_self}
use Rattle.mono_wheel.specs.Start.{above, start, top_level}
use Rattle.mono_wheel.specs.Lists.{Lists, entry_at}
use Rattle.mono_wheel.specs.Model.{Timed, Wheel, Fits, Precedes, Changed, timed_at, tick_of, timed_after}
use Rattle.mono_wheel.specs.Credit.{takes, credit, credit_of, CreditFollows}
use Rattle.mono_wheel.specs.Skips.{at_tick}
use Rattle.mono_wheel.specs.Holdings.{timed_of, timed_in, Held}
use Rattle.mono_wheel.specs.Leap.{IsFar, IsDueFrom, IsKnown, Known}
use Rattle.mono_wheel.specs.Hops.{IsNear, AreApart, HasNoTies, Hopped}
use Rattle.mono_wheel.specs.declared.entry.Entry.{Entry}
use Rattle.mono_wheel.proofs.StartLemmas.{above-mono, start-above, next_turn-le}
use Rattle.mono_wheel.proofs.KeyLemmas.{timed-read}
use Rattle.mono_wheel.proofs.AdvanceLemmas.{moved-stays, moved-anew}
use Rattle.mono_wheel.proofs.SkipLemmas.{takes-next, takes-before}
use Rattle.mono_wheel.proofs.LeapLemmas.{ahead-of, far-start, credit-falls, leap-held, leap-advanced}
use Rattle.mono_wheel.specs.Counts.{Moves}

-- ---- how often a key is taken
-- no more often from a later tick on
takes-fall : (fuel from to tick : ℕ) → to - from ≤ fuel → from ≤ to → to ≤ tick → takes to (at_tick tick) ≤ takes from (at_tick tick)
takes-fall zero from to tick f l h = let e : to ≡ from = omega (arith, f, l) in subst (λ z. takes to (at_tick tick) ≤ takes z (at_tick tick)) e (omega arith)
takes-fall (suc fuel) from to tick f l h = elim (cases_lt from to) [
  | inr same ↦ let e : to ≡ from = omega (arith, l, same) in subst (λ z. takes to (at_tick tick) ≤ takes z (at_tick tick)) e (omega arith)
  | inl less ↦ elim (cases_lt to (start top_level from tick)) [
    | inl b ↦ let e = takes-before from to tick l h b (omega (arith, less, h)) in omega (arith, e)
    | inr b ↦
        let up = start-above top_level from tick in
        let e = takes-next from to tick less h b in
        let rest = takes-fall fuel (start top_level from tick) to tick (omega (arith, f, up, b)) b h in
        omega (arith, e, rest)
  ]
]

-- once less often after the start of its slot
pub takes-hop : (from to tick : ℕ) → above top_level from < above top_level to → to ≤ tick → (above top_level to < above top_level tick → ⊥) → takes to (at_tick tick) + 1 ≤ takes from (at_tick tick)
takes-hop from to tick up le near =
    let low : above top_level to ≤ above top_level tick = above-mono top_level to tick le in
    let far : above top_level from < above top_level tick = omega (arith, up, low) in
    let same : above top_level tick ≤ above top_level to = elim (cases_lt (above top_level to) (above top_level tick)) [ inl b ↦ absurd (near b) | inr b ↦ b ] in
    let less : from < to = ahead-of from to up in
    let s = far-start from tick far in
    let turn = next_turn-le (above top_level from) (above top_level tick) far in
    let down : above top_level to * 64 ^ top_level ≤ to = div-mul-le_self to (64 ^ top_level) in
    let begins : start top_level from tick ≤ to = omega (arith, s, turn, same, down) in
    let e = takes-next from to tick less le begins in
    let rest = takes-fall (to - start top_level from tick) (start top_level from tick) to tick (omega arith) begins le in
    omega (arith, e, rest)

-- ---- which keys are near
pub near-none : (goal key : ℕ) (near : List ℕ) (o : Option Timed) → IsNear goal near 0 key o → IsFar goal o
near-none goal key near None n = tt
near-none goal key near (Some timed) (same, inl far) = (same, far)
near-none goal key near (Some timed) (same, inr there) = absurd (let low = there.1.1 in omega (arith, low))

-- one place less, whose key is out or due in a later slot
pub near-less : (goal key place count : ℕ) (near : List ℕ) (o : Option Timed) → count ≡ place + 1 → (key ≡ get_or near place 0 → (timed : Timed) → o ≡ Some timed → above top_level goal < above top_level timed.tick) →
    IsNear goal near count key o → IsNear goal near place key o
near-less goal key place count near None one out n = tt
near-less goal key place count near (Some timed) one out (same, inl far) = (same, inl far)
near-less goal key place count near (Some timed) one out (same, inr (ahead, (at, low, is))) = elim (eqb_tells at place) [
  | inl e ↦ (same, inl (out (sym is ∙ ap (λ p. get_or near p 0) e.1) timed refl))
  | inr e ↦ (same, inr (ahead, (at, (let n = e.1 in omega (arith, low, one, n)), is)))
]

pub near-of : (goal count key : ℕ) (near : List ℕ) (o : Option Timed) (timed : Timed) → o ≡ Some timed → IsNear goal near count key o → (above top_level goal < above top_level timed.tick → ⊥) →
    (timed ≡ record { tick = timed.tick; registered = timed.tick }) × (goal ≤ timed.tick) × ((place : ℕ) × (place < count) × (get_or near place 0 ≡ key))
near-of goal count key near o timed is n not = at (subst (IsNear goal near count key) is n)
  where
    at : IsNear goal near count key (Some timed) → (timed ≡ record { tick = timed.tick; registered = timed.tick }) × (goal ≤ timed.tick) × ((place : ℕ) × (place < count) × (get_or near place 0 ≡ key))
    at (same, inl far) = absurd (not far)
    at (same, inr there) = (ap (λ r. let t : Timed = record { tick = timed.tick; registered = r } in t) same, there.0, there.1)

pub apart-less : (wheel wheel2 : Wheel) (goal place count : ℕ) (near : List ℕ) → count ≡ place + 1 → ((key : ℕ) (timed : Timed) → timed_at wheel2 key ≡ Some timed → timed_at wheel key ≡ Some timed) →
    AreApart wheel goal near count → AreApart wheel2 goal near place
apart-less wheel wheel2 goal place count near one still apart a b first second la lb fa fb slot tick =
    apart a b first second (omega (arith, la, one)) (omega (arith, lb, one)) (still (get_or near a 0) first fa) (still (get_or near b 0) second fb) slot tick

-- ---- one key goes out, the clock moves, the key goes in again
same-after : (from to tick : ℕ) → at_tick tick ≡ timed_after from to (at_tick tick)
same-after from to tick = ap Some (elim (cases_lt to (start top_level from tick)) [
  | inl b ↦ sym (moved-stays from to record { tick = tick; registered = tick } b)
  | inr b ↦ sym (moved-anew from to record { tick = tick; registered = tick } b)
])

module _ (old out hopped new : Wheel) (goal key tick count place : ℕ) (near : List ℕ)
    (was : timed_at old key ≡ at_tick tick) (up : above top_level old.elapsed < above top_level goal) (ahead : goal ≤ tick) (here : above top_level goal < above top_level tick → ⊥)
    (one : count ≡ place + 1) (is : key ≡ get_or near place 0)
    (all : (k : ℕ) → IsNear goal near count k (timed_at old k)) (apart : AreApart old goal near count) (once : Precedes old key key → ⊥)
    (left : Changed old out key None) (follows : CreditFollows old out key) (took : out.moves.slots ≤ old.moves.slots + 1) (took_all : out.moves.all ≡ old.moves.all + 1)
    (hop : Hopped out hopped goal)
    (back : Changed hopped new key (at_tick tick)) (follows2 : CreditFollows hopped new key) (put : new.moves.slots ≤ hopped.moves.slots + 1) (put_all : new.moves.all ≡ hopped.moves.all + 1) where
  slot : above top_level tick ≡ above top_level goal
  slot = let low = above-mono top_level goal tick ahead in elim (cases_lt (above top_level goal) (above top_level tick)) [ inl b ↦ absurd (here b) | inr b ↦ omega (arith, b, low) ]

  less : old.elapsed < goal
  less = ahead-of old.elapsed goal up

  -- another key of that tick would be one of the near
  alone : (other : ℕ) → other ≢ key → timed_at old other ≡ at_tick tick → ⊥
  alone other ne there =
      let n = near-of goal count other near (timed_at old other) record { tick = tick; registered = tick } there (all other) here in
      let at = n.2 in
      ne (sym at.2 ∙ apart at.0 place record { tick = tick; registered = tick } record { tick = tick; registered = tick } at.1 (omega (arith, one)) (ap (timed_at old) at.2 ∙ there) (ap (timed_at old) (sym is) ∙ was) slot refl ∙ sym is)

  at : new.elapsed ≡ goal
  at = back.elapsed ∙ hop.at

  fit : (k : ℕ) → Fits old.elapsed (timed_at old k)
  fit k = elim (eqb_tells k key) [
    | inl e ↦ subst (Fits old.elapsed) (sym (ap (timed_at old) e.1 ∙ was)) (let l = less in inr (omega (arith, l, ahead), omega arith))
    | inr e ↦ subst (λ z. Fits z (timed_at old k)) left.elapsed (subst (Fits out.elapsed) (left.others k e.1) (hop.advanced.fits k))
  ]

  ticks : (k : ℕ) → timed_at new k ≡ timed_after old.elapsed new.elapsed (timed_at old k)
  ticks k = elim (eqb_tells k key) [
    | inl e ↦ ap (timed_at new) e.1 ∙ back.here ∙ same-after old.elapsed new.elapsed tick ∙ ap (timed_after old.elapsed new.elapsed) (sym (ap (timed_at old) e.1 ∙ was))
    | inr e ↦ back.others k e.1 ∙ hop.advanced.ticks k ∙ ap (λ z. timed_after z hopped.elapsed (timed_at out k)) left.elapsed ∙ ap (λ z. timed_after old.elapsed z (timed_at out k)) (sym back.elapsed)
        ∙ ap (timed_after old.elapsed new.elapsed) (left.others k e.1)
  ]

  order : (a b : ℕ) → Precedes old a b → Precedes new a b
  order a b p = elim (eqb_tells a key) [
    | inl e ↦ elim (eqb_tells b key) [
      | inl f ↦ absurd (once (subst (λ z. Precedes old z key) e.1 (subst (λ z. Precedes old a z) f.1 p)))
      | inr f ↦ absurd (alone b f.1 (sym p.same ∙ ap (timed_at old) e.1 ∙ was))
    ]
    | inr e ↦ elim (eqb_tells b key) [
      | inl f ↦ absurd (alone a e.1 (p.same ∙ ap (timed_at old) f.1 ∙ was))
      | inr f ↦ back.order a b (hop.advanced.order a b (left.order a b p (left.others a e.1) (left.others b f.1))) (back.others a e.1) (back.others b f.1)
    ]
  ]

  pub hopped-one : Hopped old new goal
  hopped-one =
      let zero_out : takes old.elapsed (timed_at out key) ≡ 0 = ap (takes old.elapsed) left.here in
      let before : takes old.elapsed (timed_at old key) ≡ takes old.elapsed (at_tick tick) = ap (takes old.elapsed) was in
      let none : timed_at hopped key ≡ None = hop.advanced.ticks key ∙ ap (timed_after out.elapsed hopped.elapsed) left.here in
      let zero_in : takes hopped.elapsed (timed_at hopped key) ≡ 0 = ap (takes hopped.elapsed) none in
      let after : takes hopped.elapsed (timed_at new key) ≡ takes goal (at_tick tick) = ap (takes hopped.elapsed) back.here ∙ ap (λ z. takes z (at_tick tick)) hop.at in
      let falls = takes-hop old.elapsed goal tick up ahead here in
      let less_there = hop.less in
      let moved_there = hop.moved in
      let all_there = hop.all_moved in
      record {
        advanced = record { fits = fit; later = (let l = less in let e = at in omega (arith, l, e)); ticks = ticks; order = order; reserved = back.reserved ∙ hop.advanced.reserved ∙ left.reserved };
        at = at;
        less = omega (arith, follows, follows2, zero_out, before, zero_in, after, falls, less_there);
        moved = omega (arith, follows, follows2, took, put, zero_out, before, zero_in, after, falls, moved_there);
        all_moved = omega (arith, follows, follows2, took_all, put_all, zero_out, before, zero_in, after, falls, all_there);
      }

-- ---- what a hop asks of the next
-- a key that is in, with its tick
pub hop-at : (goal count key tick : ℕ) (near : List ℕ) (o : Option Timed) → tick ≢ 0 → tick ≡ tick_of o → IsNear goal near count key o → (above top_level goal < above top_level tick → ⊥) →
    (o ≡ at_tick tick) × (goal ≤ tick)
hop-at goal count key tick near None some is n not = absurd (some is)
hop-at goal count key tick near (Some timed) some is n not =
    let at = near-of goal count key near (Some timed) timed refl n (subst (λ t. above top_level goal < above top_level t → ⊥) is not) in
    (ap Some at.0 ∙ ap at_tick (sym is), subst (λ t. goal ≤ t) (sym is) at.1)

-- the key at the next place is out
pub near-zero : (goal count place key tick : ℕ) (near : List ℕ) (o : ℕ → Option Timed) → 0 < goal → count ≡ place + 1 → key ≡ get_or near place 0 → tick ≡ tick_of (o key) → tick ≡ 0 →
    ((k : ℕ) → IsNear goal near count k (o k)) → (k : ℕ) → IsNear goal near place k (o k)
near-zero goal count place key tick near o some one is read zero_tick all k = less (o k) refl (all k)
  where
    less : (p : Option Timed) → o k ≡ p → IsNear goal near count k p → IsNear goal near place k p
    less None e n = tt
    less (Some timed) e (same, inl far) = (same, inl far)
    less (Some timed) e (same, inr (ahead, (at, low, there))) = elim (eqb_tells at place) [
      | inl f ↦ absurd (let key_is : k ≡ key = sym there ∙ ap (λ p. get_or near p 0) f.1 ∙ sym is in let t : timed.tick ≡ tick = sym (ap tick_of e) ∙ ap (λ z. tick_of (o z)) key_is ∙ sym read in omega (arith, t, zero_tick, ahead, some))
      | inr f ↦ (same, inr (ahead, (at, (let n = f.1 in omega (arith, low, one, n)), there)))
    ]

-- the key at the next place is due in a later slot
pub near-skip : (goal count place key tick : ℕ) (near : List ℕ) (o : ℕ → Option Timed) → count ≡ place + 1 → key ≡ get_or near place 0 → tick ≡ tick_of (o key) → above top_level goal < above top_level tick →
    ((k : ℕ) → IsNear goal near count k (o k)) → (k : ℕ) → IsNear goal near place k (o k)
near-skip goal count place key tick near o one is read far all k = near-less goal k place count near (o k) one
    (λ e timed there. let t : tick ≡ timed.tick = read ∙ ap tick_of (ap o (is ∙ sym e) ∙ there) in subst (λ z. above top_level goal < above top_level z) t far) (all k)

-- the key at the next place went out
pub near-out : (old out : Wheel) (goal count place key : ℕ) (near : List ℕ) → count ≡ place + 1 → key ≡ get_or near place 0 → Changed old out key None →
    ((k : ℕ) → IsNear goal near count k (timed_at old k)) → (k : ℕ) → IsNear goal near place k (timed_at out k)
near-out old out goal count place key near one is left all k = elim (eqb_tells k key) [
  | inl e ↦ subst (IsNear goal near place k) (sym (ap (timed_at out) e.1 ∙ left.here)) tt
  | inr e ↦ subst (IsNear goal near place k) (sym (left.others k e.1)) (near-less goal k place count near (timed_at old k) one (λ f timed there. absurd (e.1 (f ∙ sym is))) (all k))
]

pub apart-out : (old out : Wheel) (goal count place key : ℕ) (near : List ℕ) → count ≡ place + 1 → Changed old out key None → AreApart old goal near count → AreApart out goal near place
apart-out old out goal count place key near one left apart = apart-less old out goal place count near one (λ k timed there. elim (eqb_tells k key) [
  | inl e ↦ absurd (let f : None ≡ Some timed = sym left.here ∙ sym (ap (timed_at out) e.1) ∙ there in cc)
  | inr e ↦ sym (left.others k e.1) ∙ there
]) apart

-- no key is near: all are due in later slots
pub hopped-far : {moves : Moves} (elapsed goal count : ℕ) (near : List ℕ) (entries : List Entry) (links : Lists) (v : Wheel) → Held elapsed entries links →
    (let w : Wheel = record { elapsed = elapsed; entries = map timed_of entries; reserved = links.nodes; lines = links.lists; moves = moves } in w ≡ v) →
    above top_level v.elapsed < above top_level goal → count ≡ 0 → ((k : ℕ) → IsNear goal near count k (timed_at v k)) →
    Held goal entries links × Hopped v (record { elapsed = goal; entries = map timed_of entries; reserved = links.nodes; lines = links.lists; moves = moves }) goal
hopped-far {moves} elapsed goal count near entries links v h seen up none all =
    let far : (k : ℕ) → IsFar goal (timed_in entries k) = λ k. near-none goal k near (timed_in entries k) (subst (λ n. IsNear goal near n k (timed_in entries k)) none (subst (λ w. IsNear goal near count k (timed_at w k)) (sym seen) (all k))) in
    let up2 : above top_level elapsed < above top_level goal = subst (λ w. above top_level w.elapsed < above top_level goal) (sym seen) up in
    let less = ahead-of elapsed goal up2 in
    let later : elapsed ≤ goal = omega (arith, less) in
    let falls = credit-falls elapsed goal entries later far in
    let was : credit_of elapsed (map timed_of entries) ≡ credit v = ap credit seen in
    let moved : moves.slots ≡ v.moves.slots = ap (λ w. w.moves.slots) seen in
    let all_moved : moves.all ≡ v.moves.all = ap (λ w. w.moves.all) seen in (
      leap-held elapsed goal entries links h later far,
      record {
        advanced = leap-advanced elapsed goal entries links h later far v seen;
        at = refl;
        less = omega (arith, falls, was);
        moved = omega (arith, falls, was, moved);
        all_moved = omega (arith, falls, was, all_moved);
      },
    )

-- ---- the first hop
entry-tick : (x : Entry) → tick_of (timed_of x) ≡ x.tick
entry-tick x = elim (eqb_tells x.tick 0) [ inl t ↦ rw t.0 (sym t.1) | inr f ↦ rw f.0 refl ]

tick-at : (links : Lists) (key : ℕ) (timed : Timed) → timed_in links.entries key ≡ Some timed → (entry_at links key).tick ≡ timed.tick
tick-at links key timed is = sym (entry-tick (entry_at links key)) ∙ ap tick_of (sym (timed-read links.entries key) ∙ is)

tick-some : (x : Entry) (timed : Timed) → timed_of x ≡ Some timed → x.tick ≢ 0
tick-some x timed is zero_tick = elim (eqb_tells x.tick 0) [
  | inl t ↦ absurd (let n : timed_of x ≡ None = rw t.0 refl in let f : Some timed ≡ None = sym is ∙ n in cc)
  | inr f ↦ absurd (f.1 zero_tick)
]

pub ties-apart : {moves : Moves} (elapsed goal count : ℕ) (near : List ℕ) (links : Lists) (v : Wheel) → (let w : Wheel = record { elapsed = elapsed; entries = map timed_of links.entries; reserved = links.nodes; lines = links.lists; moves = moves } in w ≡ v) →
    HasNoTies goal near links count → AreApart v goal near count
ties-apart {moves} elapsed goal count near links v seen untied = subst (λ w. AreApart w goal near count) seen (λ a b first second la lb fa fb slot tick.
    let ta = tick-at links (get_or near a 0) first fa in
    let tb = tick-at links (get_or near b 0) second fb in
    let sa = tick-some (entry_at links (get_or near a 0)) first (sym (timed-read links.entries (get_or near a 0)) ∙ fa) in
    let sb = tick-some (entry_at links (get_or near b 0)) second (sym (timed-read links.entries (get_or near b 0)) ∙ fb) in
    elim (eqb_tells (get_or near a 0) (get_or near b 0)) [
      | inl e ↦ e.1
      | inr ne ↦ elim (cases_lt b a) [
        | inl less ↦ absurd (untied a la sa (ap (above top_level) ta ∙ slot) b less (λ e. ne.1 (sym e)) (tb ∙ sym tick ∙ sym ta))
        | inr more ↦ elim (eqb_tells a b) [
          | inl same ↦ ap (λ p. get_or near p 0) same.1
          | inr other ↦ absurd (untied b lb sb (ap (above top_level) tb ∙ ap (above top_level) (sym tick) ∙ slot) a (let n = other.1 in omega (arith, more, n)) ne.1 (ta ∙ tick ∙ sym tb))
        ]
      ]
    ])

pub near-first : (least limit goal key : ℕ) (near : List ℕ) (o : Option Timed) → goal ≤ least → above top_level goal < above top_level limit → IsDueFrom least o → IsKnown limit near key o → IsNear goal near 512 key o
near-first least limit goal key near None g l d k = tt
near-first least limit goal key near (Some timed) g l (same, from) (s, inl far) = (same, inl (let m = above-mono top_level limit timed.tick far in omega (arith, l, m)))
near-first least limit goal key near (Some timed) g l (same, from) (s, inr there) = (same, inr (omega (arith, g, from), there))

pub enter-near : {moves : Moves} (elapsed least limit goal : ℕ) (near : List ℕ) (entries : List Entry) (links : Lists) (v : Wheel) →
    (let w : Wheel = record { elapsed = elapsed; entries = map timed_of entries; reserved = links.nodes; lines = links.lists; moves = moves } in w ≡ v) →
    goal ≤ least → above top_level least < above top_level limit → ((k : ℕ) → IsDueFrom least (timed_at v k)) → Known limit near entries → (k : ℕ) → IsNear goal near 512 k (timed_at v k)
enter-near {moves} elapsed least limit goal near entries links v seen first high due known k =
    let low = above-mono top_level goal least first in
    let some : 0 < limit = elim (cases_lt 0 limit) [ inl b ↦ b | inr z ↦ absurd (let e : limit ≡ 0 = omega (arith, z) in let a : above top_level limit ≡ 0 = ap (above top_level) e in omega (arith, a, high)) ] in
    subst (λ w. IsNear goal near 512 k (timed_at w k)) seen
    (near-first least limit goal k near (timed_in entries k) first (omega (arith, low, high)) (subst (λ w. IsDueFrom least (timed_at w k)) (sym seen) (due k)) (known some k))
