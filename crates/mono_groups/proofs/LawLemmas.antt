-- The laws of tokens.
use Rattle.std.specs.Prelude.{⊤}
use Rattle.std.proofs.Common.{◌≡◌, ◌==◌, ◌&&◌, ◌||◌, ◌<◌, ◌≤◌, ℕ, zero, suc, Bool, true, false, not, cond, MatchBool, List, [], ◌∷◌, ◌++◌, Option, Some, None, refl, sym, ap, ◌∙◌, inl, inr, arith, eq-eqb}
use Rattle.std.specs.List.{list_any}
use Rattle.mono_model.specs.Table.{Table, value_at, with_value}
use Rattle.mono_sync.specs.Many.{LeadsPart, lists_in, lists_each, tasks_in, tasks_each}
use Rattle.mono_sync.specs.ManyLeads.{each_some, each_owes}
use Rattle.mono_groups.specs.declared.waiters.Asked.{Asked}
use Rattle.mono_groups.specs.declared.waiters.Asked.TheVariants as asked
use Rattle.mono_groups.specs.declared.waiters.Waiter.{Waiter}
use Rattle.mono_groups.specs.declared.nodes.Token.{Token}
use Rattle.mono_groups.specs.Listed.{node_some}
use Rattle.mono_groups.specs.Waiters.{waits_at, lists_at, without, Leaves, Stands}
use Rattle.mono_groups.specs.Nodes.{listed_by, owed_by, waiting_in}
use Rattle.mono_groups.specs.Tokens.{cancelled_in, is_cancelled, parent_of, Climbs, IsBelow, IsGrown, Grows, CancelsIf}
use Rattle.mono_groups.specs.TokenLaws.{StaysCancelled, BelowIsCancelled, OthersStay, ParentIsAbove, NoTokenLiesIdle, CancelOwesAll, PendingIsListed, GivenUpIsGone}
use Rattle.mono_groups.proofs.WaiterLemmas.{false-true}
use Rattle.mono_groups.proofs.TableLemmas.{value_set}
use Rattle.mono_groups.proofs.NodeLemmas.{cancelled_all}
use Rattle.mono_groups.proofs.TokenLemmas.{true-false}
use Rattle.mono_groups.proofs.CancelLemmas.{climbs_up}

none-some : {X : Type 0} (x : X) → None ≡ Some x → ⊥
none-some x e = cc

cons-nil : (t : ℕ) (ts : List ℕ) → t ∷ ts ≡ [] → ⊥
cons-nil t ts e = cc

part_stays : (o n : Option Token) → LeadsPart Grows waiting_in owed_by o n → cancelled_in o ≡ true → cancelled_in n ≡ true
part_stays None None p is = refl
part_stays None (Some y) p is = absurd p
part_stays (Some x) None p is = refl
part_stays (Some x) (Some y) p is = p.1 is

pub stays : StaysCancelled
stays [] b k less is led = absurd (omega (arith, less))
stays (x ∷ xs) [] k less is led = absurd led
stays (x ∷ xs) (y ∷ ys) zero less is led = part_stays x y led.0 is
stays (x ∷ xs) (y ∷ ys) (suc k) less is led = stays xs ys k (omega (arith, less)) is led.1

-- a token of a cancelled parent
by_parent : (a : Table Token) (k p : ℕ) → IsGrown a → parent_of a k ≡ Some p → is_cancelled a p ≡ true → (v : Bool) → is_cancelled a k ≡ v → is_cancelled a k ≡ true
by_parent a k p grown at is true now = now
by_parent a k p grown at is false now = absurd (true-false (sym is ∙ (grown k p now at).1))

climbs_cancelled : (a : Table Token) (top : ℕ) → IsGrown a → is_cancelled a top ≡ true → (ps : List ℕ) (k : ℕ) → Climbs a top ps k → is_cancelled a k ≡ true
climbs_cancelled a top grown is [] k here = ap (is_cancelled a) here ∙ is
climbs_cancelled a top grown is (p ∷ ps) k (at, rest) = by_parent a k p grown at (climbs_cancelled a top grown is ps p rest) (is_cancelled a k) refl

pub below : BelowIsCancelled
below a top k grown is (ps, climbs) = climbs_cancelled a top grown is ps k climbs

same_bool : (u v : Bool) → (u ≡ true → v ≡ true) → (v ≡ true → u ≡ true) → v ≡ u
same_bool true v f g = f refl
same_bool false true f g = sym (g refl)
same_bool false false f g = refl

other_part : (P : Type 0) (o n : Option Token) → CancelsIf P o n → (P → ⊥) → cancelled_in n ≡ cancelled_in o
other_part P None n c never = ap cancelled_in c
other_part P (Some x) None c never = absurd c
other_part P (Some x) (Some y) c never = same_bool x.is_cancelled y.is_cancelled (λ is. c.2 (inl is)) (λ is. elim (c.3 is) [ inl was ↦ was | inr under ↦ absurd (never under) ])

pub others : OthersStay
others a b key k call never = other_part (IsBelow a key k) (value_at a k) (value_at b k) (call.each k) never

pub parent : ParentIsAbove
parent a key p grown live at (ps, climbs) =
    let g = grown key p live at in
    let less : p < key = g.0 in
    let above : key ≤ p = climbs_up a grown key ps p g.1 climbs in
    omega (arith, less, above)

-- who waits for a token
idle_part : (p : List ℕ) (t : ℕ) (o : Option Token) → tasks_in owed_by o ≡ [] → lists_in listed_by o p t ≡ true → (v : Bool) → cancelled_in o ≡ v → cancelled_in o ≡ false
idle_part p t None none is v now = absurd (false-true is)
idle_part p t (Some x) none is true now = absurd (false-true (sym (ap (list_any (λ u. u == t)) (sym (cancelled_all x now) ∙ none)) ∙ node_some x p t is))
idle_part p t (Some x) none is false now = now

owes_at : (a : Table Token) (k : ℕ) (o : Option Token) → value_at a k ≡ o → tasks_each owed_by a ≡ [] → tasks_in owed_by o ≡ []
owes_at a k None at none = refl
owes_at a k (Some x) at none = each_owes owed_by a k x at none

pub idle : NoTokenLiesIdle
idle a k p t none is = idle_part p t (value_at a k) (owes_at a k (value_at a k) refl none) is (is_cancelled a k) refl

-- a list of owed tasks that lists by the key of a cancelled token
abbrev owed_lists : Token → List ℕ → ℕ → Bool
owed_lists x p t = x.is_cancelled && listed_by x p t

owed_some : (x : Token) (p : List ℕ) (t : ℕ) → owed_lists x p t ≡ true → list_any (λ u. u == t) (owed_by x) ≡ true
owed_some x p t is = by_cancelled x.is_cancelled refl is
  where
    by_cancelled : (v : Bool) → x.is_cancelled ≡ v → (v && listed_by x p t) ≡ true → list_any (λ u. u == t) (owed_by x) ≡ true
    by_cancelled true now both = ap (list_any (λ u. u == t)) (cancelled_all x now) ∙ node_some x p t both
    by_cancelled false now both = absurd (false-true both)

owed_part : (P : Type 0) (q : List ℕ) (t : ℕ) (o n : Option Token) → CancelsIf P o n → P → lists_in listed_by o q t ≡ true → lists_in owed_lists n q t ≡ true
owed_part P q t None n c p is = absurd (false-true is)
owed_part P q t (Some x) None c p is = absurd c
owed_part P q t (Some x) (Some y) c p is = ap (λ v. v && listed_by y q t) (c.2 (inr p)) ∙ ap (λ w. lists_at w.entries.items q t) c.1 ∙ is

pub owes_all : CancelOwesAll
owes_all a b key k p t under is call = each_some owed_lists owed_by owed_some b (k ∷ p) t (owed_part (IsBelow a key k) p t (value_at a k) (value_at b k) (call.each k) under is)

-- a future that waits has its place
or_left : (b x : Bool) → b ≡ true → (b || x) ≡ true
or_left b x is = ap (λ y. y || x) is

or_right : (b x : Bool) → x ≡ true → (b || x) ≡ true
or_right true x is = refl
or_right false x is = is

both : (a b : Bool) → a ≡ true → b ≡ true → (a && b) ≡ true
both a b p q = ap (λ c. c && b) p ∙ q

pub last_waits : (ws : List Waiter) (w : Waiter) → waits_at (ws ++ w ∷ []) w.ticket w.task ≡ true
last_waits [] w = or_left ((w.ticket == w.ticket) && (w.task == w.task)) false (both (w.ticket == w.ticket) (w.task == w.task) (eq-eqb w.ticket w.ticket refl) (eq-eqb w.task w.task refl))
last_waits (v ∷ ws) w = or_right ((v.ticket == w.ticket) && (v.task == w.task)) _ (last_waits ws w)

pub waits_if : (x y : Token) (k me : ℕ) (v : Bool) → MatchBool v ((◌≡◌ {A = Asked ⊤} asked.Waits (asked.Got tt)) × Leaves x.waiters (Some k) me y.waiters) (Stands {G = ⊤} x.waiters (Some k) me asked.Waits y.waiters) → listed_by y (k ∷ []) me ≡ true
waits_if x y k me true s = absurd (waits-got s.0)
  where
    waits-got : ◌≡◌ {A = Asked ⊤} asked.Waits (asked.Got tt) → ⊥
    waits-got e = cc
waits_if x y k me false s = ap (λ w. waits_at w.entries.items k me) s.1 ∙ s.0

pub joined_if : (x y : Token) (ticket : Option ℕ) (k me : ℕ) (v : Bool) → MatchBool v ((◌≡◌ {A = Asked ⊤} (asked.Joined k) (asked.Got tt)) × Leaves x.waiters ticket me y.waiters) (Stands {G = ⊤} x.waiters ticket me (asked.Joined k) y.waiters) → listed_by y (k ∷ []) me ≡ true
joined_if x y ticket k me true s = absurd (joined-got s.0)
  where
    joined-got : ◌≡◌ {A = Asked ⊤} (asked.Joined k) (asked.Got tt) → ⊥
    joined-got e = cc
joined_if x y ticket k me false s = ap (λ ws. waits_at ws k me) s.2 ∙ ap (λ n. waits_at (x.waiters.entries.items ++ record { ticket = x.waiters.next; task = me } ∷ []) n me) s.1 ∙ last_waits x.waiters.entries.items (record { ticket = x.waiters.next; task = me })

at_key : (a b : Table Token) (key : ℕ) (x y : Token) (p : List ℕ) (t : ℕ) → value_at a key ≡ Some x → b ≡ with_value a key y → listed_by y p t ≡ true → lists_each listed_by b (key ∷ p) t ≡ true
at_key a b key x y p t at is listed = ap (λ o. lists_in listed_by o p t) (ap (λ s. value_at s key) is ∙ value_set a key x (Some y) at) ∙ listed

waits-missing : ◌≡◌ {A = Asked ⊤} asked.Waits (asked.Got tt) → ⊥
waits-missing e = cc

joined-missing : (k : ℕ) → ◌≡◌ {A = Asked ⊤} (asked.Joined k) (asked.Got tt) → ⊥
joined-missing k e = cc

pub pending : PendingIsListed
pending a b key ticket me k = (
  λ call. elim call [
    | inl (x, y, at, does, is) ↦ at_key a b key x y (k ∷ []) me at is (waits_if x y k me x.is_cancelled does.1)
    | inr (at, missing, is) ↦ absurd (waits-missing missing)
  ],
  λ call. elim call [
    | inl (x, y, at, does, is) ↦ at_key a b key x y (k ∷ []) me at is (joined_if x y ticket k me x.is_cancelled does.1)
    | inr (at, missing, is) ↦ absurd (joined-missing k missing)
  ],
)

-- a future that left has no place
gone_if : (k me : ℕ) (v : Bool) (w : Waiter) (ws : List Waiter) → ((w.ticket == k) && (w.task == me)) ≡ v → waits_at (without ws k me) k me ≡ false → waits_at (cond (not v) (w ∷ without ws k me) (without ws k me)) k me ≡ false
gone_if k me true w ws is rest = rest
gone_if k me false w ws is rest = ap (λ b. b || waits_at (without ws k me) k me) is ∙ rest

pub gone : (ws : List Waiter) (k me : ℕ) → waits_at (without ws k me) k me ≡ false
gone [] k me = refl
gone (w ∷ ws) k me = gone_if k me ((w.ticket == k) && (w.task == me)) w ws refl (gone ws k me)

pub given_up : GivenUpIsGone
given_up a b key k me call = elim call [
  | inl (x, y, at, does, is) ↦ ap (λ o. lists_in listed_by o (k ∷ []) me) (ap (λ s. value_at s key) is ∙ value_set a key x (Some y) at) ∙ ap (λ ws. waits_at ws k me) does.1.0 ∙ gone x.waiters.entries.items k me
  | inr (at, missing, is) ↦ ap (λ o. lists_in listed_by o (k ∷ []) me) (ap (λ s. value_at s key) is ∙ at)
]
