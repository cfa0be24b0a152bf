-- Entries, by key and by session, as they come and leave.
use Rattle.std.proofs.Common.{◌≡◌, ℕ, ◌+◌, true, false, Bool, cond, List, [], ◌∷◌, ◌++◌, length, Some, None, Option, refl, ap, sym, ◌∙◌, arith}
use Rattle.std.specs.Prelude.{◌==◌, ◌&&◌, ◌||◌, not, nat_eq, filter, is_some, if◌then◌else◌, Result, Ok, Err, IsOk, IfOk}
use Rattle.std.specs.HashMap.{get}
use Rattle.std.proofs.lemmas.Bool.Decides.{nat_tests}
use Rattle.std.proofs.lemmas.List.{length-append}
use Rattle.mono_session.specs.Keeper.{Entry, queue_in, first_of, stands_in, is_entry}
use Rattle.mono_session.specs.Links.{pair_eq, is_in, IsOnce, left_by, linked_after, with_last_end, last_end}
use Rattle.mono_session.specs.Nodes.{queue_place, key_place, place_by}
use Rattle.mono_session.specs.Queues.{Keeps, with_last, without_member, Closed, Alike}
use Rattle.mono_session.specs.Entries.{keys_in, Entered, queue_chains, key_chains, entry_count}
use Rattle.mono_session.specs.declared.entries.Entries.{Entries}
use Rattle.mono_session.specs.declared.nodes.Node.{Node}
use Rattle.mono_session.proofs.CallHistoryLemmas.{queue_last, queue_released}
use Rattle.mono_session.proofs.ChainLemmas.{between}
use Rattle.mono_session.proofs.NodeLemmas.{put, removed, swapped, place_none}
use Rattle.mono_session.proofs.QueueLemmas.{keeps_same, keeps_alike, contains-keeps, CameBehind, pushed, closed_after, left_place}

pub true-false : true ≡ false → ⊥
true-false e = cc

-- ---- by key and by session
pub stands-queue : (es : List Entry) (s key : ℕ) → stands_in es s key ≡ is_in (queue_in es key) s
stands-queue [] s key = refl
stands-queue (e ∷ es) s key = by (e.session == s) (e.key == key) refl refl (stands-queue es s key)
  where
    by : (b c : Bool) → (e.session == s) ≡ b → (e.key == key) ≡ c → stands_in es s key ≡ is_in (queue_in es key) s
        → ((b && c) || stands_in es s key) ≡ is_in (cond c (e.session ∷ queue_in es key) (queue_in es key)) s
    by true true f g rest = sym (ap (λ t. t || is_in (queue_in es key) s) f)
    by false true f g rest = rest ∙ sym (ap (λ t. t || is_in (queue_in es key) s) f)
    by true false f g rest = rest
    by false false f g rest = rest

pub stands-keys : (es : List Entry) (s key : ℕ) → stands_in es s key ≡ is_in (keys_in es s) key
stands-keys [] s key = refl
stands-keys (e ∷ es) s key = by (e.session == s) (e.key == key) refl refl (stands-keys es s key)
  where
    by : (b c : Bool) → (e.session == s) ≡ b → (e.key == key) ≡ c → stands_in es s key ≡ is_in (keys_in es s) key
        → ((b && c) || stands_in es s key) ≡ is_in (cond b (e.key ∷ keys_in es s) (keys_in es s)) key
    by true true f g rest = sym (ap (λ t. t || is_in (keys_in es s) key) g)
    by true false f g rest = rest ∙ sym (ap (λ t. t || is_in (keys_in es s) key) g)
    by false true f g rest = rest
    by false false f g rest = rest

keys_last : (es : List Entry) (s key p : ℕ) → keys_in (es ++ record { session = s; key = key } ∷ []) p ≡ cond (s == p) (keys_in es p ++ key ∷ []) (keys_in es p)
keys_last [] s key p = by (s == p)
  where
    by : (b : Bool) → cond b (key ∷ []) [] ≡ cond b (key ∷ []) []
    by b = refl
keys_last (e ∷ es) s key p = by (e.session == p) (s == p) (keys_last es s key p)
  where
    by : (b c : Bool) → keys_in (es ++ record { session = s; key = key } ∷ []) p ≡ cond c (keys_in es p ++ key ∷ []) (keys_in es p)
        → cond b (e.key ∷ keys_in (es ++ record { session = s; key = key } ∷ []) p) (keys_in (es ++ record { session = s; key = key } ∷ []) p)
        ≡ cond c (cond b (e.key ∷ keys_in es p) (keys_in es p) ++ key ∷ []) (cond b (e.key ∷ keys_in es p) (keys_in es p))
    by true true rest = ap (λ x. e.key ∷ x) rest
    by true false rest = ap (λ x. e.key ∷ x) rest
    by false true rest = rest
    by false false rest = rest

either_same : (b : Bool) (xs : List ℕ) → xs ≡ cond b xs xs
either_same true xs = refl
either_same false xs = refl

-- the keys of a session without one entry
keys_released : (es : List Entry) (s key p : ℕ) → keys_in (filter (λ e. not (is_entry s key e)) es) p ≡ cond (s == p) (left_by key (keys_in es p)) (keys_in es p)
keys_released [] s key p = either_same (s == p) []
keys_released (e ∷ es) s key p = by (e.session == s) (e.key == key) (e.session == p) (s == p) refl refl refl refl (keys_released es s key p)
  where
    eq-from : (m n : ℕ) → (m == n) ≡ true → m ≡ n
    eq-from m n f = grind (arith, nat_tests)

    eq-tells : (m n : ℕ) → m ≡ n → (m == n) ≡ true
    eq-tells m n f = grind (arith, nat_tests)

    by : (a b c d : Bool) → (e.session == s) ≡ a → (e.key == key) ≡ b → (e.session == p) ≡ c → (s == p) ≡ d
        → keys_in (filter (λ x. not (is_entry s key x)) es) p ≡ cond d (left_by key (keys_in es p)) (keys_in es p)
        → keys_in (cond (not (a && b)) (e ∷ filter (λ x. not (is_entry s key x)) es) (filter (λ x. not (is_entry s key x)) es)) p
        ≡ cond d (left_by key (cond c (e.key ∷ keys_in es p) (keys_in es p))) (cond c (e.key ∷ keys_in es p) (keys_in es p))
    by true true true true fa fb fc fd rest = rest ∙ sym (ap (λ t. cond (not t) (e.key ∷ left_by key (keys_in es p)) (left_by key (keys_in es p))) fb)
    by true true true false fa fb fc fd rest = absurd (true-false (sym (eq-tells s p (sym (eq-from e.session s fa) ∙ eq-from e.session p fc)) ∙ fd))
    by true true false true fa fb fc fd rest = rest
    by true true false false fa fb fc fd rest = rest
    by true false true true fa fb fc fd rest =
        ap (λ t. cond t (e.key ∷ keys_in (filter (λ x. not (is_entry s key x)) es) p) (keys_in (filter (λ x. not (is_entry s key x)) es) p)) fc ∙ ap (λ x. e.key ∷ x) rest
        ∙ sym (ap (λ t. cond (not t) (e.key ∷ left_by key (keys_in es p)) (left_by key (keys_in es p))) fb)
    by true false true false fa fb fc fd rest =
        ap (λ t. cond t (e.key ∷ keys_in (filter (λ x. not (is_entry s key x)) es) p) (keys_in (filter (λ x. not (is_entry s key x)) es) p)) fc ∙ ap (λ x. e.key ∷ x) rest
    by true false false true fa fb fc fd rest =
        ap (λ t. cond t (e.key ∷ keys_in (filter (λ x. not (is_entry s key x)) es) p) (keys_in (filter (λ x. not (is_entry s key x)) es) p)) fc ∙ rest
    by true false false false fa fb fc fd rest =
        ap (λ t. cond t (e.key ∷ keys_in (filter (λ x. not (is_entry s key x)) es) p) (keys_in (filter (λ x. not (is_entry s key x)) es) p)) fc ∙ rest
    by false b true true fa fb fc fd rest = absurd (true-false (sym (eq-tells e.session s (eq-from e.session p fc ∙ sym (eq-from s p fd))) ∙ fa))
    by false b true false fa fb fc fd rest =
        ap (λ t. cond t (e.key ∷ keys_in (filter (λ x. not (is_entry s key x)) es) p) (keys_in (filter (λ x. not (is_entry s key x)) es) p)) fc ∙ ap (λ x. e.key ∷ x) rest
    by false b false true fa fb fc fd rest =
        ap (λ t. cond t (e.key ∷ keys_in (filter (λ x. not (is_entry s key x)) es) p) (keys_in (filter (λ x. not (is_entry s key x)) es) p)) fc ∙ rest
    by false b false false fa fb fc fd rest =
        ap (λ t. cond t (e.key ∷ keys_in (filter (λ x. not (is_entry s key x)) es) p) (keys_in (filter (λ x. not (is_entry s key x)) es) p)) fc ∙ rest

-- ---- how many there are
pub none_released : (es : List Entry) (s key : ℕ) → stands_in es s key ≡ false → filter (λ e. not (is_entry s key e)) es ≡ es
none_released [] s key out = refl
none_released (e ∷ es) s key out = by (is_entry s key e) out (none_released es s key)
  where
    by : (b : Bool) → (b || stands_in es s key) ≡ false → (stands_in es s key ≡ false → filter (λ x. not (is_entry s key x)) es ≡ es)
        → cond (not b) (e ∷ filter (λ x. not (is_entry s key x)) es) (filter (λ x. not (is_entry s key x)) es) ≡ e ∷ es
    by true f rest = absurd (true-false f)
    by false f rest = ap (λ xs. e ∷ xs) (rest f)

one_less : (es : List Entry) (s key : ℕ) → stands_in es s key ≡ true → IsOnce (queue_in es key) → length (filter (λ e. not (is_entry s key e)) es) + 1 ≡ length es
one_less [] s key stands once = absurd (true-false (sym stands))
one_less (e ∷ es) s key stands once = by (e.session == s) (e.key == key) refl refl stands once (one_less es s key)
  where
    eq-from : (m n : ℕ) → (m == n) ≡ true → m ≡ n
    eq-from m n f = grind (arith, nat_tests)

    by : (a b : Bool) → (e.session == s) ≡ a → (e.key == key) ≡ b → ((a && b) || stands_in es s key) ≡ true → IsOnce (cond b (e.session ∷ queue_in es key) (queue_in es key))
        → (stands_in es s key ≡ true → IsOnce (queue_in es key) → length (filter (λ x. not (is_entry s key x)) es) + 1 ≡ length es)
        → length (cond (not (a && b)) (e ∷ filter (λ x. not (is_entry s key x)) es) (filter (λ x. not (is_entry s key x)) es)) + 1 ≡ length (e ∷ es)
    by true true fa fb f o rest =
        let none : filter (λ x. not (is_entry s key x)) es ≡ es = none_released es s key (stands-queue es s key ∙ ap (is_in (queue_in es key)) (sym (eq-from e.session s fa)) ∙ o.0) in
        omega (arith, ap length none)
    by true false fa fb f o rest = omega (arith, rest f o)
    by false true fa fb f o rest = omega (arith, rest f o.1)
    by false false fa fb f o rest = omega (arith, rest f o)

-- ---- an entry comes, or leaves
-- The entries of tables that read alike.
pub entered_alike : (old new : Entries) (es : List Entry) → Alike (queue_chains old) (queue_chains new) → Alike (key_chains old) (key_chains new) → entry_count new ≡ entry_count old → Entered old es → Entered new es
entered_alike old new es queues keys count entered = record {
  queues = keeps_alike (queue_chains old) (queue_chains new) (queue_in es) queues.ends queues.places entered.queues;
  keys = keeps_alike (key_chains old) (key_chains new) (keys_in es) keys.ends keys.places entered.keys;
  count = count ∙ entered.count;
}

-- A map has one more entry, since it had none with this key.
pub count_put : {E : Type 0} (r : Result (Option Node) E) (o : Option Node) (n m : ℕ) → IsOk r → IfOk r (λ x. x ≡ o) → IfOk r (λ x. n ≡ m + (if is_some x then 0 else 1)) → o ≡ None → n ≡ m + 1
count_put (Ok x) o n m ok same len none = len ∙ ap (λ y. m + cond (is_some y) 0 1) (same ∙ none)
count_put (Err e) o n m ok same len none = cc

pub came_queue : (old new : Entries) (s key : ℕ) (node : Node) (before : Option ℕ) (put_in one : ℕ × ℕ → Option Node) → before ≡ last_end (get nat_eq old.ends key)
    → ((q : ℕ) → get nat_eq new.ends q ≡ cond (nat_eq key q) (with_last_end s (get nat_eq old.ends q)) (get nat_eq old.ends q)) → queue_place node ≡ between before None
    → ((k : ℕ × ℕ) → put_in k ≡ cond (pair_eq (key, s) k) (Some node) (get pair_eq old.nodes k))
    → ((q m : ℕ) → place_by queue_place (one (q, m)) ≡ cond (nat_eq key q) (linked_after before m (Some s) (place_by queue_place (put_in (q, m)))) (place_by queue_place (put_in (q, m))))
    → ((q m : ℕ) → place_by queue_place (get pair_eq new.nodes (q, m)) ≡ place_by queue_place (one (q, m)))
    → CameBehind (queue_chains old) (queue_chains new) key s before
came_queue old new s key node before put_in one last ends is first second third = record {
  is_last = last;
  ends = ends;
  places = λ q m. third q m ∙ second q m
      ∙ ap (λ v. cond (nat_eq key q) (linked_after before m (Some s) v) v) (put queue_place (get pair_eq old.nodes) put_in key s node (between before None) first is q m);
}

pub came_keys : (old new : Entries) (s key : ℕ) (node : Node) (before : Option ℕ) (put_in one : ℕ × ℕ → Option Node) → before ≡ last_end (get nat_eq old.key_ends s)
    → ((q : ℕ) → get nat_eq new.key_ends q ≡ cond (nat_eq s q) (with_last_end key (get nat_eq old.key_ends q)) (get nat_eq old.key_ends q)) → key_place node ≡ between before None
    → ((k : ℕ × ℕ) → put_in k ≡ cond (pair_eq (key, s) k) (Some node) (get pair_eq old.nodes k))
    → ((q m : ℕ) → place_by key_place (one (q, m)) ≡ place_by key_place (put_in (q, m)))
    → ((q m : ℕ) → place_by key_place (get pair_eq new.nodes (m, q)) ≡ cond (nat_eq s q) (linked_after before m (Some key) (place_by key_place (one (m, q)))) (place_by key_place (one (m, q))))
    → CameBehind (key_chains old) (key_chains new) s key before
came_keys old new s key node before put_in one last ends is first second third = record {
  is_last = last;
  ends = ends;
  places = λ q m. third q m
      ∙ ap (λ v. cond (nat_eq s q) (linked_after before m (Some key) v) v)
      (second m q ∙ put key_place (get pair_eq old.nodes) put_in key s node (between before None) first is m q
      ∙ swapped (nat_eq key m) (nat_eq s q) (Some (between before None)) (place_by key_place (get pair_eq old.nodes (m, q))));
}

pub entered_last : (old new : Entries) (es : List Entry) (s key : ℕ) (before before_key : Option ℕ) → Entered old es
    → CameBehind (queue_chains old) (queue_chains new) key s before → CameBehind (key_chains old) (key_chains new) s key before_key
    → (get pair_eq old.nodes (key, s) ≡ None → entry_count new ≡ entry_count old + 1)
    → stands_in es s key ≡ false → Entered new (es ++ record { session = s; key = key } ∷ [])
entered_last old new es s key before before_key entered queues keys count out = record {
  queues = keeps_same (queue_chains new) (with_last (queue_in es) key s) (queue_in (es ++ record { session = s; key = key } ∷ [])) (λ q. sym (queue_last es s key q))
      (pushed (queue_chains old) (queue_chains new) key s before (queue_in es) queues entered.queues (sym (stands-queue es s key) ∙ out));
  keys = keeps_same (key_chains new) (with_last (keys_in es) s key) (keys_in (es ++ record { session = s; key = key } ∷ [])) (λ q. sym (keys_last es s key q))
      (pushed (key_chains old) (key_chains new) s key before_key (keys_in es) keys entered.keys (sym (stands-keys es s key) ∙ out));
  count = omega (arith, count (place_none queue_place (get pair_eq old.nodes (key, s)) (contains-keeps (queue_chains old) (queue_in es) key s entered.queues ∙ sym (stands-queue es s key) ∙ out)), entered.count, length-append es (record { session = s; key = key } ∷ []));
}

pub entered_left : (old new : Entries) (es : List Entry) (s key : ℕ) → Entered old es
    → Keeps (queue_chains new) (without_member (queue_in es) key s) → Keeps (key_chains new) (without_member (keys_in es) s key)
    → entry_count new + 1 ≡ entry_count old → stands_in es s key ≡ true → Entered new (filter (λ e. not (is_entry s key e)) es)
entered_left old new es s key entered queues keys count stands = record {
  queues = keeps_same (queue_chains new) (without_member (queue_in es) key s) (queue_in (filter (λ e. not (is_entry s key e)) es)) (λ q. sym (queue_released es s key q)) queues;
  keys = keeps_same (key_chains new) (without_member (keys_in es) s key) (keys_in (filter (λ e. not (is_entry s key e)) es)) (λ q. sym (keys_released es s key q)) keys;
  count = omega (arith, count, entered.count, one_less es s key stands (entered.queues.once key));
}

-- A node is removed, and then its neighbours are joined in the one chain and in the other.
pub left_both : (old mid one new : Entries) (es : List Entry) (s key : ℕ) (node : Node) → Entered old es → Some node ≡ get pair_eq old.nodes (key, s)
    → ((q : ℕ) → get nat_eq mid.ends q ≡ get nat_eq old.ends q) → ((q : ℕ) → get nat_eq mid.key_ends q ≡ get nat_eq old.key_ends q)
    → ((k : ℕ × ℕ) → get pair_eq mid.nodes k ≡ cond (pair_eq (key, s) k) None (get pair_eq old.nodes k))
    → Closed (queue_chains mid) (queue_chains one) key (queue_place node) → Alike (key_chains mid) (key_chains one)
    → Alike (queue_chains one) (queue_chains new) → Closed (key_chains one) (key_chains new) s (key_place node)
    → entry_count new + 1 ≡ entry_count old → stands_in es s key ≡ true → Entered new (filter (λ e. not (is_entry s key e)) es)
left_both old mid one new es s key node entered at ends key_ends gone queue_one key_one queue_new key_new count stands =
    entered_left old new es s key entered
    (keeps_alike (queue_chains one) (queue_chains new) (without_member (queue_in es) key s) queue_new.ends queue_new.places
    (left_place (queue_chains old) (queue_chains one) key s (queue_place node) (queue_in es)
    (closed_after (queue_chains old) (queue_chains mid) (queue_chains one) key s (queue_place node) ends
    (λ q m. removed queue_place (get pair_eq old.nodes) (get pair_eq mid.nodes) key s gone q m) (ap (place_by queue_place) at) queue_one)
    entered.queues))
    (left_place (key_chains old) (key_chains new) s key (key_place node) (keys_in es)
    (closed_after (key_chains old) (key_chains one) (key_chains new) s key (key_place node) (λ q. key_one.ends q ∙ key_ends q)
    (λ q m. key_one.places q m ∙ removed key_place (get pair_eq old.nodes) (get pair_eq mid.nodes) key s gone m q
    ∙ swapped (nat_eq key m) (nat_eq s q) None (place_by key_place (get pair_eq old.nodes (m, q))))
    (ap (place_by key_place) at) key_new)
    entered.keys)
    count stands

-- ---- a session leaves all queues
-- those that are not of the session stay without one of its entries
pub others_stay : (es : List Entry) (s key : ℕ) → filter (λ e. not (e.session == s)) (filter (λ e. not (is_entry s key e)) es) ≡ filter (λ e. not (e.session == s)) es
others_stay [] s key = refl
others_stay (e ∷ es) s key = by (e.session == s) (e.key == key) refl (others_stay es s key)
  where
    by : (a b : Bool) → (e.session == s) ≡ a → filter (λ x. not (x.session == s)) (filter (λ x. not (is_entry s key x)) es) ≡ filter (λ x. not (x.session == s)) es
        → filter (λ x. not (x.session == s)) (cond (not (a && b)) (e ∷ filter (λ x. not (is_entry s key x)) es) (filter (λ x. not (is_entry s key x)) es))
        ≡ cond (not a) (e ∷ filter (λ x. not (x.session == s)) es) (filter (λ x. not (x.session == s)) es)
    by true true f rest = rest
    by true false f rest = ap (λ t. cond (not t) (e ∷ filter (λ x. not (x.session == s)) (filter (λ x. not (is_entry s key x)) es)) (filter (λ x. not (x.session == s)) (filter (λ x. not (is_entry s key x)) es))) f ∙ rest
    by false b f rest = ap (λ t. cond (not t) (e ∷ filter (λ x. not (x.session == s)) (filter (λ x. not (is_entry s key x)) es)) (filter (λ x. not (x.session == s)) (filter (λ x. not (is_entry s key x)) es))) f ∙ ap (λ xs. e ∷ xs) rest

-- all stay of a session without keys
pub all_stay : (es : List Entry) (s : ℕ) → None ≡ first_of (keys_in es s) → filter (λ e. not (e.session == s)) es ≡ es
all_stay [] s none = refl
all_stay (e ∷ es) s none = by (e.session == s) none (all_stay es s)
  where
    by : (b : Bool) → None ≡ first_of (cond b (e.key ∷ keys_in es s) (keys_in es s)) → (None ≡ first_of (keys_in es s) → filter (λ x. not (x.session == s)) es ≡ es)
        → cond (not b) (e ∷ filter (λ x. not (x.session == s)) es) (filter (λ x. not (x.session == s)) es) ≡ e ∷ es
    by true f rest = cc
    by false f rest = ap (λ xs. e ∷ xs) (rest f)

-- The first is in the queue.
first_stands : (xs : List ℕ) (m : ℕ) → Some m ≡ first_of xs → is_in xs m ≡ true
first_stands [] m e = cc
first_stands (x ∷ xs) m e = grind (arith, nat_tests)

pub key_stands : (es : List Entry) (s key : ℕ) → Some key ≡ first_of (keys_in es s) → stands_in es s key ≡ true
key_stands es s key first = stands-keys es s key ∙ first_stands (keys_in es s) key first

-- The first key of a session does not fail to leave.
pub not_left : (es : List Entry) (s key : ℕ) → Some key ≡ first_of (keys_in es s) → false ≡ stands_in es s key → ⊥
not_left es s key first stands = true-false (sym (key_stands es s key first) ∙ sym stands)
