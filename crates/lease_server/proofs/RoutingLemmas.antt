-- One more line of an input.
use Rattle.std.proofs.Common.{◌≡◌, ◌≢◌, ◌==◌, ℕ, zero, suc, ◌+◌, ◌-◌, ◌<◌, ◌≤◌, ◌^◌, Bool, true, false, List, [], ◌∷◌, ◌++◌, map, length, get_or, set, Option, Some, None, MatchOption, codes, refl, sym, ap, subst, ◌∙◌, arith, append_assoc, add-zero}
use Rattle.std.specs.Prelude.{if◌then◌else◌, slice_index}
use Rattle.std.specs.List.{flat_map, range_with_len}
use Rattle.std.specs.Fmt.{decimal}
use Rattle.std.proofs.lemmas.Bool.{cases_eq}
use Rattle.std.proofs.lemmas.Bool.Decides.{nat_tests}
use Rattle.std.proofs.lemmas.Fmt.{length-decimal-le}
use Rattle.std.proofs.lemmas.List.{append-nil, length-append, length-set, get_or-set_same, get_or-set_other, ext_get_or}
use Rattle.std.proofs.lemmas.List.Concat.{flat_map-append}
use Rattle.std.proofs.lemmas.List.FromFn.{get_or-map-range_with_len, length-map-range_with_len}
use Rattle.mono_text.specs.Lines.{Line, lines, onto_first}
use Rattle.lease_core.specs.declared.requests.Call.{Call}
use Rattle.lease_core.specs.declared.requests.Call.TheVariants as call
use Rattle.lease_core.specs.declared.requests.Request.{Request}
use Rattle.lease_core.specs.Routes.{core_of}
use Rattle.lease_lines.specs.Lines.{call_text, FitsCall, Spells, SpellsNone}
use Rattle.lease_lines.specs.Replies.{bad_text}
use Rattle.lease_server.specs.Routing.{Asks, Ask, routed, all_routed, refused, HasNoFeed, EndsLines}

-- ---- line feeds

abbrev pub ended : List ℕ → Line
ended bytes = record { bytes = bytes; is_ended = true }

abbrev pub begun : List ℕ → Line
begun bytes = record { bytes = bytes; is_ended = false }

not_true : (b : Bool) → (b ≡ true → ⊥) → b ≡ false
not_true true none = absurd (none refl)
not_true false none = refl

pub feedless : (xs : List ℕ) → ((k : ℕ) → k < length xs → (slice_index xs k == 10) ≡ true → ⊥) → HasNoFeed xs
feedless [] none = tt
feedless (x ∷ xs) none = (not_true (x == 10) (none 0 (omega arith)), feedless xs (λ k lt. none (suc k) (omega arith)))

pub both_feedless : (xs ys : List ℕ) → HasNoFeed xs → HasNoFeed ys → HasNoFeed (xs ++ ys)
both_feedless [] ys p q = q
both_feedless (x ∷ xs) ys p q = (p.0, both_feedless xs ys p.1 q)

pub line_cut : (xs rest : List ℕ) → HasNoFeed xs → lines (xs ++ 10 ∷ rest) ≡ ended xs ∷ lines rest
line_cut [] rest f = refl
line_cut (x ∷ xs) rest f =
    ap (λ (b : Bool). if b then ended [] ∷ lines (xs ++ 10 ∷ rest) else onto_first x (lines (xs ++ 10 ∷ rest))) f.0 ∙ ap (λ l. onto_first x l) (line_cut xs rest f.1)

line_open : (x : ℕ) (xs : List ℕ) → HasNoFeed (x ∷ xs) → lines (x ∷ xs) ≡ begun (x ∷ xs) ∷ []
line_open x [] f = ap (λ (b : Bool). if b then ended [] ∷ [] else onto_first x []) f.0
line_open x (y ∷ ys) f =
    ap (λ (b : Bool). if b then ended [] ∷ lines (y ∷ ys) else onto_first x (lines (y ∷ ys))) f.0 ∙ ap (λ l. onto_first x l) (line_open y ys f.1)

-- bytes without a line feed are no line, or one that has not ended
pub last_line : (xs : List ℕ) → HasNoFeed xs → 0 < length xs → lines xs ≡ begun xs ∷ []
last_line [] f some = absurd (omega arith)
last_line (x ∷ xs) f some = line_open x xs f

pub ends_none : EndsLines []
ends_none = λ rest. refl

pub lines_more : (taken line : List ℕ) → EndsLines taken → HasNoFeed line → lines (taken ++ (line ++ 10 ∷ [])) ≡ lines taken ++ ended line ∷ []
lines_more taken line ends f = ends (line ++ 10 ∷ []) ∙ ap (λ l. lines taken ++ l) (line_cut line [] f)

pub ends_more : (taken line : List ℕ) → EndsLines taken → HasNoFeed line → EndsLines (taken ++ (line ++ 10 ∷ []))
ends_more taken line ends f = λ rest.
    let joined : (taken ++ (line ++ 10 ∷ [])) ++ rest ≡ taken ++ (line ++ 10 ∷ rest) =
    append_assoc taken (line ++ 10 ∷ []) rest ∙ ap (λ l. taken ++ l) (append_assoc line (10 ∷ []) rest) in
    ap lines joined ∙ ends (line ++ 10 ∷ rest) ∙ ap (λ l. lines taken ++ l) (line_cut line rest f)
    ∙ sym (append_assoc (lines taken) (ended line ∷ []) (lines rest)) ∙ sym (ap (λ l. l ++ lines rest) (lines_more taken line ends f))

-- ---- what lines ask

pub ask_more : (n : ℕ) (ls : List Line) (asked : List (Option Request)) (line : Line) (what : Option Request) → Ask n ls asked → Asks (n + length asked) line what
    → Ask n (ls ++ line ∷ []) (asked ++ what ∷ [])
ask_more n [] [] line what all one = (subst (λ k. Asks k line what) (add-zero n) one, tt)
ask_more n (l ∷ ls) (a ∷ asked) line what all one =
    let e : n + suc (length asked) ≡ n + 1 + length asked = omega arith in
    (all.0, ask_more (n + 1) ls asked line what all.1 (subst (λ k. Asks k line what) e one))
ask_more n [] (a ∷ asked) line what all one = absurd all
ask_more n (l ∷ ls) [] line what all one = absurd all

pub asks_ended : (n : ℕ) (line : List ℕ) (found : Option Request) → MatchOption found (SpellsNone line) (λ request. Spells n line request) → Asks n (ended line) found
asks_ended n line None h = λ e. h
asks_ended n line (Some request) h = (refl, h)

never : {A : Type 0} → false ≡ true → A
never e = cc

pub asks_begun : (n : ℕ) (line : List ℕ) → Asks n (begun line) None
asks_begun n line = λ e. never e

-- ---- who gets a request

if_step : (b : Bool) (r : Request) (xs ys zs : List Request) → xs ≡ ys ++ zs → (if b then r ∷ xs else xs) ≡ (if b then r ∷ ys else ys) ++ zs
if_step true r xs ys zs e = ap (λ l. r ∷ l) e
if_step false r xs ys zs e = e

routed_none : (k cores : ℕ) (asked : List (Option Request)) → routed k cores (asked ++ None ∷ []) ≡ routed k cores asked
routed_none k cores [] = refl
routed_none k cores (None ∷ asked) = routed_none k cores asked
routed_none k cores (Some r ∷ asked) = ap (λ l. if core_of r.key cores == k then r ∷ l else l) (routed_none k cores asked)

routed_some : (k cores : ℕ) (asked : List (Option Request)) (request : Request)
    → routed k cores (asked ++ Some request ∷ []) ≡ routed k cores asked ++ (if core_of request.key cores == k then request ∷ [] else [])
routed_some k cores [] request = refl
routed_some k cores (None ∷ asked) request = routed_some k cores asked request
routed_some k cores (Some r ∷ asked) request =
    if_step (core_of r.key cores == k) r (routed k cores (asked ++ Some request ∷ [])) (routed k cores asked) (if core_of request.key cores == k then request ∷ [] else []) (routed_some k cores asked request)

map_same : {A B : Type 0} (f g : A → B) (xs : List A) → ((x : A) → f x ≡ g x) → map f xs ≡ map g xs
map_same f g [] e = refl
map_same f g (x ∷ xs) e = ap (λ y. y ∷ map f xs) (e x) ∙ ap (λ l. g x ∷ l) (map_same f g xs e)

pub all_none : (cores : ℕ) (asked : List (Option Request)) → all_routed cores asked ≡ all_routed cores (asked ++ None ∷ [])
all_none cores asked = sym (map_same (λ k. routed k cores (asked ++ None ∷ [])) (λ k. routed k cores asked) (range_with_len 0 cores) (λ k. routed_none k cores asked))

pub at_core : (cores k : ℕ) (asked : List (Option Request)) → k < cores → get_or (all_routed cores asked) k [] ≡ routed k cores asked
at_core cores k asked lt = get_or-map-range_with_len (λ k. routed k cores asked) 0 cores k k [] lt (omega arith)

pub as_many : (cores : ℕ) (asked : List (Option Request)) → length (all_routed cores asked) ≡ cores
as_many cores asked = length-map-range_with_len (λ k. routed k cores asked) 0 cores

same_test : (m n : ℕ) → m ≡ n → (m == n) ≡ true
same_test m n e = grind (arith, nat_tests)

other_test : (m n : ℕ) → m ≢ n → (m == n) ≡ false
other_test m n apart = grind (arith, nat_tests)

its_own : (cores c : ℕ) (asked : List (Option Request)) (request : Request) → core_of request.key cores ≡ c → routed c cores asked ++ request ∷ [] ≡ routed c cores (asked ++ Some request ∷ [])
its_own cores c asked request is =
    sym (routed_some c cores asked request ∙ ap (λ (b : Bool). routed c cores asked ++ (if b then request ∷ [] else [])) (same_test (core_of request.key cores) c is))

anothers : (cores i c : ℕ) (asked : List (Option Request)) (request : Request) → core_of request.key cores ≡ c → i ≢ c → routed i cores asked ≡ routed i cores (asked ++ Some request ∷ [])
anothers cores i c asked request is apart =
    sym (routed_some i cores asked request ∙ ap (λ (b : Bool). routed i cores asked ++ (if b then request ∷ [] else [])) (other_test (core_of request.key cores) i (λ e. apart (sym e ∙ is)))
    ∙ append-nil (routed i cores asked))

at_place : (cores c i : ℕ) (asked : List (Option Request)) (request : Request) → core_of request.key cores ≡ c → c < length (all_routed cores asked) → i < cores → (b : Bool) → (i == c) ≡ b
    → get_or (set (all_routed cores asked) c (get_or (all_routed cores asked) c [] ++ request ∷ [])) i [] ≡ get_or (all_routed cores (asked ++ Some request ∷ [])) i []
at_place cores c i asked request is inside within true test =
    let same : i ≡ c = grind (arith, nat_tests) in
    let was = all_routed cores asked in
    let now : List Request = get_or was c [] ++ request ∷ [] in
    ap (λ k. get_or (set was c now) k []) same ∙ get_or-set_same was c now [] inside ∙ ap (λ l. l ++ request ∷ []) (ap (λ k. get_or was k []) (sym same) ∙ at_core cores i asked within ∙ ap (λ k. routed k cores asked) same)
    ∙ its_own cores c asked request is ∙ ap (λ k. routed k cores (asked ++ Some request ∷ [])) (sym same) ∙ sym (at_core cores i (asked ++ Some request ∷ []) within)
at_place cores c i asked request is inside within false test =
    let apart : i ≢ c = λ e. never (sym test ∙ same_test i c e) in
    let was = all_routed cores asked in
    let now : List Request = get_or was c [] ++ request ∷ [] in
    get_or-set_other was c i now [] apart ∙ at_core cores i asked within ∙ anothers cores i c asked request is apart ∙ sym (at_core cores i (asked ++ Some request ∷ []) within)

-- the core of the request gets it, after those before it
pub all_some : (cores c : ℕ) (asked : List (Option Request)) (request : Request) → core_of request.key cores ≡ c → c < cores
    → set (all_routed cores asked) c (get_or (all_routed cores asked) c [] ++ request ∷ []) ≡ all_routed cores (asked ++ Some request ∷ [])
all_some cores c asked request is lt =
    let was = all_routed cores asked in
    let more = asked ++ Some request ∷ [] in
    let now : List Request = get_or was c [] ++ request ∷ [] in
    let long : length (set was c now) ≡ cores = length-set was c now ∙ as_many cores asked in
    let inside : c < length was = subst (λ n. c < n) (sym (as_many cores asked)) lt in
    ext_get_or [] (set was c now) (all_routed cores more) (long ∙ sym (as_many cores more))
    (λ i at.
    let within : i < cores = subst (λ n. i < n) long at in
    at_place cores c i asked request is inside within (i == c) refl)

-- ---- who is refused

later : (n m : ℕ) → n + 1 + m ≡ n + suc m
later n m = omega arith

pub refused_none : (n : ℕ) (asked : List (Option Request)) → refused n (asked ++ None ∷ []) ≡ refused n asked ++ (n + length asked) ∷ []
refused_none n [] = ap (λ k. k ∷ []) (sym (add-zero n))
refused_none n (None ∷ asked) = ap (λ l. n ∷ l) (refused_none (n + 1) asked ∙ ap (λ k. refused (n + 1) asked ++ k ∷ []) (later n (length asked)))
refused_none n (Some r ∷ asked) = refused_none (n + 1) asked ∙ ap (λ k. refused (n + 1) asked ++ k ∷ []) (later n (length asked))

pub refused_some : (n : ℕ) (asked : List (Option Request)) (request : Request) → refused n (asked ++ Some request ∷ []) ≡ refused n asked
refused_some n [] request = refl
refused_some n (None ∷ asked) request = ap (λ l. n ∷ l) (refused_some (n + 1) asked request)
refused_some n (Some r ∷ asked) request = refused_some (n + 1) asked request
