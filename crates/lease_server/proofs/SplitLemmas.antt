-- One more line of the bytes that were read, and more bytes.
use Rattle.std.proofs.Common.{◌≡◌, ◌==◌, ℕ, suc, ◌+◌, ◌<◌, ◌≤◌, ◌^◌, Bool, true, false, List, [], ◌∷◌, ◌++◌, length, take, drop, Option, Some, None, Result, Ok, Err, IfOk, OnErr, MatchOption, IfSome, IfNone, codes, refl, sym, ap, subst, ◌∙◌, arith, append_assoc}
use Rattle.std.specs.Prelude.{slice_index}
use Rattle.std.specs.Fmt.{decimal}
use Rattle.std.proofs.lemmas.Bool.Decides.{nat_tests}
use Rattle.std.proofs.lemmas.Fmt.{length-decimal-le}
use Rattle.std.proofs.lemmas.List.{append-nil, length-append, take_at, drop_at, take-append-drop, length-take-le, get_or-take, drop_more}
use Rattle.memchr.specs.Find.{IsFirstByte, is_byte}
use Rattle.mono_text.specs.Lines.{lines}
use Rattle.mono_text.specs.Environment.{HasRead}
use Rattle.lease_core.specs.declared.requests.Call.{Call}
use Rattle.lease_core.specs.declared.requests.Call.TheVariants as call
use Rattle.lease_core.specs.declared.requests.Request.{Request}
use Rattle.lease_lines.specs.Lines.{call_text, FitsCall, Spells, SpellsNone}
use Rattle.lease_server.specs.Blocks.{rest_of, HasTaken}
use Rattle.lease_server.specs.Routing.{Asks, Ask, HasNoFeed, EndsLines}
use Rattle.lease_server.specs.Dispatch.{Holds, Answers}
use Rattle.lease_server.specs.Splits.{IsDropped, BeginsLine, Stands, HasSplit}
use Rattle.lease_server.specs.declared.splitters.Splitter.{Splitter}
use Rattle.lease_server.specs.declared.dispatchers.Dispatcher.{Dispatcher}
use Rattle.lease_server.proofs.RoutingLemmas.{ended, begun, feedless, both_feedless, last_line, ends_none, lines_more, ends_more, ask_more, asks_ended, asks_begun}

-- ---- no request is as long as a long line

digits : (n : ℕ) → n < 2 ^ 64 → length (decimal n) ≤ 20
digits n fits = length-decimal-le 20 n (omega arith) (omega arith) fits

one_long : (word : List ℕ) (a b : ℕ) → length word ≤ 8 → a < 2 ^ 64 → b < 2 ^ 64 → length (word ++ decimal a ++ codes " " ++ decimal b) ≤ 88
one_long word a b short fa fb = simp length-append (omega (arith, digits a fa, digits b fb))

two_long : (word : List ℕ) (a b c : ℕ) → length word ≤ 8 → a < 2 ^ 64 → b < 2 ^ 64 → c < 2 ^ 64 → length (word ++ decimal a ++ codes " " ++ decimal b ++ codes " " ++ decimal c) ≤ 88
two_long word a b c short fa fb fc = simp length-append (omega (arith, digits a fa, digits b fb, digits c fc))

three_long : (a b c d : ℕ) → a < 2 ^ 64 → b < 2 ^ 64 → c < 2 ^ 64 → d < 2 ^ 64
    → length (codes "send " ++ decimal a ++ codes " " ++ decimal b ++ codes " " ++ decimal c ++ codes " " ++ decimal d) ≤ 88
three_long a b c d fa fb fc fd = simp length-append (omega (arith, digits a fa, digits b fb, digits c fc, digits d fd))

word_long : (word : List ℕ) (a : ℕ) → length word ≤ 8 → a < 2 ^ 64 → length (word ++ decimal a) ≤ 88
word_long word a short fa = simp length-append (omega (arith, digits a fa))

call_long : (key : ℕ) (c : Call) → key < 2 ^ 64 → FitsCall c → length (call_text key c) ≤ 88
call_long key (call.Open limit) fk f = one_long (codes "open ") key limit (omega arith) fk f
call_long key (call.Beat s) fk f = one_long (codes "beat ") key s (omega arith) fk f
call_long key (call.Close s) fk f = one_long (codes "close ") key s (omega arith) fk f
call_long key (call.Acquire s) fk f = one_long (codes "acquire ") key s (omega arith) fk f
call_long key (call.Release s) fk f = one_long (codes "release ") key s (omega arith) fk f
call_long key (call.Try s) fk f = one_long (codes "try ") key s (omega arith) fk f
call_long key call.Owner fk f = word_long (codes "owner ") key (omega arith) fk
call_long key call.Count fk f = word_long (codes "stats ") key (omega arith) fk
call_long key (call.Bucket burst period) fk f = two_long (codes "bucket ") key burst period (omega arith) fk f.0 f.1
call_long key (call.Take b n) fk f = two_long (codes "take ") key b n (omega arith) fk f.0 f.1
call_long key call.Spawn fk f = word_long (codes "spawn ") key (omega arith) fk
call_long key (call.Send from to message) fk f = three_long key from to message fk f.0 f.1 f.2
call_long key call.Receive fk f = word_long (codes "receive ") key (omega arith) fk

pub long_none : (dropped rest : List ℕ) → 88 < length dropped → SpellsNone (dropped ++ rest)
long_none dropped rest long = λ key c fk f e.
    let most = call_long key c fk f in
    let same : length dropped + length rest ≡ length (call_text key c) = sym (length-append dropped rest) ∙ ap length e in
    absurd (omega arith)

-- a line of which bytes were dropped, or another
pub found_at : (is_long : Bool) (number : ℕ) (line : List ℕ) (found : Option Request) → (is_long ≡ true → found ≡ None) → (is_long ≡ false → MatchOption found (SpellsNone line) (λ request. Spells number line request))
    → (dropped : List ℕ) → IsDropped is_long dropped → MatchOption found (SpellsNone (dropped ++ line)) (λ request. Spells number (dropped ++ line) request)
found_at true number line found long short dropped is =
    subst (λ o. MatchOption o (SpellsNone (dropped ++ line)) (λ request. Spells number (dropped ++ line) request)) (sym (long refl)) (long_none dropped line is)
found_at false number line found long short dropped is =
    subst (λ l. MatchOption found (SpellsNone (l ++ line)) (λ request. Spells number (l ++ line) request)) (sym is) (short refl)

-- ---- the first line feed

pub no_feed : (bytes : List ℕ) → IsFirstByte (is_byte 10) bytes None → HasNoFeed bytes
no_feed bytes none = feedless bytes (λ k lt is. none k (omega arith) lt is)

before_none : (bytes : List ℕ) (k : ℕ) → k < length bytes → ((i : ℕ) → i < k → (slice_index bytes i == 10) ≡ true → ⊥) → HasNoFeed (take k bytes)
before_none bytes k lt none =
    let n = length-take-le k bytes (omega arith) in
    feedless (take k bytes) (λ i at is. none i (omega arith) (subst (λ b. (b == 10) ≡ true) (get_or-take k bytes i 0 (omega arith)) is))

is_feed : (b : ℕ) → (b == 10) ≡ true → b ≡ 10
is_feed b is = grind (arith, nat_tests)

pub first_feed : (bytes : List ℕ) (k : ℕ) → IsFirstByte (is_byte 10) bytes (Some k) → BeginsLine k bytes
first_feed bytes k (found, is) =
    let lt : k < length bytes = found.high in (
      take k bytes,
      drop (k + 1) bytes,
      sym (take-append-drop k bytes) ∙ ap (λ l. take k bytes ++ l) (drop_more bytes k 0 lt ∙ ap (λ b. b ∷ drop (k + 1) bytes) (is_feed (slice_index bytes k) is)),
      length-take-le k bytes (omega arith),
      before_none bytes k lt (λ i less is. found.before i (omega arith) less is),
    )

pub front_of : (bytes : List ℕ) (k : ℕ) (b : BeginsLine k bytes) → take k bytes ≡ b.0
front_of bytes k (line, more, is, long, none) = ap (λ l. take k l) is ∙ take_at line (10 ∷ more) k long

pub back_of : (bytes : List ℕ) (k : ℕ) (b : BeginsLine k bytes) → drop (k + 1) bytes ≡ b.1
back_of bytes k (line, more, is, long, none) =
    ap (λ l. drop (k + 1) l) (is ∙ sym (append_assoc line (10 ∷ []) more)) ∙ drop_at (line ++ 10 ∷ []) more (k + 1) (length-append line (10 ∷ []) ∙ ap (λ n. n + 1) long)

pub fits_in : (bytes : List ℕ) (k : ℕ) → BeginsLine k bytes → k + 1 ≤ length bytes
fits_in bytes k (line, more, is, long, none) =
    let all : length bytes ≡ length line + suc (length more) = ap length is ∙ length-append line (10 ∷ more) in omega arith

pub read_none : (a : Option (List ℕ)) → HasRead a [] a
read_none None = refl
read_none (Some left) = refl

-- ---- the state of a splitter

-- nothing was read
pub stands_first : (s : Splitter) → rest_of s.block ≡ [] → s.is_long ≡ false → Holds [] s.dispatcher → Stands [] s
stands_first s none short holds = record {
  taken = [];
  dropped = [];
  asked = [];
  bytes = sym none;
  ends = ends_none;
  begun = tt;
  long = subst (λ b. IsDropped b []) (sym short) refl;
  asks = tt;
  holds = holds;
}

-- the same bytes, and the dispatcher was given the same
pub stands_same : (text : List ℕ) (a b : Splitter) → rest_of b.block ≡ rest_of a.block → b.is_long ≡ a.is_long → ((asked : List (Option Request)) → Holds asked a.dispatcher → Holds asked b.dispatcher) → Stands text a → Stands text b
stands_same text a b rest long holds s = record {
  taken = s.taken;
  dropped = s.dropped;
  asked = s.asked;
  bytes = s.bytes ∙ ap (λ l. s.taken ++ (s.dropped ++ l)) (sym rest);
  ends = s.ends;
  begun = s.begun;
  long = subst (λ x. IsDropped x s.dropped) (sym long) s.long;
  asks = s.asks;
  holds = holds s.asked s.holds;
}

-- a whole line was taken
pub stands_line : (text : List ℕ) (a b : Splitter) (count number : ℕ) (found : Option Request) → BeginsLine count (rest_of a.block) → rest_of b.block ≡ drop (count + 1) (rest_of a.block) → b.is_long ≡ false → number ≡ a.dispatcher.last + 1
    → ((dropped : List ℕ) → IsDropped a.is_long dropped → MatchOption found (SpellsNone (dropped ++ take count (rest_of a.block))) (λ request. Spells number (dropped ++ take count (rest_of a.block)) request))
    → ((asked : List (Option Request)) → Holds asked a.dispatcher → Holds (asked ++ found ∷ []) b.dispatcher) → Stands text a → Stands text b
stands_line text a b count number found begins rest short is spelled holds s =
    let line : List ℕ = s.dropped ++ begins.0 in
    let more : List ℕ = begins.1 in
    let none : HasNoFeed line = both_feedless s.dropped begins.0 s.begun begins.4 in
    let front : take count (rest_of a.block) ≡ begins.0 = front_of (rest_of a.block) count begins in
    let back : rest_of b.block ≡ more = rest ∙ back_of (rest_of a.block) count begins in
    let nth : number ≡ 1 + length s.asked = let n = s.holds.number in omega arith in
    let spells : MatchOption found (SpellsNone line) (λ request. Spells (1 + length s.asked) line request) =
    subst (λ n. MatchOption found (SpellsNone line) (λ request. Spells n line request)) nth
    (subst (λ l. MatchOption found (SpellsNone (s.dropped ++ l)) (λ request. Spells number (s.dropped ++ l) request)) front (spelled s.dropped s.long)) in
    let text_is : text ≡ (s.taken ++ (line ++ 10 ∷ [])) ++ ([] ++ rest_of b.block) =
    s.bytes ∙ ap (λ l. s.taken ++ (s.dropped ++ l)) begins.2 ∙ ap (λ l. s.taken ++ l) (sym (append_assoc s.dropped begins.0 (10 ∷ more)) ∙ sym (append_assoc line (10 ∷ []) more))
    ∙ sym (append_assoc s.taken (line ++ 10 ∷ []) more) ∙ ap (λ l. (s.taken ++ (line ++ 10 ∷ [])) ++ l) (sym back) in
    record {
      taken = s.taken ++ (line ++ 10 ∷ []);
      dropped = [];
      asked = s.asked ++ found ∷ [];
      bytes = text_is;
      ends = ends_more s.taken line s.ends none;
      begun = tt;
      long = subst (λ x. IsDropped x []) (sym short) refl;
      asks = subst (λ l. Ask 1 l (s.asked ++ found ∷ [])) (sym (lines_more s.taken line s.ends none)) (ask_more 1 (lines s.taken) s.asked (ended line) found s.asks (asks_ended (1 + length s.asked) line found spells));
      holds = holds s.asked s.holds;
    }

-- the beginning of a line was dropped
pub stands_dropped : (text : List ℕ) (a b : Splitter) → 88 < length (rest_of a.block) → HasNoFeed (rest_of a.block) → rest_of b.block ≡ [] → b.is_long ≡ true → b.dispatcher ≡ a.dispatcher → Stands text a → Stands text b
stands_dropped text a b long none rest is same s = record {
  taken = s.taken;
  dropped = s.dropped ++ rest_of a.block;
  asked = s.asked;
  bytes = s.bytes ∙ ap (λ l. s.taken ++ l) (sym (append-nil (s.dropped ++ rest_of a.block)) ∙ ap (λ l. (s.dropped ++ rest_of a.block) ++ l) (sym rest));
  ends = s.ends;
  begun = both_feedless s.dropped (rest_of a.block) s.begun none;
  long = subst (λ x. IsDropped x (s.dropped ++ rest_of a.block)) (sym is) (let n = length-append s.dropped (rest_of a.block) in omega arith);
  asks = s.asks;
  holds = subst (λ d. Holds s.asked d) (sym same) s.holds;
}

-- more bytes were read
pub stands_longer : (text bytes : List ℕ) (a b : Splitter) → rest_of b.block ≡ rest_of a.block ++ bytes → b.is_long ≡ a.is_long → b.dispatcher ≡ a.dispatcher → Stands text a → Stands (text ++ bytes) b
stands_longer text bytes a b rest long same s = record {
  taken = s.taken;
  dropped = s.dropped;
  asked = s.asked;
  bytes = ap (λ l. l ++ bytes) s.bytes ∙ append_assoc s.taken (s.dropped ++ rest_of a.block) bytes ∙ ap (λ l. s.taken ++ l) (append_assoc s.dropped (rest_of a.block) bytes ∙ ap (λ l. s.dropped ++ l) (sym rest));
  ends = s.ends;
  begun = s.begun;
  long = subst (λ x. IsDropped x s.dropped) (sym long) s.long;
  asks = s.asks;
  holds = subst (λ d. Holds s.asked d) (sym same) s.holds;
}

pub split : (before after : Option (List ℕ)) (a b : Splitter) (count : ℕ) → HasTaken before (rest_of a.block) count after (rest_of b.block) → b.is_long ≡ a.is_long → b.dispatcher ≡ a.dispatcher → HasSplit before a after b
split before after a b count t long same = (t.0, t.2, λ text s. stands_longer text t.0 a b t.3 long same s)

-- a read, whatever it answers
pub split_any : {E : Type 0} (before after : Option (List ℕ)) (a b : Splitter) (r : Result ℕ E) → IfOk r (λ count. HasTaken before (rest_of a.block) count after (rest_of b.block))
    → OnErr r ((rest_of b.block ≡ rest_of a.block) × (after ≡ before)) → b.is_long ≡ a.is_long → b.dispatcher ≡ a.dispatcher → HasSplit before a after b
split_any before after a b (Ok count) taken fault long same = split before after a b count taken long same
split_any before after a b (Err e) taken fault long same =
    ([], subst (λ o. HasRead before [] o) (sym fault.1) (read_none before), λ text s. stands_longer text [] a b (fault.0 ∙ sym (append-nil (rest_of a.block))) long same s)

-- ---- the end of the input

-- the input ended with a line feed
pub answers_all : (text : List ℕ) (a : Splitter) → a.is_long ≡ false → rest_of a.block ≡ [] → Stands text a → Answers text a.dispatcher
answers_all text a short rest s =
    let none : s.dropped ≡ [] = subst (λ b. IsDropped b s.dropped) short s.long in
    let all : text ≡ s.taken = s.bytes ∙ ap (λ l. s.taken ++ (l ++ rest_of a.block)) none ∙ ap (λ l. s.taken ++ l) rest ∙ append-nil s.taken in
    record { asked = s.asked; asks = subst (λ l. Ask 1 (lines l) s.asked) (sym all) s.asks; holds = s.holds }

not_empty : (is_long : Bool) (dropped rest : List ℕ) → IsDropped is_long dropped → (is_long ≡ false → 0 < length rest) → 0 < length (dropped ++ rest)
not_empty true dropped rest long some = let n = length-append dropped rest in omega arith
not_empty false dropped rest long some = let n = length-append dropped rest in let m = some refl in omega arith

-- the last line has no line feed
pub answers_last : (text : List ℕ) (a : Splitter) (d : Dispatcher) → (a.is_long ≡ false → 0 < length (rest_of a.block)) → HasNoFeed (rest_of a.block) → ((asked : List (Option Request)) → Holds asked a.dispatcher → Holds (asked ++ None ∷ []) d)
    → Stands text a → Answers text d
answers_last text a d some none holds s =
    let line : List ℕ = s.dropped ++ rest_of a.block in
    let feedless : HasNoFeed line = both_feedless s.dropped (rest_of a.block) s.begun none in
    let is : lines text ≡ lines s.taken ++ begun line ∷ [] =
    ap lines s.bytes ∙ s.ends line ∙ ap (λ l. lines s.taken ++ l) (last_line line feedless (not_empty a.is_long s.dropped (rest_of a.block) s.long some)) in
    record {
      asked = s.asked ++ None ∷ [];
      asks = subst (λ l. Ask 1 l (s.asked ++ None ∷ [])) (sym is) (ask_more 1 (lines s.taken) s.asked (begun line) None s.asks (asks_begun (1 + length s.asked) line));
      holds = holds s.asked s.holds;
    }

-- ---- what a search for a line feed found

pub feed_found : (bytes hay : List ℕ) (r : Option ℕ) → hay ≡ bytes → IsFirstByte (is_byte 10) hay r → IfSome r (λ count. BeginsLine count bytes)
feed_found bytes hay None same first = tt
feed_found bytes hay (Some k) same first = first_feed bytes k (subst (λ l. IsFirstByte (is_byte 10) l (Some k)) same first)

pub none_found : (bytes hay : List ℕ) (r : Option ℕ) → hay ≡ bytes → IsFirstByte (is_byte 10) hay r → IfNone r (HasNoFeed bytes)
none_found bytes hay None same first = no_feed bytes (subst (λ l. IsFirstByte (is_byte 10) l None) same first)
none_found bytes hay (Some k) same first = tt
