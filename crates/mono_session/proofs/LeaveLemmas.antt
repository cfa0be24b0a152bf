-- A session leaves all queues, one key after another.
use Rattle.std.proofs.Common.{arith, ◌≡◌, ◌≤◌, ◌+◌, ℕ, Bool, true, false, cond, not, ◌==◌, ◌&&◌, List, [], ◌∷◌, ◌++◌, filter, map, Option, Some, None, refl, sym, ap, subst, ◌∙◌, append_assoc, append-nil}
use Rattle.std.specs.Prelude.{is_some}
use Rattle.mono_model.specs.Table.{value_at, next_number, count_of, without}
use Rattle.mono_time.specs.Timers.{sleeps_of, elapsed_tick}
use Rattle.mono_table.specs.Ready.{Places}
use Rattle.mono_session.specs.Keeper.{Entry, Keeper, with_entries, with_sessions, with_greatest, without_session, is_entry, first_of}
use Rattle.mono_session.specs.Entries.{keys_in, without_first, Entered}
use Rattle.mono_session.specs.Links.{is_in, IsOnce}
use Rattle.mono_session.specs.Steps.{without_all}
use Rattle.mono_session.specs.Holders.{without_key, leaves}
use Rattle.mono_session.specs.Refinement.{Beside, StandsFor}
use Rattle.mono_session.specs.declared.entries.Entries.{Entries}
use Rattle.mono_session.specs.declared.keeper.Sessions.{Sessions}
use Rattle.mono_session.proofs.CallHistoryLemmas.{eq-tells}
use Rattle.mono_session.proofs.EntryLemmas.{stands-keys, none_released, others_stay, all_stay}

-- The entries of other sessions, and those without one entry.
abbrev pub others : ℕ → List Entry → List Entry
others s es = filter (λ entry. not (entry.session == s)) es

abbrev pub without_one : ℕ → ℕ → List Entry → List Entry
without_one s key es = filter (λ entry. not (is_entry s key entry)) es

pub none_leaves : (es : List Entry) (s key : ℕ) → is_in (keys_in es s) key ≡ false → without_one s key es ≡ es
none_leaves es s key out = none_released es s key (stands-keys es s key ∙ out)

-- The keys of a session that left the queue of the first of them.
pub keys_after : (es : List Entry) (s key : ℕ) → IsOnce (keys_in es s) → Some key ≡ first_of (keys_in es s) → keys_in es s ≡ key ∷ keys_in (without_one s key es) s
keys_after [] s key once first = cc first
keys_after (e ∷ es) s key once first = by (e.session == s) refl once first (keys_after es s key)
  where
    by : (b : Bool) → (e.session == s) ≡ b → IsOnce (cond b (e.key ∷ keys_in es s) (keys_in es s)) → Some key ≡ first_of (cond b (e.key ∷ keys_in es s) (keys_in es s))
        → (IsOnce (keys_in es s) → Some key ≡ first_of (keys_in es s) → keys_in es s ≡ key ∷ keys_in (without_one s key es) s)
        → cond b (e.key ∷ keys_in es s) (keys_in es s) ≡ key ∷ keys_in (cond (not (b && (e.key == key))) (e ∷ without_one s key es) (without_one s key es)) s
    by true own once first rest =
        let same : key ≡ e.key = cc first in
        let stay : without_one s key es ≡ es = none_leaves es s key (ap (is_in (keys_in es s)) same ∙ once.0) in
        ap (λ x. x ∷ keys_in es s) (sym same) ∙ ap (λ l. key ∷ keys_in l s) (sym stay)
        ∙ sym (ap (λ t. key ∷ keys_in (cond (not t) (e ∷ without_one s key es) (without_one s key es)) s) (eq-tells e.key key (sym same)))
    by false other once first rest =
        rest once first ∙ sym (ap (λ t. key ∷ cond t (e.key ∷ keys_in (without_one s key es) s) (keys_in (without_one s key es) s)) other)

pub no_keys : (keys : List ℕ) → None ≡ first_of keys → keys ≡ []
no_keys [] none = refl
no_keys (key ∷ keys) none = cc none

pub others_twice : (s : ℕ) (es : List Entry) → others s (others s es) ≡ others s es
others_twice s [] = refl
others_twice s (e ∷ es) = by (e.session == s) refl (others_twice s es)
  where
    by : (b : Bool) → (e.session == s) ≡ b → others s (others s es) ≡ others s es → others s (cond (not b) (e ∷ others s es) (others s es)) ≡ cond (not b) (e ∷ others s es) (others s es)
    by true own rest = rest
    by false other rest = ap (λ t. cond (not t) (e ∷ others s (others s es)) (others s (others s es))) other ∙ ap (λ l. e ∷ l) rest

-- A session leaves the first of its queues, and in the end all.
pub others_first : (es : List Entry) (s : ℕ) (key : Option ℕ) → others s (without_first s key es) ≡ others s es
others_first es s None = refl
others_first es s (Some key) = others_stay es s key

pub all_left : (kept : Entries) (stay entries : List Entry) (s : ℕ) (key : Option ℕ) → key ≡ None → key ≡ first_of (keys_in stay s) → Entered kept (without_first s key stay) → others s stay ≡ others s entries
    → Entered kept (others s entries)
all_left kept stay entries s key none first entered same =
    subst (Entered kept) (sym (all_stay stay s (sym none ∙ first)) ∙ same) (subst (λ k. Entered kept (without_first s k stay)) none entered)

pub is_none : (key : Option ℕ) → is_some key ≡ false → key ≡ None
is_none None none = refl
is_none (Some key) none = cc none

pub at_most : (was : Bool) (new old : ℕ) → new + cond was 1 0 ≡ old → new ≤ old
at_most true new old count = omega (arith, count)
at_most false new old count = omega (arith, count)

-- ---- the keys that sessions leave

-- The session with each of these keys.
abbrev pub with_keys : ℕ → List ℕ → List (ℕ × ℕ)
with_keys s keys = map (λ key. (s, key)) keys

-- The first key is listed, and the others are left to list.
pub listed_next : (s key : ℕ) (keys rest : List ℕ) (between after all : List (ℕ × ℕ)) → keys ≡ key ∷ rest → after ≡ between ++ (s, key) ∷ [] → between ++ with_keys s keys ≡ all → after ++ with_keys s rest ≡ all
listed_next s key keys rest between after all first told so_far =
    ap (λ xs. xs ++ with_keys s rest) told ∙ append_assoc between ((s, key) ∷ []) (with_keys s rest) ∙ sym (ap (λ ks. between ++ with_keys s ks) first) ∙ so_far

-- All keys are listed.
pub listed_all : (s : ℕ) (keys : List ℕ) (now all : List (ℕ × ℕ)) → None ≡ first_of keys → now ++ with_keys s keys ≡ all → now ≡ all
listed_all s keys now all none so_far = sym (append-nil now) ∙ sym (ap (λ ks. now ++ with_keys s ks) (no_keys keys none)) ∙ so_far

-- One more session leaves its queues.
pub leaves-push : (k : Keeper) (due : List ℕ) (s : ℕ) → leaves k (due ++ s ∷ []) ≡ leaves k due ++ with_keys s (keys_in (without_all k due).entries s)
leaves-push k [] s = append-nil (with_keys s (keys_in k.entries s))
leaves-push k (x ∷ due) s =
    ap (λ xs. with_keys x (keys_in k.entries x) ++ xs) (leaves-push (without_session k x) due s)
    ∙ sym (append_assoc (with_keys x (keys_in k.entries x)) (leaves (without_session k x) due) (with_keys s (keys_in (without_all (without_session k x) due).entries s)))

-- The clock changes no queue.
pub leaves_greatest : (k : Keeper) (tick : ℕ) (due : List ℕ) → leaves (with_greatest k tick) due ≡ leaves k due
leaves_greatest k tick [] = refl
leaves_greatest k tick (s ∷ due) = ap (λ xs. with_keys s (keys_in k.entries s) ++ xs) (leaves_greatest (without_session k s) tick due)

-- A session that left all queues is closed.
pub without_left : (k : Keeper) (s : ℕ) → without_session (with_entries k (others s k.entries)) s ≡ without_session k s
without_left k s = ap (λ es. with_entries (with_sessions k (without k.sessions s)) es) (others_twice s k.entries)

-- One more session is listed with its keys.
pub leaves_on : (start : Keeper) (due : List ℕ) (s : ℕ) (before now next : List (ℕ × ℕ)) (mid : Keeper) → mid ≡ without_all start due → next ≡ now ++ with_keys s (keys_in mid.entries s) → now ≡ before ++ leaves start due
    → next ≡ before ++ leaves start (due ++ s ∷ [])
leaves_on start due s before now next mid same told so_far =
    told ∙ ap (λ xs. xs ++ with_keys s (keys_in mid.entries s)) so_far ∙ append_assoc before (leaves start due) (with_keys s (keys_in mid.entries s))
    ∙ ap (λ (k : Keeper). before ++ (leaves start due ++ with_keys s (keys_in k.entries s))) same ∙ sym (ap (λ xs. before ++ xs) (leaves-push start due s))

-- Only the entries changed.
pub beside_entries : (old new : Sessions) (k : Keeper) (es : List Entry) → new.limits ≡ old.limits → new.most_entries ≡ old.most_entries → Entered new.entries es → Beside old k → Beside new (with_entries k es)
beside_entries old new k es limits most entered beside = record {
  limits = λ q. ap (λ (m : Places ℕ). value_at m.table q) limits ∙ beside.limits q;
  numbers = ap (λ (m : Places ℕ). next_number m.table) limits ∙ beside.numbers;
  open_len = ap (λ (m : Places ℕ). count_of m.table) limits ∙ beside.open_len;
  entries = entered;
  most_entries = most ∙ beside.most_entries;
}

stands_entries : (old new : Sessions) (k : Keeper) (es : List Entry) → new.timers ≡ old.timers → new.limits ≡ old.limits → new.most_entries ≡ old.most_entries
    → StandsFor old k → Entered new.entries es → StandsFor new (with_entries k es)
stands_entries old new k es timers limits most stands entered = record {
  matches = record {
    sleeps = ap sleeps_of timers ∙ stands.matches.sleeps;
    beside = beside_entries old new k es limits most entered stands.matches.beside;
  };
  timely = stands.timely;
  rests = ap elapsed_tick timers ∙ stands.rests;
}

-- The session has left its first queue, if any.
pub stands_first : (old new : Sessions) (k : Keeper) (s : ℕ) (key : Option ℕ) → new.timers ≡ old.timers → new.limits ≡ old.limits → new.most_entries ≡ old.most_entries
    → StandsFor old k → Entered new.entries (without_first s key k.entries) → StandsFor new (without_key k s key)
stands_first old new k s key timers limits most stands entered = by key entered
  where
    by : (key : Option ℕ) → Entered new.entries (without_first s key k.entries) → StandsFor new (without_key k s key)
    by None entered = stands_entries old new k k.entries timers limits most stands entered
    by (Some key) entered = stands_entries old new k (without_one s key k.entries) timers limits most stands entered
