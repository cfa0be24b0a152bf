-- The sleeps of sessions, and the keeper that the tables refine after a call.
use Rattle.std.proofs.Common.{◌≡◌, ◌≢◌, ◌<◌, ◌≤◌, ◌⊎◌, inl, inr, ℕ, ◌+◌, ◌-◌, ◌^◌, true, false, Bool, cond, [], ◌∷◌, length, Some, None, Option, refl, ap, sym, ◌∙◌, subst, arith}
use Rattle.std.specs.Prelude.{◌==◌, ◌||◌, not, is_some, nat_eq, nat_lt, nat_le, map, set, Result, Ok, Err, IsOk, IfOk, is_err}
use Rattle.std.proofs.lemmas.Bool.{cases_eq, cases_lt}
use Rattle.std.proofs.lemmas.Bool.Decides.{leb_tells, nat_tests}
use Rattle.std.proofs.lemmas.List.{get_or-set_other, get_or-set_same, get_or_past, length-append, length-set, length-map, map-append, map-set, set-set}
use Rattle.std.proofs.Math.ListN.{get_or-map}
use Rattle.std.proofs.Math.Seq.{set-append_seam}
use Rattle.mono_model.proofs.CountLemmas.{counted, counted-count_of, count_of-with_value, count_of-with_next}
use Rattle.mono_model.specs.Table.{Table, value_at, next_number, with_next, count_of, is_full}
use Rattle.mono_model.specs.declared.error.SleepError.{SleepError}
use Rattle.mono_model.specs.declared.error.SleepError.TheVariants as why
use Rattle.mono_model.specs.declared.error.Error.TheVariants as cause
use Rattle.mono_time.specs.Sleeps.{SleepTable, Added, with_added_sleep, armed, fresh, elapsed, with_table, at_tick, changed_value, with_removed_sleep, removed_value, with_fired_sleep, kept_waker}
use Rattle.mono_time.specs.Timers.{sleeps_of, elapsed_tick}
use Rattle.mono_table.specs.Ready.{Places}
use Rattle.mono_session.specs.Keeper.{Session, Keeper, closing_tick, last_tick, with_sessions, with_greatest, without_session, if_granted, is_open, open_answer, opened, beat_answer, beaten, beaten_value, close_answer, closed}
use Rattle.mono_model.specs.Memory.{OrLacksMemory}
use Rattle.mono_session.specs.SessionSleeps.{Arms}
use Rattle.mono_session.specs.Refinement.{sleep_of, sleeps_from, limit_in, open_count, Beside, AreTimely, StandsFor}
use Rattle.mono_session.specs.declared.error.SessionError.{SessionError}
use Rattle.mono_session.specs.declared.error.SessionError.TheVariants.{Memory, AtCapacity, Invalid, ZeroLimit}
use Rattle.mono_session.specs.declared.keeper.Sessions.{Sessions}
use Rattle.mono_session.proofs.CloseLemmas.{value_before, value_last, value_past, given, open_timely, beat_timely, close_timely}

-- ---- a sleep that is armed as it is made
pub arms : (old mid new : SleepTable) (nanos-tick s : ℕ) → is_full old.table old.limit ≡ false → s ≡ next_number old.table → mid ≡ with_added_sleep old nanos-tick
    → new ≡ changed_value (value_at mid.table s) mid s (λ kept. at_tick mid.greatest nanos-tick (kept_waker kept)) → Arms old nanos-tick (Ok s) new
arms old mid new tick s full number is e = (
  full,
  number,
  e ∙ ap (λ m. changed_value (value_at m.table s) m s (λ kept. at_tick m.greatest tick (kept_waker kept))) is
      ∙ ap (λ q. changed_value (value_at (with_next old.table (fresh tick)) q) (with_added_sleep old tick) q (λ kept. at_tick old.greatest tick (kept_waker kept))) number
      ∙ ap (λ v. changed_value v (with_added_sleep old tick) (length old.table) (λ kept. at_tick old.greatest tick (kept_waker kept))) (value_last old.table (fresh tick))
      ∙ ap (with_table old) (set-append_seam old.table (Some (fresh tick)) [] (Some (at_tick old.greatest tick None))),
)

-- ---- the sleeps of a keeper's sessions
counted-map : (table : Table Session) → counted (map sleep_of table) ≡ counted table
counted-map [] = refl
counted-map (None ∷ table) = counted-map table
counted-map (Some session ∷ table) = ap (λ n. 1 + n) (counted-map table)

count-map : (table : Table Session) → count_of (map sleep_of table) ≡ count_of table
count-map table = sym (counted-count_of (map sleep_of table)) ∙ counted-map table ∙ counted-count_of table

pub full-map : (k : Keeper) → is_full (sleeps_from k).table (sleeps_from k).limit ≡ is_full k.sessions k.most_sessions
full-map k = ap (λ n. nat_le k.most_sessions n || (length (map sleep_of k.sessions) == 2 ^ 64 - 1)) (count-map k.sessions) ∙ ap (λ n. nat_le k.most_sessions (count_of k.sessions) || (n == 2 ^ 64 - 1)) (length-map k.sessions sleep_of)

pub value-map : (table : Table Session) (s : ℕ) → value_at (map sleep_of table) s ≡ sleep_of (value_at table s)
value-map table s = get_or-map sleep_of table s None

above : (g tick : ℕ) → g < tick → at_tick g tick None ≡ armed tick None
above g tick less = ap (λ b. cond b elapsed (armed tick None)) (by (leb_tells tick g))
  where
    by : ((nat_le tick g ≡ true) × (tick ≤ g)) ⊎ ((nat_le tick g ≡ false) × (g < tick)) → nat_le tick g ≡ false
    by (inl t) = absurd (omega (arith, less, t.1))
    by (inr t) = t.0

pub sleep_removed : (k : Keeper) (s : ℕ) (session : Session) → value_at k.sessions s ≡ Some session → with_removed_sleep (sleeps_from k) s ≡ sleeps_from (without_session k s)
sleep_removed k s session at =
    ap (λ v. removed_value v (sleeps_from k) s) (value-map k.sessions s ∙ ap sleep_of at)
    ∙ ap (with_table (sleeps_from k)) (sym (map-set sleep_of k.sessions s None))

pub sleep_closed : (k : Keeper) (s : ℕ) → s < length k.sessions → with_removed_sleep (with_fired_sleep (sleeps_from k) s) s ≡ sleeps_from (without_session k s)
sleep_closed k s inside =
    ap (λ v. removed_value v (with_fired_sleep (sleeps_from k) s) s) (get_or-set_same (map sleep_of k.sessions) s (Some elapsed) None (omega (arith, inside, length-map k.sessions sleep_of)))
    ∙ ap (with_table (sleeps_from k)) (set-set (map sleep_of k.sessions) s (Some elapsed) None ∙ sym (map-set sleep_of k.sessions s None))

sleep_beaten : (k : Keeper) (s tick : ℕ) (session : Session) → value_at k.sessions s ≡ Some session → tick ≡ k.greatest + session.limit → k.greatest < tick
    → changed_value (value_at (map sleep_of k.sessions) s) (sleeps_from k) s (λ kept. at_tick k.greatest tick (kept_waker kept)) ≡ sleeps_from (beaten_value (Some session) k s)
sleep_beaten k s tick session at is less =
    ap (λ v. changed_value v (sleeps_from k) s (λ kept. at_tick k.greatest tick (kept_waker kept))) (value-map k.sessions s ∙ ap sleep_of at)
    ∙ ap (λ kept. with_table (sleeps_from k) (set (map sleep_of k.sessions) s (Some kept))) (above k.greatest tick less ∙ ap (λ t. armed t None) is)
    ∙ ap (with_table (sleeps_from k)) (sym (map-set sleep_of k.sessions s (Some record { last_beat = k.greatest; limit = session.limit })))

abbrev with_new : Keeper → ℕ → Keeper
with_new k limit = with_sessions k (with_next k.sessions (record { last_beat = k.greatest; limit = limit }))

sleep_opened : (k : Keeper) (limit tick : ℕ) → tick ≡ k.greatest + limit → k.greatest < tick → with_table (sleeps_from k) (with_next (map sleep_of k.sessions) (at_tick k.greatest tick None)) ≡ sleeps_from (with_new k limit)
sleep_opened k limit tick is less =
    ap (λ kept. with_table (sleeps_from k) (with_next (map sleep_of k.sessions) kept)) (above k.greatest tick less ∙ ap (λ t. armed t None) is)
    ∙ ap (with_table (sleeps_from k)) (sym (map-append sleep_of k.sessions (Some record { last_beat = k.greatest; limit = limit } ∷ [])))

-- ---- what stays
pub beside_alike : (old new : Sessions) (k : Keeper) → new.limits.table ≡ old.limits.table → new.entries ≡ old.entries → new.most_entries ≡ old.most_entries → Beside old k → Beside new k
beside_alike old new k limits entries most beside = record {
  limits = λ q. ap (λ t. value_at t q) limits ∙ beside.limits q;
  numbers = ap length limits ∙ beside.numbers;
  open_len = ap count_of limits ∙ beside.open_len;
  entries = subst (λ e. Rattle.mono_session.specs.Entries.Entered e k.entries) (sym entries) beside.entries;
  most_entries = most ∙ beside.most_entries;
}

kept-by : {A : Type 0} (r : Result A SessionError) (e : SessionError) (before after : Keeper) → r ≡ Err e → if_granted r before after ≡ before
kept-by r e before after is = ap (λ x. if_granted x before after) is

pub granted-by : {A : Type 0} (r : Result A SessionError) (x : A) (before after : Keeper) → r ≡ Ok x → if_granted r before after ≡ after
granted-by r x before after is = ap (λ y. if_granted y before after) is

-- ---- open
abbrev open_by : Bool → Bool → Bool → ℕ → Result ℕ SessionError
open_by full late none n = cond full (Err AtCapacity) (cond late (Err Invalid) (cond none (Err ZeroLimit) (Ok n)))

pub open-full : (k : Keeper) (limit : ℕ) → is_full k.sessions k.most_sessions ≡ true → open_answer k limit ≡ Err AtCapacity
open-full k limit full = ap (λ b. open_by b (nat_lt last_tick (k.greatest + limit)) (limit == 0) (next_number k.sessions)) full

pub open-late : (k : Keeper) (limit : ℕ) → is_full k.sessions k.most_sessions ≡ false → nat_lt last_tick (k.greatest + limit) ≡ true → open_answer k limit ≡ Err Invalid
open-late k limit full late = ap (λ b. open_by b (nat_lt last_tick (k.greatest + limit)) (limit == 0) (next_number k.sessions)) full ∙ ap (λ b. open_by false b (limit == 0) (next_number k.sessions)) late

pub open-none : (k : Keeper) (limit : ℕ) → is_full k.sessions k.most_sessions ≡ false → nat_lt last_tick (k.greatest + limit) ≡ false → (limit == 0) ≡ true → open_answer k limit ≡ Err ZeroLimit
open-none k limit full late none = ap (λ b. open_by b (nat_lt last_tick (k.greatest + limit)) (limit == 0) (next_number k.sessions)) full ∙ ap (λ b. open_by false b (limit == 0) (next_number k.sessions)) late ∙ ap (λ b. open_by false false b (next_number k.sessions)) none

pub open-ok : (k : Keeper) (limit : ℕ) → is_full k.sessions k.most_sessions ≡ false → nat_lt last_tick (k.greatest + limit) ≡ false → (limit == 0) ≡ false → open_answer k limit ≡ Ok (next_number k.sessions)
open-ok k limit full late none = ap (λ b. open_by b (nat_lt last_tick (k.greatest + limit)) (limit == 0) (next_number k.sessions)) full ∙ ap (λ b. open_by false b (limit == 0) (next_number k.sessions)) late ∙ ap (λ b. open_by false false b (next_number k.sessions)) none

pub open_refused : (sessions : Sessions) (k : Keeper) (limit : ℕ) (e : SessionError) → open_answer k limit ≡ Err e → StandsFor sessions k → OrLacksMemory Memory (open_answer k limit) k (opened k limit) (StandsFor sessions) (Err e)
open_refused sessions k limit e is stands = inl (sym is, subst (StandsFor sessions) (sym (kept-by (open_answer k limit) e k (with_new k limit) is)) stands)

pub open_lacks : (sessions : Sessions) (k : Keeper) (limit : ℕ) → open_answer k limit ≡ Ok (next_number k.sessions) → StandsFor sessions k → OrLacksMemory Memory (open_answer k limit) k (opened k limit) (StandsFor sessions) (Err Memory)
open_lacks sessions k limit is stands = inr (subst (λ (r : Result ℕ SessionError). IsOk r) (sym is) refl, refl, stands)

limit_of_new : (old : Sessions) (k : Keeper) (limit q : ℕ) → Beside old k → value_at (with_next old.limits.table limit) q ≡ limit_in (value_at (with_next k.sessions (record { last_beat = k.greatest; limit = limit })) q)
limit_of_new old k limit q beside = elim (cases_lt q (length k.sessions)) [
  | inl inside ↦ value_before old.limits.table limit q (omega (arith, inside, beside.numbers)) ∙ beside.limits q ∙ sym (ap limit_in (value_before k.sessions new q inside))
  | inr past ↦ elim (cases_eq q (length k.sessions)) [
    | inl last ↦ ap (value_at (with_next old.limits.table limit)) (last ∙ sym beside.numbers) ∙ value_last old.limits.table limit
        ∙ sym (ap limit_in (ap (value_at (with_next k.sessions new)) last ∙ value_last k.sessions new))
    | inr apart ↦ value_past old.limits.table limit q (omega (arith, past, apart, beside.numbers)) ∙ sym (ap limit_in (value_past k.sessions new q (omega (arith, past, apart))))
  ]
]
  where
    new : Session
    new = record { last_beat = k.greatest; limit = limit }

nonzero : (limit g : ℕ) → (limit == 0) ≡ false → g < g + limit
nonzero limit g e = grind (arith, nat_tests)

pub opens : (old new : Sessions) (k : Keeper) (limit session tick : ℕ) → StandsFor old k → is_full k.sessions k.most_sessions ≡ false → nat_lt last_tick (k.greatest + limit) ≡ false → (limit == 0) ≡ false
    → Arms (sleeps_of old.timers) tick (Ok session) (sleeps_of new.timers) → tick ≡ k.greatest + limit
    → new.limits.table ≡ with_next old.limits.table limit
    → new.entries ≡ old.entries → new.most_entries ≡ old.most_entries → elapsed_tick new.timers ≡ elapsed_tick old.timers
    → OrLacksMemory Memory (open_answer k limit) k (opened k limit) (StandsFor new) (Ok session)
opens old new k limit session tick stands full late none armed-so is limits entries most rests =
    inl (
      ap Ok number ∙ sym told,
      subst (StandsFor new) (sym granted) (record {
        matches = record {
          sleeps = armed-so.2 ∙ ap (λ sl. with_table sl (with_next sl.table (at_tick sl.greatest tick None))) stands.matches.sleeps
              ∙ sleep_opened k limit tick is (omega (arith, is, nonzero limit k.greatest none));
          beside = record {
            limits = λ q. ap (λ t. value_at t q) limits ∙ limit_of_new old k limit q stands.matches.beside;
            numbers = ap length limits ∙ omega (arith, length-append old.limits.table (Some limit ∷ []), length-append k.sessions (Some record { last_beat = k.greatest; limit = limit } ∷ []), stands.matches.beside.numbers);
            open_len = ap count_of limits ∙ count_of-with_next old.limits.table limit ∙ ap (λ n. n + 1) stands.matches.beside.open_len ∙ sym (count_of-with_next k.sessions (record { last_beat = k.greatest; limit = limit }));
            entries = subst (λ e. Rattle.mono_session.specs.Entries.Entered e k.entries) (sym entries) stands.matches.beside.entries;
            most_entries = most ∙ stands.matches.beside.most_entries;
          };
        };
        timely = subst AreTimely granted (open_timely k limit stands.timely);
        rests = rests ∙ stands.rests;
      }),
    )
  where
    told : open_answer k limit ≡ Ok (next_number k.sessions)
    told = open-ok k limit full late none

    granted : opened k limit ≡ with_new k limit
    granted = granted-by (open_answer k limit) (next_number k.sessions) k (with_new k limit) told

    number : session ≡ length k.sessions
    number = armed-so.1 ∙ ap (λ sl. length sl.table) stands.matches.sleeps ∙ length-map k.sessions sleep_of

-- ---- beat
pub beats : (old new : Sessions) (k : Keeper) (s limit tick : ℕ) → StandsFor old k → value_at old.limits.table s ≡ Some limit → nat_lt last_tick (k.greatest + limit) ≡ false → tick ≡ k.greatest + limit
    → sleeps_of new.timers ≡ changed_value (value_at (sleeps_of old.timers).table s) (sleeps_of old.timers) s (λ kept. at_tick (sleeps_of old.timers).greatest tick (kept_waker kept))
    → new.limits ≡ old.limits → new.entries ≡ old.entries → new.most_entries ≡ old.most_entries → elapsed_tick new.timers ≡ elapsed_tick old.timers
    → (Ok tt ≡ beat_answer k s) × StandsFor new (beaten k s)
beats old new k s limit tick stands at late is sleeps limits entries most rests = by (value_at k.sessions s) refl (sym at ∙ stands.matches.beside.limits s)
  where
    by : (v : Option Session) → value_at k.sessions s ≡ v → Some limit ≡ limit_in v → (Ok tt ≡ beat_answer k s) × StandsFor new (beaten k s)
    by None here f = cc
    by (Some session) here f =
        let same : limit ≡ session.limit = cc in
        let told : beat_answer k s ≡ Ok tt = ap (λ v. Rattle.mono_session.specs.Keeper.of_open v (λ x. cond (nat_lt last_tick (k.greatest + x.limit)) (Err Invalid) (Ok tt))) here
        ∙ ap (λ b. cond b (Err Invalid) (Ok tt)) (ap (λ n. nat_lt last_tick (k.greatest + n)) (sym same) ∙ late) in
        let granted : beaten k s ≡ beaten_value (Some session) k s = granted-by (beat_answer k s) tt k (beaten_value (value_at k.sessions s) k s) told ∙ ap (λ v. beaten_value v k s) here in
        let above-now : k.greatest < tick = omega (arith, is, same, (stands.timely s session here).0, (stands.timely s session here).1) in (
          sym told,
          subst (StandsFor new) (sym granted) (record {
            matches = record {
              sleeps = sleeps ∙ ap (λ sl. changed_value (value_at sl.table s) sl s (λ kept. at_tick sl.greatest tick (kept_waker kept))) stands.matches.sleeps
                  ∙ sleep_beaten k s tick session here (is ∙ ap (λ n. k.greatest + n) same) above-now;
              beside = record {
                limits = λ q. ap (λ (m : Places ℕ). value_at m.table q) limits ∙ stands.matches.beside.limits q ∙ stays q session here;
                numbers = ap (λ (m : Places ℕ). next_number m.table) limits ∙ stands.matches.beside.numbers ∙ sym (length-set k.sessions s _);
                open_len = ap (λ (m : Places ℕ). count_of m.table) limits ∙ stands.matches.beside.open_len ∙ sym (count_of-with_value k.sessions s session (record { last_beat = k.greatest; limit = session.limit }) here);
                entries = subst (λ e. Rattle.mono_session.specs.Entries.Entered e k.entries) (sym entries) stands.matches.beside.entries;
                most_entries = most ∙ stands.matches.beside.most_entries;
              };
            };
            timely = beat_timely k s (Some session) here stands.timely;
            rests = rests ∙ stands.rests;
          }),
        )
      where
        stays : (q : ℕ) (session : Session) → value_at k.sessions s ≡ Some session → limit_in (value_at k.sessions q) ≡ limit_in (value_at (set k.sessions s (Some record { last_beat = k.greatest; limit = session.limit })) q)
        stays q session here = elim (cases_eq q s) [
          | inl same ↦ ap limit_in (ap (value_at k.sessions) same ∙ here)
              ∙ sym (ap limit_in (ap (value_at (set k.sessions s (Some record { last_beat = k.greatest; limit = session.limit }))) same ∙ get_or-set_same k.sessions s _ None (given k.sessions s session here)))
          | inr apart ↦ sym (ap limit_in (get_or-set_other k.sessions s q _ None apart))
        ]

-- ---- close
pub closes : (old new : Sessions) (k : Keeper) (s : ℕ) → StandsFor old k → is_some (value_at old.limits.table s) ≡ true → sleeps_of new.timers ≡ with_removed_sleep (sleeps_of old.timers) s → Beside new (without_session k s) → elapsed_tick new.timers ≡ elapsed_tick old.timers
    → (Ok tt ≡ close_answer k s) × StandsFor new (closed k s)
closes old new k s stands at sleeps beside rests = by (value_at k.sessions s) refl (sym at ∙ ap is_some (stands.matches.beside.limits s))
  where
    by : (v : Option Session) → value_at k.sessions s ≡ v → true ≡ is_some (limit_in v) → (Ok tt ≡ close_answer k s) × StandsFor new (closed k s)
    by None here f = cc
    by (Some session) here f =
        let told : close_answer k s ≡ Ok tt = ap (λ v. Rattle.mono_session.specs.Keeper.of_open v (λ x. Ok tt)) here in (
          sym told,
          subst (StandsFor new) (sym (granted-by (close_answer k s) tt k (without_session k s) told)) (record {
            matches = record { sleeps = sleeps ∙ ap (λ sl. with_removed_sleep sl s) stands.matches.sleeps ∙ sleep_removed k s session here; beside = beside };
            timely = close_timely k s stands.timely;
            rests = rests ∙ stands.rests;
          }),
        )

-- ---- what is read of the timers
pub greatest_told : (old : Sessions) (k : Keeper) (g : ℕ) → g ≡ (sleeps_of old.timers).greatest → StandsFor old k → g ≡ k.greatest
greatest_told old k g is stands = is ∙ ap (λ (sl : SleepTable). sl.greatest) stands.matches.sleeps

pub full_told : (old : Sessions) (k : Keeper) (b : Bool) → b ≡ is_full (sleeps_of old.timers).table (sleeps_of old.timers).limit → StandsFor old k → b ≡ is_full k.sessions k.most_sessions
full_told old k b is stands = is ∙ ap (λ (sl : SleepTable). is_full sl.table sl.limit) stands.matches.sleeps ∙ full-map k

not-true : (b : Bool) → true ≡ not b → b ≡ false
not-true true e = cc
not-true false e = refl

not-false : (b : Bool) → false ≡ not b → b ≡ true
not-false true e = refl
not-false false e = cc

pub in_time : {X : Type 0} (o : Option X) (x : X) (g tick limit : ℕ) → is_some o ≡ not (nat_lt last_tick (tick + limit)) → o ≡ Some x → tick ≡ g → nat_lt last_tick (g + limit) ≡ false
in_time o x g tick limit told is same = ap (λ n. nat_lt last_tick (n + limit)) (sym same) ∙ not-true (nat_lt last_tick (tick + limit)) (sym (ap is_some is) ∙ told)

pub too_late : {X : Type 0} (o : Option X) (g tick limit : ℕ) → is_some o ≡ not (nat_lt last_tick (tick + limit)) → o ≡ None → tick ≡ g → nat_lt last_tick (g + limit) ≡ true
too_late o g tick limit told is same = ap (λ n. nat_lt last_tick (n + limit)) (sym same) ∙ not-false (nat_lt last_tick (tick + limit)) (sym (ap is_some is) ∙ told)

pub zero-tells : (n : ℕ) → n ≡ 0 → (n == 0) ≡ true
zero-tells n e = grind (arith, nat_tests)

pub nonzero-tells : (n : ℕ) → n ≢ 0 → (n == 0) ≡ false
nonzero-tells n e = grind (arith, nat_tests)

-- ---- what is as it was
pub stands_alike : (old new : Sessions) (k : Keeper) → sleeps_of new.timers ≡ sleeps_of old.timers → new.limits.table ≡ old.limits.table → new.entries ≡ old.entries → new.most_entries ≡ old.most_entries → elapsed_tick new.timers ≡ elapsed_tick old.timers → StandsFor old k → StandsFor new k
stands_alike old new k sleeps limits entries most rests stands = record {
  matches = record { sleeps = sleeps ∙ stands.matches.sleeps; beside = beside_alike old new k limits entries most stands.matches.beside };
  timely = stands.timely;
  rests = rests ∙ stands.rests;
}

pub unchanged_by : (old new : SleepTable) (nanos : ℕ) (e : SleepError) → Added old nanos (Err e) new → new ≡ old
unchanged_by old new nanos why.Memory added = added.2
unchanged_by old new nanos (why.Timer cause.Shutdown) added = added.1
unchanged_by old new nanos (why.Timer cause.AtCapacity) added = added.2
unchanged_by old new nanos (why.Timer cause.Invalid) added = absurd added

pub ok_unless : {T E : Type 0} (r : Result T E) → is_err r ≡ false → IsOk r
ok_unless (Ok x) e = refl
ok_unless (Err x) e = cc
