-- Runs in sequence, with their sums.
use Rattle.std.proofs.Common.{◌≡◌, ℕ, zero, suc, ◌+◌, ◌*◌, ◌-◌, ◌%◌, ◌^◌, ◌<◌, ◌≤◌, List, [], ◌∷◌, ◌++◌, length, flat_map, refl, sym, ap, subst, ◌∙◌, arith, append_assoc, length-append, drop}
use Rattle.std.proofs.lemmas.List.{append-nil}
use Rattle.mono_machine.specs.Machine.{Machine, start_machine}
use Rattle.mono_machine.specs.declared.events.Blocking.TheVariants as blocking
use Rattle.mono_model.specs.Random.{seeded}
use Rattle.mono_machine.specs.Steps.{Run, Step}
use Rattle.mono_replay.specs.Refinement.{Stands}
use Rattle.mono_replay.specs.declared.executor.Exec.{Exec}
use Rattle.mono_machine.specs.declared.events.Event.{Event}
use Rattle.mono_machine.specs.declared.events.Report.{Report}
use Rattle.mono_replay.specs.Load.{load_limits, sleepers, clocks, endings, IsSummary, Goes, GoesOn, Adds, order_from, fired_in, total_of, refusals_in}
use Rattle.mono_replay.specs.declared.tallies.Tally.{Tally}

order_more : (x : ℕ) (xs ys : List ℕ) → order_from x (xs ++ ys) ≡ order_from (order_from x xs) ys
order_more x [] ys = refl
order_more x (s ∷ xs) ys = order_more ((x * 31 + s + 1) % 2 ^ 64) xs ys

pub adds_more : (a b c : Tally) (xs ys : List ℕ) (m n : ℕ) → Adds a xs m b → Adds b ys n c → Adds a (xs ++ ys) (m + n) c
adds_more a b c xs ys m n p q = record {
  fired_now = omega (arith, p.fired_now, q.fired_now, length-append xs ys);
  refused_now = omega (arith, p.refused_now, q.refused_now);
  order_now = q.order_now ∙ ap (λ x. order_from x ys) p.order_now ∙ sym (order_more a.order xs ys);
}

adds_none : (a : Tally) → Adds a [] 0 a
adds_none a = record { fired_now = omega arith; refused_now = omega arith; order_now = refl }

pub stay : (exec : Exec) (a : Tally) → Goes exec a [] exec a
stay exec a = λ m s. ([], m, refl, s, adds_none a)

-- one event, and then the others
pub first_then : (x y z : Exec) (a b c : Tally) (e : Event) (events : List Event) → GoesOn x a e y b → Goes y b events z c → Goes x a (e ∷ events) z c
first_then x y z a b c e events p q = λ m s.
    let k = p m s in
    let l = q k.1 k.3 in
    (k.0 ∷ l.0, l.1, (k.1, k.2, l.2), l.3, adds_more a b c (fired_in k.0) (flat_map fired_in l.0) (refusals_in k.0) (total_of refusals_in l.0) k.4 l.4)

run_all : (m mid new : Machine) (es fs : List Event) (rs qs : List Report) → Run m es rs mid → Run mid fs qs new → Run m (es ++ fs) (rs ++ qs) new
run_all m mid new [] fs [] qs p q = subst (λ x. Run x fs qs new) p q
run_all m mid new [] fs (r ∷ rs) qs p q = absurd p
run_all m mid new (e ∷ es) fs [] qs p q = absurd p
run_all m mid new (e ∷ es) fs (r ∷ rs) qs p q = (p.0, p.1, run_all p.0 mid new es fs rs qs p.2 q)

fired_all : (rs qs : List Report) → flat_map fired_in (rs ++ qs) ≡ flat_map fired_in rs ++ flat_map fired_in qs
fired_all [] qs = refl
fired_all (r ∷ rs) qs = ap (λ x. fired_in r ++ x) (fired_all rs qs) ∙ sym (append_assoc (fired_in r) (flat_map fired_in rs) (flat_map fired_in qs))

refused_all : (rs qs : List Report) → total_of refusals_in (rs ++ qs) ≡ total_of refusals_in rs + total_of refusals_in qs
refused_all [] qs = omega arith
refused_all (r ∷ rs) qs = omega (arith, refused_all rs qs)

-- some events, and then others
pub both : (x y z : Exec) (a b c : Tally) (es fs : List Event) → Goes x a es y b → Goes y b fs z c → Goes x a (es ++ fs) z c
both x y z a b c es fs p q = λ m s.
    let k = p m s in
    let l = q k.1 k.3 in
    let adds = adds_more a b c (flat_map fired_in k.0) (flat_map fired_in l.0) (total_of refusals_in k.0) (total_of refusals_in l.0) k.4 l.4 in
    (k.0 ++ l.0, l.1, run_all m k.1 l.1 es fs k.0 l.0 k.2 l.2, l.3, rw (fired_all k.0 l.0, refused_all k.0 l.0) adds)

-- the rest of a number of items, one less
pub one_less : (n k : ℕ) → k < n → n - k ≡ suc (n - (k + 1))
one_less n k l = omega (arith, l)

pub none_left : (n k : ℕ) → n ≤ k → n - k ≡ 0
none_left n k l = omega (arith, l)

-- the three parts in sequence
pub summed : (seed count : ℕ) (x y z w : Exec) (b c d : Tally) → Stands x (start_machine (load_limits count) blocking.Panic)
    → Goes x (record { fired = 0; refused = 0; order = 0 }) (sleepers 0 count (seeded seed)) y b → Goes y b (clocks 1 16) z c → Goes z c (endings count) w d
    → IsSummary seed count (record { events = 3 * count + 16; fired = d.fired; refused = d.refused; order = d.order })
summed seed count x y z w b c d stands p q r =
    let a : Tally = record { fired = 0; refused = 0; order = 0 } in
    let k = both x z w a c d (sleepers 0 count (seeded seed) ++ clocks 1 16) (endings count) (both x y z a b c (sleepers 0 count (seeded seed)) (clocks 1 16) p q) r (start_machine (load_limits count) blocking.Panic) stands in
    record {
      reports = k.0;
      last = k.1;
      run = k.2;
      events = refl;
      fired = omega (arith, k.4.fired_now);
      refused = omega (arith, k.4.refused_now);
      order = k.4.order_now;
    }
