-- How rounds and passes spend their budget.
use Rattle.std.proofs.Common.{◌≡◌, ◌≤◌, ◌<◌, ◌+◌, ◌-◌, ℕ, zero, suc, true, false, Bool, List, [], ◌∷◌, Some, None, refl, ap, sym, subst, ◌∙◌, arith}
use Rattle.std.specs.Prelude.{min, ◌*◌, length}
use Rattle.mono_machine.specs.Machine.{Machine}
use Rattle.mono_rt.specs.declared.parts.journals.Entry.{Entry}
use Rattle.mono_rt.specs.Rounds.{OneTurn, Turns, Round, most_turns, Remotes, Drained, ClockIf, IsPark, Parks, Pauses, Pause, cost, Pass, Passes, Rounds}
use Rattle.mono_rt.specs.Budgets.{turns_in, parks_in, Spends}

-- what leaves both counts
abbrev Same : List Entry → List Entry → Type 0
Same part rest = (turns_in part ≡ turns_in rest) × (parks_in part ≡ parks_in rest)

same_as : (part rest : List Entry) → part ≡ rest → Same part rest
same_as part rest is = (ap turns_in is, ap parks_in is)

on : (a b c : List Entry) → Same a b → Same b c → Same a c
on a b c p q = (p.0 ∙ q.0, p.1 ∙ q.1)

one_turn : (old new : Machine) (part rest : List Entry) → OneTurn old part new rest → (turns_in part ≡ 1 + turns_in rest) × (parks_in part ≡ parks_in rest)
one_turn old new part rest is = (ap turns_in is.entries, ap parks_in is.entries)

more_turns : (n a b c : ℕ) → a ≡ n + b → b ≡ 1 + c → a ≡ suc n + c
more_turns n a b c p q = omega (arith, p, q)

none_before : (a b : ℕ) → a ≡ b → a ≡ 0 + b
none_before a b is = omega (arith, is)

turns_are : (n : ℕ) (old new : Machine) (part rest : List Entry) → Turns n old part new rest → (turns_in part ≡ n + turns_in rest) × (parks_in part ≡ parks_in rest)
turns_are zero old new part rest (is, same) = (none_before (turns_in part) (turns_in rest) (ap turns_in is), ap parks_in is)
turns_are (suc n) old new part rest (mid, (left, (turns, one))) =
    let before = turns_are n old mid part left turns in
    let last = one_turn mid new left rest one in
    (more_turns n (turns_in part) (turns_in left) (turns_in rest) before.0 last.0, before.1 ∙ last.1)

within_units : (units n q left : ℕ) → n ≤ min units (2 * q + 1) → left ≡ units - n → units ≡ n + 0 + left
within_units units n q left within is = omega (arith, within, is)

no_more : (a b : ℕ) → a ≡ b → 0 + b ≤ a
no_more a b is = omega (arith, is)

round_spends : (units left : ℕ) (old new : Machine) (part rest : List Entry) → Round units left old part new rest → Spends units left part rest
round_spends units left old new part rest r =
    let are = turns_are r.turns old new part rest r.are in
    record { turns = r.turns; idle = 0; are_turns = are.0; are_parks = no_more (parks_in part) (parks_in rest) are.1; all = within_units units r.turns (length old.tasks.queue) left r.within r.units_left }

remotes_same : (ts : List ℕ) (old new : Machine) (part rest : List Entry) → Remotes ts old part new rest → Same part rest
remotes_same [] old new part rest (is, same) = same_as part rest is
remotes_same (t ∷ ts) old new part rest (told, (mid, (left, (is, step, more)))) =
    let after = remotes_same ts mid new left rest more in
    (ap turns_in is ∙ after.0, ap parks_in is ∙ after.1)

pub drained_same : (old new : Machine) (part rest : List Entry) → Drained old part new rest → Same part rest
drained_same old new part rest d =
    let before = remotes_same d.taken old d.mid part d.left d.remotes in
    (before.0 ∙ ap turns_in d.entry, before.1 ∙ ap parks_in d.entry)

clock_same : (h : Bool) (old new : Machine) (part rest : List Entry) → ClockIf h old part new rest → Same part rest
clock_same false old new part rest (is, same) = same_as part rest is
clock_same true old new part rest (n, (fired, (is, step))) = (ap turns_in is, ap parks_in is)

pub parks_one : (h : Bool) (old new : Machine) (part rest : List Entry) → Parks h old part new rest → (turns_in part ≡ turns_in rest) × (parks_in part ≡ 1 + parks_in rest)
parks_one h old new part rest p =
    let entries = p.parks.1.1.1.0 in
    let more = on p.left p.after rest (drained_same p.parked p.drained p.left p.after p.drains) (clock_same h p.drained new p.after rest p.clock) in
    (ap turns_in entries ∙ more.0, ap parks_in entries ∙ ap (λ n. 1 + n) more.1)

at_most_one : (a b : List ℕ) → cost a b ≤ 1
at_most_one [] [] = omega arith
at_most_one [] (x ∷ xs) = omega arith
at_most_one (x ∷ xs) b = omega arith

one_park : (k a b : ℕ) → k ≤ 1 → a ≡ 1 + b → k + b ≤ a
one_park k a b below is = omega (arith, below, is)

-- between two rounds a unit is spent only by a park
pauses_spend : (h : Bool) (queue after : List ℕ) (old new : Machine) (part rest : List Entry) → Pauses h queue old part new rest → (turns_in part ≡ turns_in rest) × (cost queue after + parks_in rest ≤ parks_in part)
pauses_spend h [] after old new part rest p =
    let one = parks_one h old new part rest p in
    (one.0, one_park (cost [] after) (parks_in part) (parks_in rest) (at_most_one [] after) one.1)
pauses_spend h (x ∷ xs) after old new part rest p =
    let same = drained_same old new part rest p in
    (same.0, no_more (parks_in part) (parks_in rest) same.1)

passed_turns : (a b c n : ℕ) → a ≡ b → b ≡ n + c → a ≡ n + c
passed_turns a b c n p q = omega (arith, p, q)

passed_parks : (k i a b c : ℕ) → k + b ≤ a → i + c ≤ b → (k + i) + c ≤ a
passed_parks k i a b c p q = omega (arith, p, q)

passed_all : (units k n i left : ℕ) → k ≤ 1 → 0 < units → units - k ≡ n + i + left → units ≡ n + (k + i) + left
passed_all units k n i left below some is = omega (arith, below, some, is)

pass_spends : (h : Bool) (units left : ℕ) (old new : Machine) (part rest : List Entry) → 0 < units → Pass h units left old part new rest → Spends units left part rest
pass_spends h units left old new part rest some p =
    let k = cost old.tasks.queue p.paused.tasks.queue in
    let paused = pauses_spend h old.tasks.queue p.paused.tasks.queue old p.paused part p.behind p.pause in
    let round = round_spends (units - k) left p.paused new p.behind rest p.round in
    record {
      turns = round.turns;
      idle = k + round.idle;
      are_turns = passed_turns (turns_in part) (turns_in p.behind) (turns_in rest) round.turns paused.0 round.are_turns;
      are_parks = passed_parks k round.idle (parks_in part) (parks_in p.behind) (parks_in rest) paused.1 round.are_parks;
      all = passed_all units k round.turns round.idle left (at_most_one old.tasks.queue p.paused.tasks.queue) some round.all;
    }

both_turns : (a b c m n : ℕ) → a ≡ m + b → b ≡ n + c → a ≡ (m + n) + c
both_turns a b c m n p q = omega (arith, p, q)

both_all : (units mid left m i n k : ℕ) → units ≡ m + i + mid → mid ≡ n + k + left → units ≡ (m + n) + (i + k) + left
both_all units mid left m i n k p q = omega (arith, p, q)

spends_on : (units mid left : ℕ) (part more rest : List Entry) → Spends units mid part more → Spends mid left more rest → Spends units left part rest
spends_on units mid left part more rest p q = record {
  turns = p.turns + q.turns;
  idle = p.idle + q.idle;
  are_turns = both_turns (turns_in part) (turns_in more) (turns_in rest) p.turns q.turns p.are_turns q.are_turns;
  are_parks = passed_parks p.idle q.idle (parks_in part) (parks_in more) (parks_in rest) p.are_parks q.are_parks;
  all = both_all units mid left p.turns p.idle q.turns q.idle p.all q.all;
}

nothing_spent : (n : ℕ) → n ≡ 0 + 0 + n
nothing_spent n = omega arith

passes_spend : (h : Bool) (main n units left : ℕ) (old new : Machine) (part rest : List Entry) → Passes h main n units left old part new rest → Spends units left part rest
passes_spend h main zero units left old new part rest (is, same, kept) =
    subst (λ xs. Spends units left part xs) is (subst (λ x. Spends units x part part) (sym kept)
    (record { turns = 0; idle = 0; are_turns = none_before (turns_in part) (turns_in part) refl; are_parks = no_more (parks_in part) (parks_in part) refl; all = nothing_spent units }))
passes_spend h main (suc n) units left old new part rest (mid, (more, (kept, (before, (unfinished, (some, pass)))))) =
    spends_on units kept left part more rest (passes_spend h main n units kept old mid part more before) (pass_spends h kept left mid new more rest some pass)

pub rounds_spend : (h : Bool) (main units left : ℕ) (old new : Machine) (part rest : List Entry) → Rounds h main units left old part new rest → Spends units left part rest
rounds_spend h main units left old new part rest r =
    spends_on units r.kept left part r.more rest (round_spends units r.kept old r.mid part r.more r.first) (passes_spend h main r.count r.kept left r.mid new r.more rest r.passes)
