-- The count of turns rises by the turns of the history.
use Rattle.std.proofs.Common.{◌≡◌, ◌≤◌, ◌+◌, ◌-◌, ℕ, Bool, true, false, List, [], ◌∷◌, Option, Some, None, refl, ap, sym, subst, ◌∙◌, arith, inl, inr}
use Rattle.std.specs.Prelude.{◌^◌, ◌⊎◌, min, Result, Ok, Err}
use Rattle.mono_model.specs.declared.Ended.{Ended}
use Rattle.mono_model.specs.declared.poll.Poll.{Poll}
use Rattle.mono_model.specs.declared.poll.Poll.TheVariants.{Ready, Pending}
use Rattle.mono_task.specs.Members.{FutureOf, SharedOf}
use Rattle.mono_task.specs.Schedule.{Schedule, begin_answer, after_begin, begun_by, front_of, after_end, ended_by, one_more_turn}
use Rattle.mono_time.specs.declared.instant.Instant.{Instant}
use Rattle.mono_machine.specs.Machine.{Machine}
use Rattle.mono_machine.specs.declared.events.End.{End}
use Rattle.mono_blocking.specs.JobSpawns.{Seen}
use Rattle.mono_rt.specs.Budgets.{turns_in}
use Rattle.mono_rt.specs.TurnCounts.{CountsTurns}
use Rattle.mono_rt.specs.Record.{Record}
use Rattle.mono_rt.specs.Refinement.{hosting_of, Matches}
use Rattle.mono_rt.specs.Reaches.{ReachesSharing}
use Rattle.mono_rt.specs.Turns.{PaysAndPauses, AfterPoll, UnlessSpent, Runs, Turn}
use Rattle.mono_rt.specs.Journals.{Does, Stays}
use Rattle.mono_rt.specs.SpawnErrors.{OnCapacity, OnMemory}
use Rattle.mono_rt.specs.Rounds.{OneTurn, IsPark, ParkedDrained, ParkBreaks, ParkFails, Pauses, PausesBreak, PausesFail, Pause, PauseBreaks, PauseFails, PauseEnds, IsSpawn, IsRefused, IsDrop, DropsFor}
use Rattle.mono_rt.specs.declared.contexts.Cx.{Cx}
use Rattle.mono_rt.specs.declared.parts.state.Parts.{Parts}
use Rattle.mono_rt.specs.declared.parts.errors.RunError.{RunError}
use Rattle.mono_rt.specs.declared.parts.errors.RunError.TheVariants as error
use Rattle.mono_rt.specs.declared.parts.journals.Entry.{Entry}
use Rattle.mono_rt.specs.declared.parts.journals.Journal.{Journal}
use Rattle.mono_rt.proofs.BudgetLemmas.{drained_same, parks_one}
use Rattle.mono_rt.proofs.RoundLemmas.{Relation, does_on, does_more}

-- the count at the start and at the end of a turn
no_front : (t : ℕ) → front_of [] ≡ Ok t → ⊥
no_front t e = cc

begun_turns : {O : Type 0} (queue : List ℕ) (s : Schedule O) (t : ℕ) → front_of queue ≡ Ok t → (begun_by queue s).turns ≡ one_more_turn s.turns
begun_turns [] s t front = absurd (no_front t front)
begun_turns (x ∷ rest) s t front = refl

ended_turns : {O : Type 0} (turn : Option ℕ) (s : Schedule O) (end : Poll O) → (ended_by turn s end).turns ≡ s.turns
ended_turns None s end = refl
ended_turns (Some t) s end = refl

module _ {F O P U W J A V : Type 0} (number : O → ℕ) (sharing : SharedOf W) (future : FutureOf F (Cx F O P U W J A V) O) where
  paused_turns : (b d : Cx F O P U W J A V) (t : ℕ) (f : Option F) (ended : Ended) → PaysAndPauses number sharing t f ended b d → d.parts.tasks.turns ≡ b.parts.tasks.turns
  paused_turns b d t f ended (paid, (pays, pauses)) = ap (λ s. s.turns) pauses.parts.tasks ∙ ended_turns paid.parts.tasks.turn paid.parts.tasks Pending ∙ pays.paying.parts.same_turns

  rest_turns : (answer : Poll O) (x d : Cx F O P U W J A V) (t : ℕ) (g : F) (ended : Ended) → AfterPoll number sharing future answer t g ended x d → d.parts.tasks.turns ≡ x.parts.tasks.turns
  rest_turns Pending x d t g ended rest = paused_turns x d t (Some g) ended rest
  rest_turns (Ready output) x d t g ended (e, cancels, on, (paid, (pays, completes))) = ap (λ s. s.turns) completes.parts.tasks ∙ ended_turns paid.parts.tasks.turn paid.parts.tasks (Ready output) ∙ pays.paying.parts.same_turns ∙ on.parts.same_turns

  spent_turns : (s : Bool) (b d : Cx F O P U W J A V) (t : ℕ) (f : F) (e : End) (ended : Ended) → UnlessSpent number sharing future s t f e ended b d → d.parts.tasks.turns ≡ b.parts.tasks.turns
  spent_turns true b d t f e ended runs = paused_turns b d t (Some f) ended runs.1
  spent_turns false b d t f e ended runs = rest_turns runs.answer runs.middle d t runs.left ended runs.rest ∙ runs.reached.parts.same_turns

  ran_turns : (f : Option F) (b d : Cx F O P U W J A V) (t : ℕ) (e : End) (ended : Ended) → Runs number sharing future f t e ended b d → d.parts.tasks.turns ≡ b.parts.tasks.turns
  ran_turns None b d t e ended runs = paused_turns b d t None ended runs.1
  ran_turns (Some f) b d t e ended runs = spent_turns (future.is_spent f) b d t f e ended runs

  pub one_turn_more : (t : ℕ) (now : Instant) (acts : Record) (e : End) (ended : Ended) (c d : Cx F O P U W J A V) → Turn number sharing future t now acts e ended c d → d.parts.tasks.turns ≡ one_more_turn c.parts.tasks.turns
  one_turn_more t now acts e ended c d turn =
      ran_turns _ turn.begun d t e ended turn.runs ∙ ap (λ s. s.turns) turn.begins.parts.tasks ∙ begun_turns c.parts.tasks.tasks.queue c.parts.tasks t turn.begins.parts.front

-- no turn is among the entries of a pause
stays_none : (m new : Machine) (part rest : List Entry) → Stays m part new rest → turns_in part ≡ turns_in rest
stays_none m new part rest is = ap turns_in is.0

park_none : (h : Bool) (m new : Machine) (part rest : List Entry) → IsPark h m part new rest → turns_in part ≡ turns_in rest
park_none h m new part rest is = ap turns_in is.1.1.1.0

parked_none : (h : Bool) (m new : Machine) (part rest : List Entry) → ParkedDrained h m part new rest → turns_in part ≡ turns_in rest
parked_none h m new part rest is = ap turns_in is.parks.1.1.1.0 ∙ (drained_same is.parked new is.left rest is.drains).0

pause_none : (h : Bool) (queue : List ℕ) (m new : Machine) (part rest : List Entry) → Pauses h queue m part new rest → turns_in part ≡ turns_in rest
pause_none h [] m new part rest is = (parks_one h m new part rest is).0
pause_none h (x ∷ xs) m new part rest is = (drained_same m new part rest is).0

fails_none : (h : Bool) (queue : List ℕ) (m new : Machine) (part rest : List Entry) → PausesFail h queue m part new rest → turns_in part ≡ turns_in rest
fails_none h [] m new part rest (inl whole) = (parks_one h m new part rest whole).0
fails_none h [] m new part rest (inr (inl park)) = park_none h m new part rest park
fails_none h [] m new part rest (inr (inr parked)) = parked_none h m new part rest parked
fails_none h (x ∷ xs) m new part rest (inl drained) = (drained_same m new part rest drained).0
fails_none h (x ∷ xs) m new part rest (inr stays) = stays_none m new part rest stays

breaks_none : (h : Bool) (queue : List ℕ) (m new : Machine) (part rest : List Entry) → PausesBreak h queue m part new rest → turns_in part ≡ turns_in rest
breaks_none h [] m new part rest (inl stays) = stays_none m new part rest stays
breaks_none h [] m new part rest (inr (inl park)) = park_none h m new part rest park
breaks_none h [] m new part rest (inr (inr parked)) = parked_none h m new part rest parked
breaks_none h (x ∷ xs) m new part rest stays = stays_none m new part rest stays

ended_none : (h : Bool) (r : Result Bool RunError) (m new : Machine) (part rest : List Entry) → PauseEnds h r m part new rest → turns_in part ≡ turns_in rest
ended_none h (Ok spent) m new part rest is = pause_none h m.tasks.queue m new part rest is
ended_none h (Err error.Driver) m new part rest is = fails_none h m.tasks.queue m new part rest is
ended_none h (Err error.Memory) m new part rest is = breaks_none h m.tasks.queue m new part rest is
ended_none h (Err error.Turns) m new part rest is = absurd is
ended_none h (Err error.AtCapacity) m new part rest is = absurd is

drop_none : (main : ℕ) (w : Option ℕ) (m new : Machine) (part rest : List Entry) → DropsFor main w m part new rest → turns_in part ≡ turns_in rest
drop_none main (Some output) m new part rest is = ap turns_in is.0
drop_none main None m new part rest is = ap turns_in is.1.0

still_counted : (before now : ℕ) → now ≡ before → before ≤ 2 ^ 64 - 1 → now ≡ min (before + 0) (2 ^ 64 - 1)
still_counted before now same below = omega (arith, same, below)

none_before : (a b : ℕ) → a ≡ b → a ≡ 0 + b
none_before a b is = omega (arith, is)

within : (a b n : ℕ) → b ≡ min (a + n) (2 ^ 64 - 1) → b ≤ 2 ^ 64 - 1
within a b n is = omega (arith, is)

both_counted : (a b c n k : ℕ) → b ≡ min (a + n) (2 ^ 64 - 1) → c ≡ min (b + k) (2 ^ 64 - 1) → c ≡ min (a + (n + k)) (2 ^ 64 - 1)
both_counted a b c n k p q = omega (arith, p, q)

both_turns : (a b c m n : ℕ) → a ≡ m + b → b ≡ n + c → a ≡ (m + n) + c
both_turns a b c m n p q = omega (arith, p, q)

counts_both : (a b c : ℕ) (m mid new : Machine) (xs ys zs : List Entry) → CountsTurns a b m xs mid ys → CountsTurns b c mid ys new zs → CountsTurns a c m xs new zs
counts_both a b c m mid new xs ys zs p q = record {
  turns = p.turns + q.turns;
  are = both_turns (turns_in xs) (turns_in ys) (turns_in zs) p.turns q.turns p.are q.are;
  counted = λ below. both_counted a b c p.turns q.turns (p.counted below) (q.counted (within a b p.turns (p.counted below)));
}

counts_none : (a b : ℕ) (m new : Machine) (xs zs : List Entry) → b ≡ a → turns_in xs ≡ turns_in zs → CountsTurns a b m xs new zs
counts_none a b m new xs zs same none = record { turns = 0; are = none_before (turns_in xs) (turns_in zs) none; counted = still_counted a b same }

module _ {O P : Type 0} (number : O → ℕ) where
  pub counts_on : (a b c : Parts O (Seen P)) (i j k : Journal) → Does number (CountsTurns a.tasks.turns b.tasks.turns) a b i j → Does number (CountsTurns b.tasks.turns c.tasks.turns) b c j k → Does number (CountsTurns a.tasks.turns c.tasks.turns) a c i k
  counts_on a b c i j k p q = does_on number (CountsTurns a.tasks.turns b.tasks.turns) (CountsTurns b.tasks.turns c.tasks.turns) (CountsTurns a.tasks.turns c.tasks.turns) a b c i j k
      (λ m mid new xs ys zs stm std stn first second. counts_both a.tasks.turns b.tasks.turns c.tasks.turns m mid new xs ys zs first second) p q

  counts_by : (R : Relation) → ((m new : Machine) (xs zs : List Entry) → R m xs new zs → turns_in xs ≡ turns_in zs) → (c d : Parts O (Seen P)) (j k : Journal) → d.tasks.turns ≡ c.tasks.turns → Does number R c d j k → Does number (CountsTurns c.tasks.turns d.tasks.turns) c d j k
  counts_by R none c d j k same p = does_more number R (CountsTurns c.tasks.turns d.tasks.turns) c d j k (λ m new xs zs stm stn is. counts_none c.tasks.turns d.tasks.turns m new xs zs same (none m new xs zs is)) p

  pub counts_stays : (c d : Parts O (Seen P)) (j k : Journal) → d.tasks.turns ≡ c.tasks.turns → Does number Stays c d j k → Does number (CountsTurns c.tasks.turns d.tasks.turns) c d j k
  counts_stays = counts_by Stays stays_none

  pub counts_pause : (h : Bool) (r : Result Bool RunError) (c d : Parts O (Seen P)) (j k : Journal) → d.tasks.turns ≡ c.tasks.turns → Does number (PauseEnds h r) c d j k → Does number (CountsTurns c.tasks.turns d.tasks.turns) c d j k
  counts_pause h r = counts_by (PauseEnds h r) (ended_none h r)

  pub counts_spawn : (t : ℕ) (c d : Parts O (Seen P)) (j k : Journal) → d.tasks.turns ≡ c.tasks.turns → Does number (IsSpawn t) c d j k → Does number (CountsTurns c.tasks.turns d.tasks.turns) c d j k
  counts_spawn t = counts_by (IsSpawn t) (λ m new xs zs is. ap turns_in is.0)

  pub counts_refused : (c d : Parts O (Seen P)) (j k : Journal) → d.tasks.turns ≡ c.tasks.turns → Does number IsRefused c d j k → Does number (CountsTurns c.tasks.turns d.tasks.turns) c d j k
  counts_refused = counts_by IsRefused (λ m new xs zs is. ap turns_in is.0)

  pub counts_drop : (main : ℕ) (w : Option ℕ) (c d : Parts O (Seen P)) (j k : Journal) → d.tasks.turns ≡ c.tasks.turns → Does number (DropsFor main w) c d j k → Does number (CountsTurns c.tasks.turns d.tasks.turns) c d j k
  counts_drop main w = counts_by (DropsFor main w) (drop_none main w)

  pub counts_turn : (c d : Parts O (Seen P)) (j k : Journal) → d.tasks.turns ≡ one_more_turn c.tasks.turns → Does number OneTurn c d j k → Does number (CountsTurns c.tasks.turns d.tasks.turns) c d j k
  counts_turn c d j k more p = does_more number OneTurn (CountsTurns c.tasks.turns d.tasks.turns) c d j k (λ m new xs zs stm stn is. record { turns = 1; are = ap turns_in is.entries; counted = λ below. more }) p

  -- no main task was made, by the error
  pub counts_unmade : (cause : RunError) (c d : Parts O (Seen P)) (j k : Journal) → d.tasks.turns ≡ c.tasks.turns → OnCapacity cause (Does number IsRefused c d j k) → OnMemory cause (Does number Stays c d j k) → Does number (CountsTurns c.tasks.turns d.tasks.turns) c d j k
  counts_unmade error.Memory c d j k same refused stays = counts_stays c d j k same stays
  counts_unmade error.AtCapacity c d j k same refused stays = counts_refused c d j k same refused
  counts_unmade error.Driver c d j k same refused stays = absurd refused
  counts_unmade error.Turns c d j k same refused stays = absurd refused
