-- The list of the tasks that ended grows by the turns that ended ready.
use Rattle.std.proofs.Common.{◌≡◌, ℕ, Bool, true, false, List, [], ◌∷◌, ◌++◌, Option, Some, None, refl, ap, sym, subst, ◌∙◌, append_assoc, append-nil, inl, inr}
use Rattle.std.specs.Prelude.{◌⊎◌, Result, Ok, Err}
use Rattle.mono_model.specs.declared.Ended.{Ended}
use Rattle.mono_machine.specs.Machine.{Machine}
use Rattle.mono_machine.specs.declared.events.End.{End}
use Rattle.mono_machine.specs.declared.events.Event.TheVariants as event
use Rattle.mono_machine.specs.declared.events.Reply.{Reply}
use Rattle.mono_machine.specs.declared.events.Report.TheVariants as report
use Rattle.mono_machine.specs.declared.events.TurnStep.{TurnStep}
use Rattle.mono_blocking.specs.JobSpawns.{Seen}
use Rattle.mono_rt.specs.EndedTasks.{all_in, closed_in, ended_at, ended_in, ListsEnded}
use Rattle.mono_rt.specs.Journals.{Does, Stays, IsReading, IsStep}
use Rattle.mono_rt.specs.SpawnErrors.{OnCapacity, OnMemory}
use Rattle.mono_rt.specs.Rounds.{IsPark, Remotes, Drained, ClockIf, Parks, ParkedDrained, Pauses, PausesBreak, PausesFail, PauseEnds, IsSpawn, IsRefused, DropsFor}
use Rattle.mono_rt.specs.declared.parts.state.Parts.{Parts}
use Rattle.mono_rt.specs.declared.parts.errors.RunError.{RunError}
use Rattle.mono_rt.specs.declared.parts.errors.RunError.TheVariants as error
use Rattle.mono_rt.specs.declared.parts.journals.Entry.{Entry}
use Rattle.mono_rt.specs.declared.parts.journals.Journal.{Journal}
use Rattle.mono_rt.specs.Views.{ended_tasks, ClosesEnded}
use Rattle.mono_rt.specs.declared.runtimes.Runtime.{Runtime}
use Rattle.mono_rt.proofs.RoundLemmas.{Relation, does_on, does_more}

-- no turn is among the entries of a pause
stays_none : (m new : Machine) (part rest : List Entry) → Stays m part new rest → ended_in part ≡ ended_in rest
stays_none m new part rest is = ap ended_in is.0

remotes_none : (ts : List ℕ) (m new : Machine) (part rest : List Entry) → Remotes ts m part new rest → ended_in part ≡ ended_in rest
remotes_none [] m new part rest (is, same) = ap ended_in is
remotes_none (t ∷ ts) m new part rest (told, (mid, (left, (is, step, more)))) = ap ended_in is ∙ remotes_none ts mid new left rest more

drained_none : (m new : Machine) (part rest : List Entry) → Drained m part new rest → ended_in part ≡ ended_in rest
drained_none m new part rest d = remotes_none d.taken m d.mid part d.left d.remotes ∙ ap ended_in d.entry

clock_none : (h : Bool) (m new : Machine) (part rest : List Entry) → ClockIf h m part new rest → ended_in part ≡ ended_in rest
clock_none false m new part rest (is, same) = ap ended_in is
clock_none true m new part rest (n, (fired, (is, step))) = ap ended_in is

park_none : (h : Bool) (m new : Machine) (part rest : List Entry) → IsPark h m part new rest → ended_in part ≡ ended_in rest
park_none h m new part rest is = ap ended_in is.1.1.1.0

parks_none : (h : Bool) (m new : Machine) (part rest : List Entry) → Parks h m part new rest → ended_in part ≡ ended_in rest
parks_none h m new part rest p = park_none h m p.parked part p.left p.parks ∙ drained_none p.parked p.drained p.left p.after p.drains ∙ clock_none h p.drained new p.after rest p.clock

parked_none : (h : Bool) (m new : Machine) (part rest : List Entry) → ParkedDrained h m part new rest → ended_in part ≡ ended_in rest
parked_none h m new part rest p = park_none h m p.parked part p.left p.parks ∙ drained_none p.parked new p.left rest p.drains

pause_none : (h : Bool) (queue : List ℕ) (m new : Machine) (part rest : List Entry) → Pauses h queue m part new rest → ended_in part ≡ ended_in rest
pause_none h [] m new part rest is = parks_none h m new part rest is
pause_none h (x ∷ xs) m new part rest is = drained_none m new part rest is

fails_none : (h : Bool) (queue : List ℕ) (m new : Machine) (part rest : List Entry) → PausesFail h queue m part new rest → ended_in part ≡ ended_in rest
fails_none h [] m new part rest (inl whole) = parks_none h m new part rest whole
fails_none h [] m new part rest (inr (inl park)) = park_none h m new part rest park
fails_none h [] m new part rest (inr (inr parked)) = parked_none h m new part rest parked
fails_none h (x ∷ xs) m new part rest (inl drained) = drained_none m new part rest drained
fails_none h (x ∷ xs) m new part rest (inr stays) = stays_none m new part rest stays

breaks_none : (h : Bool) (queue : List ℕ) (m new : Machine) (part rest : List Entry) → PausesBreak h queue m part new rest → ended_in part ≡ ended_in rest
breaks_none h [] m new part rest (inl stays) = stays_none m new part rest stays
breaks_none h [] m new part rest (inr (inl park)) = park_none h m new part rest park
breaks_none h [] m new part rest (inr (inr parked)) = parked_none h m new part rest parked
breaks_none h (x ∷ xs) m new part rest stays = stays_none m new part rest stays

ended_none : (h : Bool) (r : Result Bool RunError) (m new : Machine) (part rest : List Entry) → PauseEnds h r m part new rest → ended_in part ≡ ended_in rest
ended_none h (Ok spent) m new part rest is = pause_none h m.tasks.queue m new part rest is
ended_none h (Err error.Driver) m new part rest is = fails_none h m.tasks.queue m new part rest is
ended_none h (Err error.Memory) m new part rest is = breaks_none h m.tasks.queue m new part rest is
ended_none h (Err error.Turns) m new part rest is = absurd is
ended_none h (Err error.AtCapacity) m new part rest is = absurd is

drop_none : (main : ℕ) (w : Option ℕ) (m new : Machine) (part rest : List Entry) → DropsFor main w m part new rest → ended_in part ≡ ended_in rest
drop_none main (Some output) m new part rest is = ap ended_in is.0
drop_none main None m new part rest is = ap ended_in is.1.0

lists_both : (x y z : List ℕ) (m mid new : Machine) (xs ys zs : List Entry) → ListsEnded x y m xs mid ys → ListsEnded y z mid ys new zs → ListsEnded x z m xs new zs
lists_both x y z m mid new xs ys zs p q = record {
  ended = p.ended ++ q.ended;
  are = p.are ∙ ap (λ e. p.ended ++ e) q.are ∙ sym (append_assoc p.ended q.ended (ended_in zs));
  listed = q.listed ∙ ap (λ e. e ++ q.ended) p.listed ∙ append_assoc x p.ended q.ended;
}

lists_none : (x y : List ℕ) (m new : Machine) (xs zs : List Entry) → y ≡ x → ended_in xs ≡ ended_in zs → ListsEnded x y m xs new zs
lists_none x y m new xs zs same none = record { ended = []; are = none; listed = same ∙ sym (append-nil x) }

module _ {O P : Type 0} (number : O → ℕ) where
  pub closes_on : (x y z : List ℕ) (a b c : Parts O (Seen P)) (i j k : Journal) → Does number (ListsEnded x y) a b i j → Does number (ListsEnded y z) b c j k → Does number (ListsEnded x z) a c i k
  closes_on x y z a b c i j k p q = does_on number (ListsEnded x y) (ListsEnded y z) (ListsEnded x z) a b c i j k
      (λ m mid new xs ys zs stm std stn first second. lists_both x y z m mid new xs ys zs first second) p q

  closes_by : (R : Relation) → ((m new : Machine) (xs zs : List Entry) → R m xs new zs → ended_in xs ≡ ended_in zs) → (x y : List ℕ) → y ≡ x → (c d : Parts O (Seen P)) (j k : Journal) → Does number R c d j k → Does number (ListsEnded x y) c d j k
  closes_by R none x y same c d j k p = does_more number R (ListsEnded x y) c d j k (λ m new xs zs stm stn is. lists_none x y m new xs zs same (none m new xs zs is)) p

  pub closes_stays : (x y : List ℕ) → y ≡ x → (c d : Parts O (Seen P)) (j k : Journal) → Does number Stays c d j k → Does number (ListsEnded x y) c d j k
  closes_stays = closes_by Stays stays_none

  pub closes_pause : (x y : List ℕ) → y ≡ x → (h : Bool) (r : Result Bool RunError) (c d : Parts O (Seen P)) (j k : Journal) → Does number (PauseEnds h r) c d j k → Does number (ListsEnded x y) c d j k
  closes_pause x y same h r = closes_by (PauseEnds h r) (ended_none h r) x y same

  pub closes_spawn : (x y : List ℕ) → y ≡ x → (t : ℕ) (c d : Parts O (Seen P)) (j k : Journal) → Does number (IsSpawn t) c d j k → Does number (ListsEnded x y) c d j k
  closes_spawn x y same t = closes_by (IsSpawn t) (λ m new xs zs is. ap ended_in is.0) x y same

  closes_refused : (x y : List ℕ) → y ≡ x → (c d : Parts O (Seen P)) (j k : Journal) → Does number IsRefused c d j k → Does number (ListsEnded x y) c d j k
  closes_refused = closes_by IsRefused (λ m new xs zs is. ap ended_in is.0)

  pub closes_drop : (x y : List ℕ) → y ≡ x → (main : ℕ) (w : Option ℕ) (c d : Parts O (Seen P)) (j k : Journal) → Does number (DropsFor main w) c d j k → Does number (ListsEnded x y) c d j k
  closes_drop x y same main w = closes_by (DropsFor main w) (drop_none main w) x y same

  -- no main task was made, by the error
  pub closes_unmade : (x y : List ℕ) → y ≡ x → (cause : RunError) (c d : Parts O (Seen P)) (j k : Journal) → OnCapacity cause (Does number IsRefused c d j k) → OnMemory cause (Does number Stays c d j k) → Does number (ListsEnded x y) c d j k
  closes_unmade x y same error.Memory c d j k refused stays = closes_stays x y same c d j k stays
  closes_unmade x y same error.AtCapacity c d j k refused stays = closes_refused x y same c d j k refused
  closes_unmade x y same error.Driver c d j k refused stays = absurd refused
  closes_unmade x y same error.Turns c d j k refused stays = absurd refused

  -- a reading and a turn
  pub closes_turn : (x y : List ℕ) (a b c : Parts O (Seen P)) (i j k : Journal) (steps : List TurnStep) (e : End) (t : ℕ) (replies : List Reply) (ended : Ended) → y ≡ x ++ ended_at e t
      → Does number IsReading a b i j → Does number (IsStep (event.Turn steps e) (report.Turn t replies ended)) b c j k → Does number (ListsEnded x y) a c i k
  closes_turn x y a b c i j k steps e t replies ended same p q = does_on number IsReading (IsStep (event.Turn steps e) (report.Turn t replies ended)) (ListsEnded x y) a b c i j k
      (λ m mid new xs ys zs stm std stn read step. record { ended = ended_at e t; are = ap ended_in read.1.0 ∙ ap ended_in step.0; listed = same }) p q

-- if none waits, all that ended were made unknown
pub all_unknown : (retired : List (List ℕ)) (ended : List ℕ) → ended ≡ [] → closed_in retired ended ≡ all_in retired
all_unknown retired ended none = ap (λ xs. all_in retired ++ xs) none ∙ append-nil (all_in retired)

module _ {F O D P W U J A V : Type 0} (number : O → ℕ) where
  -- the main task is made, the loop runs, and those that ended are made unknown; then the main task's handle is dropped
  pub retired_main : (w : Option ℕ) (main : ℕ) (old started ran : Runtime F O D P W U J A V) (left : List ℕ) (last : Parts O (Seen P)) (end : Journal) → started.cx.wakers ≡ old.cx.wakers
      → Does number (IsSpawn main) old.cx.parts started.cx.parts old.journal started.journal → ClosesEnded number started ran → left ≡ ended_tasks ran → Does number (DropsFor main w) ran.cx.parts last ran.journal end
      → Does number (ListsEnded (ended_tasks old) left) old.cx.parts last old.journal end
  retired_main w main old started ran left last end same spawn closes retired drop =
      closes_on number (ended_tasks old) (ended_tasks started) left old.cx.parts started.cx.parts last old.journal started.journal end
      (closes_spawn number (ended_tasks old) (ended_tasks started) (ap (λ x. closed_in x.retired.entries x.ended.items) same) main old.cx.parts started.cx.parts old.journal started.journal spawn)
      (closes_on number (ended_tasks started) (ended_tasks ran) left started.cx.parts ran.cx.parts last started.journal ran.journal end closes
      (closes_drop number (ended_tasks ran) left retired main w ran.cx.parts last ran.journal end drop))
