-- The laws of a cell that is set once.
use Rattle.std.proofs.Common.{◌≡◌, ◌+◌, ◌-◌, ◌<◌, ◌≤◌, Bool, true, false, cond, MatchBool, ℕ, List, [], ◌∷◌, Option, Some, None, Ok, Err, refl, sym, ap, subst, ◌∙◌, arith}
use Rattle.mono_sync.specs.Runs.{Run}
use Rattle.mono_locks.specs.declared.queues.Asked.{Asked}
use Rattle.mono_locks.specs.declared.queues.Asked.TheVariants as asked
use Rattle.mono_locks.specs.declared.queues.Entry.{Entry}
use Rattle.mono_locks.specs.declared.once_cell.OnceCell.{OnceCell}
use Rattle.mono_locks.specs.declared.once_cell.Init.{Init}
use Rattle.mono_locks.specs.declared.once_cell.Init.TheVariants as init
use Rattle.mono_locks.specs.declared.once_cell.SetError.TheVariants as unset
use Rattle.mono_locks.specs.Queues.{Asks, IfGot, Leaves, due, tasks_of, waits_at}
use Rattle.mono_locks.specs.Laws.{AskAtMost}
use Rattle.mono_locks.specs.OnceCells.{room_of, has_some, owed_by, listed_by, TakesTurn}
use Rattle.mono_locks.specs.OnceCellRuns.{Event, was_set, asked_for, finished, gave_back, gave_up, served, Step, turns_by, turns, ends_by, ends}
use Rattle.mono_locks.specs.OnceCellLaws.{SetOnce, OneTurnAtMost, NextTakesOver, InitsInOrder, NoCellLiesIdle, PendingInitIsListed, InitTakesOutItsOwn}
use Rattle.mono_locks.proofs.AmountLemmas.{Within, within_same, leaves_within, takes_within, no_room, first_owed}
use Rattle.mono_locks.proofs.AskLemmas.{asks_rises, asks_within, asks_own, waits_listed, joined_listed}
use Rattle.mono_locks.proofs.OwnLemmas.{OwnIn, leaves_own}
use Rattle.mono_locks.proofs.QueueLemmas.{Rising, kept_queue, leaves_rises, takes_rises, first_rises}
use Rattle.mono_locks.proofs.WaitLemmas.{false-true}

cons-nil : (t : ℕ) (ts : List ℕ) → t ∷ ts ≡ [] → ⊥
cons-nil t ts e = cc

abbrev out : Bool → ℕ
out true = 1
out false = 0

out_most : (b : Bool) → out b ≤ 1
out_most true = omega arith
out_most false = omega arith

same_turns : (b c : Bool) → c ≡ b → 0 + out b ≤ out c + 0
same_turns b c is = let same : out c ≡ out b = ap out is in omega (arith, same)

all_owed : (k t : ℕ) (ws : List Entry) → waits_at ws k t ≡ true → tasks_of ws ≡ [] → ⊥
all_owed k t [] waits none = false-true waits
all_owed k t (w ∷ ws) waits none = cons-nil w.task _ none

idle_if : (c : Bool) (room granted k t : ℕ) (ws : List Entry) → AskAtMost 1 ws → cond c (tasks_of ws) (due (room - granted) ws) ≡ [] → waits_at ws k t ≡ true → (c ≡ false) × (room ≤ granted)
idle_if true room granted k t ws all none waits = absurd (all_owed k t ws waits none)
idle_if false room granted k t ws all none waits = let less : room - granted < 1 = no_room 1 (room - granted) k t ws all waits none in (refl, omega (arith, less))

module _ {T : Type 0} where
  waits-set : (i : Init T) → asked.Waits ≡ asked.Got i → ⊥
  waits-set i e = cc

  joined-set : (k : ℕ) (i : Init T) → asked.Joined k ≡ asked.Got i → ⊥
  joined-set k i e = cc

  -- the two ways of a future that asks
  abbrev InitsIf : Bool → OnceCell T → Option ℕ → ℕ → Asked (Init T) → OnceCell T → Type 0
  InitsIf c a ticket me r b = MatchBool c
      ((r ≡ asked.Got init.Set) × Leaves a.queue ticket me 1 b.queue × (b.is_initializing ≡ a.is_initializing))
      (Asks a.queue ticket me 1 (room_of a.is_initializing) r b.queue × IfGot r (λ i. TakesTurn i a b) (b.is_initializing ≡ a.is_initializing))

  moved : (a b : OnceCell T) → b ≡ a → b.value ≡ a.value
  moved a b is = ap (λ m. m.value) is

  turn_moved : (a b : OnceCell T) → b ≡ a → b.is_initializing ≡ a.is_initializing
  turn_moved a b is = ap (λ m. m.is_initializing) is

  queue_moved : (a b : OnceCell T) → b ≡ a → b.queue ≡ a.queue
  queue_moved a b is = ap (λ m. m.queue) is

  set-unset : (x : T) (o : Option T) → o ≡ Some x → has_some o ≡ false → ⊥
  set-unset x o is none = false-true (sym none ∙ ap has_some is)

  step_set : (e : Event T) (a b : OnceCell T) (x : T) → a.value ≡ Some x → Step a e b → b.value ≡ Some x
  step_set (was_set y (Ok done)) a b x is s = absurd (set-unset x a.value is s.0)
  step_set (was_set y (Err (unset.AlreadyInitialized z))) a b x is s = moved a b s.2 ∙ is
  step_set (was_set y (Err (unset.Initializing z))) a b x is s = moved a b s.3 ∙ is
  step_set (asked_for ticket task r) a b x is s = s.0 ∙ is
  step_set (finished y (Ok done)) a b x is s = absurd (set-unset x a.value is s.0)
  step_set (finished y (Err z)) a b x is s = moved a b s.2 ∙ is
  step_set gave_back a b x is s = s.0 ∙ is
  step_set (gave_up ticket task) a b x is s = s.0 ∙ is
  step_set (served first) a b x is s = s.0 ∙ is

  pub set_once : SetOnce T
  set_once [] a b x is run = moved a b run ∙ is
  set_once (e ∷ es) a b x is (m, step, rest) = set_once es m b x (step_set e a m x is step) rest

  abbrev is_turn : Asked (Init T) → ℕ
  is_turn (asked.Got init.Set) = 0
  is_turn (asked.Got (init.Turn t)) = 1
  is_turn asked.Waits = 0
  is_turn (asked.Joined k) = 0
  is_turn asked.Memory = 0

  by_turn : (ticket : Option ℕ) (me : ℕ) (r : Asked (Init T)) → turns_by (asked_for ticket me r) ≡ is_turn r
  by_turn ticket me (asked.Got init.Set) = refl
  by_turn ticket me (asked.Got (init.Turn t)) = refl
  by_turn ticket me asked.Waits = refl
  by_turn ticket me (asked.Joined k) = refl
  by_turn ticket me asked.Memory = refl

  turns_if : (c : Bool) (a b : OnceCell T) (ticket : Option ℕ) (me : ℕ) (r : Asked (Init T)) → InitsIf c a ticket me r b → is_turn r + out a.is_initializing ≤ out b.is_initializing
  turns_if true a b ticket me r s = let none : is_turn r ≡ 0 = ap is_turn s.0 in let same : out b.is_initializing ≡ out a.is_initializing = ap out s.2 in omega (arith, none, same)
  turns_if false a b ticket me (asked.Got init.Set) s = absurd s.1
  turns_if false a b ticket me (asked.Got (init.Turn t)) s = let before : out a.is_initializing ≡ 0 = ap out s.1.0 in let after : out b.is_initializing ≡ 1 = ap out s.1.1 in omega (arith, before, after)
  turns_if false a b ticket me asked.Waits s = let same : out b.is_initializing ≡ out a.is_initializing = ap out s.1 in omega (arith, same)
  turns_if false a b ticket me (asked.Joined k) s = let same : out b.is_initializing ≡ out a.is_initializing = ap out s.1 in omega (arith, same)
  turns_if false a b ticket me asked.Memory s = let same : out b.is_initializing ≡ out a.is_initializing = ap out s.1 in omega (arith, same)

  step_turns : (e : Event T) (a b : OnceCell T) → Step a e b → turns_by e + out a.is_initializing ≤ out b.is_initializing + ends_by e
  step_turns (was_set x (Ok done)) a b s = same_turns _ _ s.3
  step_turns (was_set x (Err (unset.AlreadyInitialized y))) a b s = same_turns _ _ (turn_moved a b s.2)
  step_turns (was_set x (Err (unset.Initializing y))) a b s = same_turns _ _ (turn_moved a b s.3)
  step_turns (asked_for ticket me r) a b s = omega (arith, by_turn ticket me r, turns_if (has_some a.value) a b ticket me r s.1)
  step_turns (finished x (Ok done)) a b s = omega (arith, out_most a.is_initializing)
  step_turns (finished x (Err y)) a b s = same_turns _ _ (turn_moved a b s.2)
  step_turns gave_back a b s = omega (arith, out_most a.is_initializing)
  step_turns (gave_up ticket task) a b s = same_turns _ _ s.1
  step_turns (served first) a b s = same_turns _ _ s.1

  run_turns : (es : List (Event T)) (a b : OnceCell T) → Run Step a es b → turns es + out a.is_initializing ≤ out b.is_initializing + ends es
  run_turns [] a b run = same_turns _ _ (turn_moved a b run)
  run_turns (e ∷ es) a b (m, step, rest) = omega (arith, step_turns e a m step, run_turns es m b rest)

  pub one_turn : OneTurnAtMost T
  one_turn es a b run = omega (arith, run_turns es a b run, out_most b.is_initializing)

  takes_over : (a b : OnceCell T) (w : Entry) (ws : List Entry) → AskAtMost 1 (w ∷ ws) → a.value ≡ None → a.queue.granted ≡ 0 → a.queue.waiters.items ≡ w ∷ ws → b.value ≡ a.value → b.is_initializing ≡ false → b.queue ≡ a.queue → (ts : List ℕ) × (owed_by b ≡ w.task ∷ ts)
  takes_over a b w ws all none granted items value turn queue =
      let room : room_of b.is_initializing ≡ 1 = ap room_of turn in
      let free : b.queue.granted ≡ 0 = ap (λ q. q.granted) queue ∙ granted in
      let one : 1 ≤ room_of b.is_initializing - b.queue.granted = omega (arith, room, free) in (
        due (room_of b.is_initializing - b.queue.granted - w.amount) ws,
        ap (λ c. cond c (tasks_of b.queue.waiters.items) (due (room_of b.is_initializing - b.queue.granted) b.queue.waiters.items)) (ap has_some (value ∙ none))
            ∙ ap (due (room_of b.is_initializing - b.queue.granted)) (ap (λ q. q.waiters.items) queue ∙ items) ∙ first_owed 1 (room_of b.is_initializing - b.queue.granted) w ws all.0 one,
      )

  pub next_takes_over : NextTakesOver T
  next_takes_over a b w ws all none granted items s = takes_over a b w ws (subst (AskAtMost 1) items all) none granted items s.0 s.1 s.2

  inits_rises : (c : Bool) (a b : OnceCell T) (ticket : Option ℕ) (me : ℕ) (r : Asked (Init T)) → InitsIf c a ticket me r b → Rising a.queue → Rising b.queue
  inits_rises true a b ticket me r s rising = leaves_rises a.queue b.queue ticket me 1 s.1 rising
  inits_rises false a b ticket me r s rising = asks_rises a.queue b.queue ticket me 1 (room_of a.is_initializing) r s.0 rising

  step_rises : (e : Event T) (a b : OnceCell T) → Rising a.queue → Step a e b → Rising b.queue
  step_rises (was_set x (Ok done)) a b rising s = kept_queue a.queue b.queue s.4 rising
  step_rises (was_set x (Err (unset.AlreadyInitialized y))) a b rising s = kept_queue a.queue b.queue (queue_moved a b s.2) rising
  step_rises (was_set x (Err (unset.Initializing y))) a b rising s = kept_queue a.queue b.queue (queue_moved a b s.3) rising
  step_rises (asked_for ticket me r) a b rising s = inits_rises (has_some a.value) a b ticket me r s.1 rising
  step_rises (finished x (Ok done)) a b rising s = kept_queue a.queue b.queue s.4 rising
  step_rises (finished x (Err y)) a b rising s = kept_queue a.queue b.queue (queue_moved a b s.2) rising
  step_rises gave_back a b rising s = kept_queue a.queue b.queue s.2 rising
  step_rises (gave_up ticket task) a b rising s = leaves_rises a.queue b.queue ticket task 1 s.2 rising
  step_rises (served first) a b rising s = takes_rises (has_some a.value) (room_of a.is_initializing) a.queue b.queue first s.2 rising

  run_rises : (es : List (Event T)) (a b : OnceCell T) → Rising a.queue → Run Step a es b → Rising b.queue
  run_rises [] a b rising run = kept_queue a.queue b.queue (queue_moved a b run) rising
  run_rises (e ∷ es) a b rising (m, step, rest) = run_rises es m b (step_rises e a m rising step) rest

  pub in_order : InitsInOrder T
  in_order es a b c w rising run s = first_rises (has_some b.value) (room_of b.is_initializing) b.queue c.queue w s.2 (run_rises es a b rising run)

  inits_within : (c : Bool) (a b : OnceCell T) (ticket : Option ℕ) (me : ℕ) (r : Asked (Init T)) → InitsIf c a ticket me r b → Within 1 a.queue → Within 1 b.queue
  inits_within true a b ticket me r s all = leaves_within 1 a.queue b.queue ticket me 1 s.1 all
  inits_within false a b ticket me r s all = asks_within a.queue b.queue ticket me 1 (room_of a.is_initializing) 1 r (omega arith) s.0 all

  step_within : (e : Event T) (a b : OnceCell T) → Within 1 a.queue → Step a e b → Within 1 b.queue
  step_within (was_set x (Ok done)) a b all s = within_same 1 a.queue b.queue s.4 all
  step_within (was_set x (Err (unset.AlreadyInitialized y))) a b all s = within_same 1 a.queue b.queue (queue_moved a b s.2) all
  step_within (was_set x (Err (unset.Initializing y))) a b all s = within_same 1 a.queue b.queue (queue_moved a b s.3) all
  step_within (asked_for ticket me r) a b all s = inits_within (has_some a.value) a b ticket me r s.1 all
  step_within (finished x (Ok done)) a b all s = within_same 1 a.queue b.queue s.4 all
  step_within (finished x (Err y)) a b all s = within_same 1 a.queue b.queue (queue_moved a b s.2) all
  step_within gave_back a b all s = within_same 1 a.queue b.queue s.2 all
  step_within (gave_up ticket task) a b all s = leaves_within 1 a.queue b.queue ticket task 1 s.2 all
  step_within (served first) a b all s = takes_within 1 (has_some a.value) (room_of a.is_initializing) a.queue b.queue first s.2 all

  run_within : (es : List (Event T)) (a b : OnceCell T) → Within 1 a.queue → Run Step a es b → Within 1 b.queue
  run_within [] a b all run = within_same 1 a.queue b.queue (queue_moved a b run) all
  run_within (e ∷ es) a b all (m, step, rest) = run_within es m b (step_within e a m all step) rest

  idle : (b : OnceCell T) (p : List ℕ) (t : ℕ) → Within 1 b.queue → owed_by b ≡ [] → listed_by b p t ≡ true → (has_some b.value ≡ false) × (room_of b.is_initializing ≤ b.queue.granted)
  idle b [] t all none listed = absurd (false-true listed)
  idle b (k ∷ []) t all none listed = idle_if (has_some b.value) (room_of b.is_initializing) b.queue.granted k t b.queue.waiters.items all none listed
  idle b (k ∷ l ∷ p) t all none listed = absurd (false-true listed)

  pub no_cell : NoCellLiesIdle T
  no_cell es a b p t all run none listed = idle b p t (run_within es a b all run) none listed

  waits_if : (c : Bool) (a b : OnceCell T) (me k : ℕ) → InitsIf c a (Some k) me asked.Waits b → listed_by b (k ∷ []) me ≡ true
  waits_if true a b me k s = absurd (waits-set init.Set s.0)
  waits_if false a b me k s = waits_listed (Init T) a.queue b.queue me 1 (room_of a.is_initializing) k s.0

  joined_if : (c : Bool) (a b : OnceCell T) (ticket : Option ℕ) (me k : ℕ) → InitsIf c a ticket me (asked.Joined k) b → listed_by b (k ∷ []) me ≡ true
  joined_if true a b ticket me k s = absurd (joined-set k init.Set s.0)
  joined_if false a b ticket me k s = joined_listed (Init T) a.queue b.queue me 1 (room_of a.is_initializing) k ticket s.0

  pub init_listed : PendingInitIsListed T
  init_listed a b ticket me k = ((λ s. waits_if (has_some a.value) a b me k s.1), (λ s. joined_if (has_some a.value) a b ticket me k s.1))

  inits_own : (c : Bool) (a b : OnceCell T) (ticket : Option ℕ) (me : ℕ) (r : Asked (Init T)) → InitsIf c a ticket me r b → OwnIn ticket me a.queue b.queue
  inits_own true a b ticket me r s = leaves_own a.queue b.queue ticket me 1 s.1
  inits_own false a b ticket me r s = asks_own a.queue b.queue ticket me 1 (room_of a.is_initializing) r s.0

  pub takes_out_its_own : InitTakesOutItsOwn T
  takes_out_its_own a b ticket me p t is = ((λ r s. inits_own (has_some a.value) a b ticket me r s.1 p t is), (λ s. leaves_own a.queue b.queue ticket me 1 s.2 p t is))
