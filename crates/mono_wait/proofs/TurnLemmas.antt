-- A told turn that ended pending leaves its task waiting at all that its future needs.
use Rattle.std.proofs.Common.{◌≡◌, ◌≢◌, ◌<◌, ◌≤◌, ◌⊎◌, inl, inr, ℕ, true, false, Bool, set, length, List, [], ◌∷◌, ◌++◌, Some, None, Option, refl, ap, sym, subst, ◌∙◌, append_assoc, arith}
use Rattle.std.specs.Prelude.{⊤}
use Rattle.std.proofs.lemmas.Bool.{cases_lt}
use Rattle.std.proofs.lemmas.List.{get_or-set_same, get_or_past, length-set}
use Rattle.mono_model.specs.Table.{value_at}
use Rattle.mono_model.specs.Tasks.{Tasks}
use Rattle.mono_model.specs.declared.Ended.{Ended}
use Rattle.mono_model.specs.declared.poll.Poll.{Poll}
use Rattle.mono_model.specs.declared.poll.Poll.TheVariants.{Ready, Pending}
use Rattle.mono_task.specs.Members.{FutureOf, SharedOf}
use Rattle.mono_task.specs.Work.{without_outputs}
use Rattle.mono_machine.specs.Machine.{Machine}
use Rattle.mono_machine.specs.Turns.{after_steps, replies_of, after_begin, end_answer, turn_report_for}
use Rattle.mono_machine.specs.Steps.{Step}
use Rattle.mono_machine.specs.History.{begun_machine, is_awaiting}
use Rattle.mono_machine.specs.declared.events.TurnStep.{TurnStep}
use Rattle.mono_machine.specs.declared.events.End.{End}
use Rattle.mono_machine.specs.declared.events.End.TheVariants as end
use Rattle.mono_machine.specs.declared.events.Event.TheVariants as event
use Rattle.mono_machine.specs.declared.events.Reply.{Reply}
use Rattle.mono_machine.specs.declared.events.Reply.TheVariants as reply
use Rattle.mono_machine.specs.declared.events.Refusal.TheVariants as refusal
use Rattle.mono_machine.specs.declared.events.Report.{Report}
use Rattle.mono_machine.specs.declared.events.Report.TheVariants as report
use Rattle.mono_rt.specs.Numbering.{end_of}
use Rattle.mono_rt.specs.Record.{no_acts}
use Rattle.mono_rt.specs.Refinement.{hosting_of, Matches}
use Rattle.mono_rt.proofs.PartTurnLemmas.{begun_matches}
use Rattle.mono_rt.specs.Reaches.{ReachesSharing}
use Rattle.mono_rt.specs.Payments.{PaysOwed}
use Rattle.mono_rt.specs.Turns.{Turn, Runs, UnlessSpent, Polls, Pauses, AfterPoll}
use Rattle.mono_rt.specs.Stores.{Store}
use Rattle.mono_rt.specs.FuturePolls.{TellsTurn}
use Rattle.mono_rt.specs.declared.contexts.Cx.{Cx}
use Rattle.mono_machine.specs.Watches as machine
use Rattle.mono_machine.specs.Watches.{IsWatched, Hears, drops_in}
use Rattle.mono_wait.specs.Sources.{Source, in_machine, machine_needs, Covers, Heard}
use Rattle.mono_wait.specs.Runtime.{cx_watcher, parts_same_watcher, parts_same_stirred}
use Rattle.mono_wait.specs.PendingTurns.{TurnRegisters, LeavesAt, LeavesWaiting}
use Rattle.mono_wait.proofs.RegistrationLemmas.{hears_in}

turn_of_report : (t : ℕ) (steps : List TurnStep) (replies : List Reply) (told : Ended) (m : Machine) (queue : List ℕ) → report.Turn t replies told ≡ turn_report_for queue steps end.Pending m → (rest : List ℕ) × (queue ≡ t ∷ rest)
turn_of_report t steps replies told m [] is = absurd (no_reply is)
  where
    no_reply : report.Turn t replies told ≡ report.Reply (reply.Refused refusal.Idle) → ⊥
    no_reply e = cc
turn_of_report t steps replies told m (front ∷ rest) is = (rest, ap (λ u. u ∷ rest) (same is))
  where
    same : report.Turn t replies told ≡ report.Turn front (replies_of front steps (after_begin front rest m)) (end_answer end.Pending front (after_steps front steps (after_begin front rest m))) → front ≡ t
    same e = cc

no_some : {V : Type 0} (v : V) → None ≡ Some v → ⊥
no_some v e = cc

inside_of : {V : Type 0} (table : List (Option V)) (t : ℕ) (v : V) → value_at table t ≡ Some v → t < length table
inside_of table t v at = elim (cases_lt t (length table)) [
  | inl inside ↦ inside
  | inr past ↦ absurd (no_some v (sym (get_or_past table t None past) ∙ at))
]

module _ {F O P U W J A V : Type 0} (number : O → ℕ) (sharing : SharedOf W) (future : FutureOf F (Cx F O P U W J A V) O) (needs : F → Source → Type 0)
    (covers : (f : F) (c : Cx F O P U W J A V) (g : F) (d : Cx F O P U W J A V) → future.polls f c Pending g d
    → Covers (λ c. c.parts.me) (λ c. without_outputs c.parts.tasks.tasks) (ReachesSharing number sharing) (cx_watcher sharing.lists sharing.names) c d (needs g)) where
  abbrev HeardIn : Cx F O P U W J A V → Cx F O P U W J A V → Source → Type 0
  HeardIn = Heard (λ c. c.parts.me) (λ c. without_outputs c.parts.tasks.tasks) (ReachesSharing number sharing) (cx_watcher sharing.lists sharing.names)

  never_ready : (output : O) → end.Pending ≡ end.Ready (number output) → ⊥
  never_ready output e = cc

  record IsPaused (t : ℕ) (f : F) (ended : Ended) (begun after : Cx F O P U W J A V) : Type 0 where
    left : F
    middle : Cx F O P U W J A V
    polled : future.polls f begun Pending left middle
    reached : ReachesSharing number sharing begun middle
    paid : Cx F O P U W J A V
    pays : PaysOwed number sharing middle paid
    pauses : Pauses t (Some left) ended paid after

  by_answer : (t : ℕ) (f : F) (ended : Ended) (begun after : Cx F O P U W J A V) (answer : Poll O) (left : F) (middle : Cx F O P U W J A V) → future.polls f begun answer left middle → ReachesSharing number sharing begun middle
      → AfterPoll number sharing future answer t left ended middle after → end.Pending ≡ end_of number answer → IsPaused t f ended begun after
  by_answer t f ended begun after (Ready output) left middle polled reached rest is = absurd (never_ready output is)
  by_answer t f ended begun after Pending left middle polled reached (paid, (pays, pauses)) is = record { left = left; middle = middle; polled = polled; reached = reached; paid = paid; pays = pays; pauses = pauses }

  by_spent : (s : Bool) → s ≡ false → (t : ℕ) (f : F) (ended : Ended) (begun after : Cx F O P U W J A V) → UnlessSpent number sharing future s t f end.Pending ended begun after → IsPaused t f ended begun after
  by_spent true unspent t f ended begun after runs = absurd (impossible unspent)
    where
      impossible : true ≡ false → ⊥
      impossible e = cc
  by_spent false unspent t f ended begun after p = by_answer t f ended begun after p.answer p.left p.middle p.polled p.reached p.rest p.is_end

  by_future : (v : Option F) (f : F) → v ≡ Some f → future.is_spent f ≡ false → (t : ℕ) (ended : Ended) (begun after : Cx F O P U W J A V) → Runs number sharing future v t end.Pending ended begun after → IsPaused t f ended begun after
  by_future v f is unspent t ended begun after runs = by_spent (future.is_spent f) unspent t f ended begun after (subst (λ w. Runs number sharing future w t end.Pending ended begun after) is runs)

  module _ (law : TurnRegisters) (has_timers : Bool) (m : Machine) (store : Store F W) (reading : ℕ) (steps : List TurnStep) (answer : Report) (lefts : Store F W)
      (t : TellsTurn number sharing future has_timers m store reading steps end.Pending answer lefts) where
    module _ (f : F) (p : IsPaused t.task f t.ended t.turn.begun t.after) where
      module _ (x : machine.Source) (it : HeardIn t.turn.begun p.middle (in_machine x)) where
        abbrev b : List TurnStep
        b = it.before.parts.steps

        -- the acts of the poll since then, and the wakes of those whom the shared value owed one
        abbrev s : List TurnStep
        s = it.since.parts.steps ++ p.pays.paying.parts.steps

        acts : steps ≡ b ++ s
        acts =
            sym t.acts ∙ ap (λ a. a.steps) p.pauses.parts.acts ∙ p.pays.paying.parts.grew
            ∙ ap (λ xs. xs ++ p.pays.paying.parts.steps) (it.since.parts.grew ∙ ap (λ xs. xs ++ it.since.parts.steps) (it.before.parts.grew ∙ ap (λ a. a.steps ++ b) t.turn.begins.parts.acts_are))
            ∙ append_assoc b it.since.parts.steps p.pays.paying.parts.steps

        me : t.turn.begun.parts.me ≡ t.task
        me = t.turn.begins.parts.me

        hears : (rest : List ℕ) → m.tasks.queue ≡ t.task ∷ rest → Hears (after_steps t.task b (begun_machine m.tasks.queue m)) t.task x
        hears rest queue =
            hears_in (λ c. c.parts.me) (λ c. without_outputs c.parts.tasks.tasks) (ReachesSharing number sharing) (cx_watcher sharing.lists sharing.names) (λ c n. Matches number hosting_of c.parts n)
            (λ c d r. r.parts.same_me) (λ c d r. (r.parts.steps, r.parts.leads)) (λ c n y u st is. parts_same_watcher number hosting_of c.parts n c.has_handed_out (sharing.lists c.shared) (sharing.names c.shared) y u st is) (λ c n st. parts_same_stirred number hosting_of c.parts n c.parts.me st)
            t.task it.moment (after_steps t.task b (begun_machine m.tasks.queue m)) x (it.before.parts.same_me ∙ me)
            (subst (λ q. Matches number hosting_of it.moment.parts (after_steps t.task b (begun_machine q m))) (sym queue)
            (subst (λ n. Matches number hosting_of it.moment.parts (after_steps n b (after_begin t.task rest m))) me
            (it.before.parts.leads (after_begin t.task rest m) (begun_matches number t.before.parts t.turn.begun.parts t.task t.now (no_acts t.is_unread) m rest t.turn.begins.parts queue t.stands.matches))))
            it.hears

        stays : (new : Machine) → Step m (event.Turn steps end.Pending) answer new → drops_in x s ≡ false → IsWatched new t.task x ⊎ (is_awaiting t.task new ≡ true)
        stays new step none =
            let queue : (rest : List ℕ) × (m.tasks.queue ≡ t.task ∷ rest) = turn_of_report t.task steps t.after.parts.acts.replies t.ended m m.tasks.queue (sym t.told ∙ step.0) in
            law b s t.after.parts.acts.replies t.ended m new t.task x t.stands.valid
            (subst (λ ys. Step m (event.Turn ys end.Pending) (report.Turn t.task t.after.parts.acts.replies t.ended) new) acts (subst (λ r. Step m (event.Turn steps end.Pending) r new) t.told step))
            (hears queue.0 queue.1) none

        leaves_at : LeavesAt m t.task steps answer x
        leaves_at = record { before = b; since = s; acts = acts; stays = stays }

      goes_back : value_at store.futures t.task ≡ Some f → value_at lefts.futures t.task ≡ Some p.left
      goes_back at =
          let had : t.task < length t.before.futures.items = inside_of t.before.futures.items t.task f (ap (λ fs. value_at fs t.task) t.had ∙ at) in
          let same : length t.turn.begun.futures.items ≡ length t.before.futures.items = ap length t.turn.begins.futures ∙ length-set t.before.futures.items t.task None in
          let paid : length p.paid.futures.items ≡ length p.middle.futures.items = ap (λ f. length f.items) p.pays.paying.same_futures in
          ap (λ fs. value_at fs t.task) (sym t.has ∙ p.pauses.futures) ∙ get_or-set_same p.paid.futures.items t.task (Some p.left) None (omega (arith, had, same, paid, p.reached.grows))

    pub leaves_waiting : LeavesWaiting (λ f. future.is_spent f ≡ false) (machine_needs needs) m store.futures lefts.futures steps answer
    leaves_waiting = record {
      task = t.task;
      replies = t.after.parts.acts.replies;
      ended = t.ended;
      told = t.told;
      waits = λ f at unspent.
          let p : IsPaused t.task f t.ended t.turn.begun t.after = by_future (value_at t.before.futures.items t.task) f (ap (λ fs. value_at fs t.task) t.had ∙ at) unspent t.task t.ended t.turn.begun t.after t.turn.runs in
          (p.left, goes_back f p at, λ x needed. leaves_at f p x ((covers f t.turn.begun p.left p.middle p.polled).each (in_machine x) needed));
    }
