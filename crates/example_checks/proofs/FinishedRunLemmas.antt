-- The output of a run whose main task has an output.
use Rattle.std.proofs.Common.{◌≡◌, ◌≤◌, ◌⊎◌, inl, inr, ℕ, zero, suc, true, false, Bool, ◌^◌, ◌-◌, ◌<◌, List, [], ◌∷◌, ◌++◌, map, drop, length, flat_map, Option, Some, None, codes, lit≤, refl, sym, ap, subst, ◌∙◌, arith}
use Rattle.std.specs.Prelude.{if◌then◌else◌, slice_index_or}
use Rattle.std.proofs.lemmas.List.{append-nil}
use Rattle.mono_model.specs.declared.Ended.TheVariants as ended
use Rattle.mono_machine.specs.Machine.{Machine}
use Rattle.mono_machine.specs.Acts.{act_outcome}
use Rattle.mono_machine.specs.Turns.{turn_report, after_turn}
use Rattle.mono_machine.specs.declared.events.Act.TheVariants as act
use Rattle.mono_machine.specs.declared.events.End.{End}
use Rattle.mono_machine.specs.declared.events.End.TheVariants as end
use Rattle.mono_machine.specs.declared.events.Event.TheVariants as event
use Rattle.mono_machine.specs.declared.events.Reply.{Reply}
use Rattle.mono_machine.specs.declared.events.Reply.TheVariants as reply
use Rattle.mono_machine.specs.declared.events.Report.{Report}
use Rattle.mono_machine.specs.declared.events.Report.TheVariants as report
use Rattle.mono_machine.specs.declared.events.TurnStep.{TurnStep}
use Rattle.mono_rt.specs.Readings.{AreSums, time_after}
use Rattle.mono_rt.specs.Rounds.{OneTurn, Turns, Passes, Rounds, RunsMain, most_turns, is_main_done}
use Rattle.mono_rt.specs.declared.parts.journals.Entry.{Entry}
use Rattle.mono_rt.specs.declared.parts.journals.Entry.TheVariants.{Ran, Now}
use Rattle.mono_text.specs.Lines.{Line}
use Rattle.mono_run.specs.Script.{Kind, Script}
use Rattle.mono_run.specs.ScriptText.{Spells, kind_texts, script_texts, ended as ended_line}
use Rattle.mono_run.specs.ScriptTurns.{Place, Turned, Driven, DrivenFrom, Gives as GivesTurn, turn_at, starts_of, own_steps, own_replies, ended_job, is_seen}
use Rattle.mono_run.specs.Journal.{journal_text}
use Rattle.mono_run.specs.RunRecord as run
use Rattle.mono_run.specs.RunRecord.{RanBy, answer_of, told}
use Rattle.mono_run.specs.declared.runs.RunEnd.{RunEnd}
use Rattle.mono_run.specs.declared.runs.RunEnd.TheVariants as ran
use Rattle.mono_run.proofs.MainPlaceLemmas.{full_at}
use Rattle.mono_run.proofs.ScriptTextLemmas.{kinds_fit, kinds_front}
use Rattle.mono_script.specs.declared.command.Command.TheVariants as command
use Rattle.mono_script.specs.declared.ends.Status.TheVariants as status
use Rattle.mono_script.specs.Command.{IsCommand}
use Rattle.mono_script.specs.Meanings.{running, run_status}
use Rattle.mono_script.specs.TopCall.{view_of}
use Rattle.mono_script.proofs.MainPlaceLemmas.{tasks_once}
use Rattle.example_checks.specs.Outputs.{line, Gives, Ended}
use Rattle.example_checks.proofs.NumberTextLemmas.{zero_text, one_text, five_text}
use Rattle.example_checks.proofs.SpentRunLemmas.{input, script, good, start, after_spawn, task_in}
use Rattle.example_checks.proofs.OutputLemmas.{IsOnly, gives}

abbrev pub words : List (List ℕ)
words = codes "run" ∷ codes "0" ∷ codes "1" ∷ []

abbrev pub output : List ℕ
output = line (codes "spawn -> task 0") ++ line (codes "now 0") ++ line (codes "turn; ready 5 -> turn 0; done") ++ line (codes "drop-join 0 -> dropped 5") ++ line (codes "main 5")

is_command : IsCommand words (command.Run 0 1)
is_command = record { text = rw (zero_text, one_text) refl; fit = (lit≤ tt, lit≤ tt) }

true-false : true ≡ false → ⊥
true-false e = cc

-- ---- the kinds of the script that the input spells

bytes_of : (texts : List (List ℕ)) → map (λ (l : Line). l.bytes) (map ended_line texts) ≡ texts
bytes_of [] = refl
bytes_of (t ∷ texts) = ap (λ ts. t ∷ ts) (bytes_of texts)

no_kind : (rest : List Kind) → [] ≡ flat_map kind_texts rest → rest ≡ []
no_kind [] e = refl
no_kind (k ∷ rest) e = absurd (omega (arith, ap length e))

kinds_once : (x : Script) → Spells input x → x.kinds ≡ script.kinds
kinds_once x p =
    let texts : script_texts x ≡ script_texts script = sym (bytes_of (script_texts x)) ∙ ap (map (λ (l : Line). l.bytes)) (sym p.text ∙ good.text) ∙ bytes_of (script_texts script) in
    let front = kinds_front x.kinds script.kinds [] (kinds_fit _ x.kinds p.sound.each) (kinds_fit _ script.kinds good.sound.each) (append-nil (flat_map kind_texts x.kinds) ∙ ap (drop 1) texts) in
    sym (front.1 ∙ ap (λ r. x.kinds ++ r) (no_kind front.0 front.2) ∙ append-nil x.kinds)

-- ---- the one turn

-- no step is the script's own only if there is none
unseen : (o : Option ℕ) → is_seen o [] ≡ true → ⊥
unseen None e = cc e
unseen (Some j) e = cc e

no_cons : {A : Type 0} (x : A) (xs : List A) → x ∷ xs ≡ [] → ⊥
no_cons x xs e = omega (arith, ap length e)

keeps : (s : TurnStep) (steps : List TurnStep) → (own_steps steps ≡ [] → steps ≡ []) → (b : Bool) → is_seen (ended_job s) steps ≡ b → (if b then own_steps steps else s ∷ own_steps steps) ≡ [] → s ∷ steps ≡ []
keeps s steps more true is e = absurd (unseen (ended_job s) (ap (is_seen (ended_job s)) (sym (more e)) ∙ is))
keeps s steps more false is e = absurd (no_cons s (own_steps steps) e)

none_own : (steps : List TurnStep) → own_steps steps ≡ [] → steps ≡ []
none_own [] e = refl
none_own (s ∷ steps) e = keeps s steps (none_own steps) (is_seen (ended_job s) steps) refl e

abbrev places : List (Option Place)
places = starts_of script.kinds (0 ∷ [])

gives_five : (t now : ℕ) (rs : List Reply) (s : List TurnStep) (e : End) (rest : Turned → Type 0) → t ≡ 0 → GivesTurn (turn_at (slice_index_or places t None) t now rs) s e rest → (s ≡ []) × (e ≡ end.Ready 5)
gives_five zero now [] s e rest z g = (g.0, g.1)
gives_five zero now (r ∷ rs) s e rest z g = absurd g
gives_five (suc t) now rs s e rest z g = absurd (omega (arith, z))

abbrev turn_in : Report → ℕ
turn_in (report.Turn t replies e) = t
turn_in r = 1

abbrev after_five : ℕ → ℕ → Machine
after_five jobs sleeps = after_turn [] (end.Ready 5) (after_spawn jobs sleeps)

abbrev told_five : Report
told_five = report.Turn 0 [] ended.Done

-- The entries are those of the one turn, and it led to this machine.
record HadTurn (jobs sleeps : ℕ) (part : List Entry) (new : Machine) (rest : List Entry) : Type 0 where
  entries : part ≡ Now 0 ∷ Ran (event.Turn [] (end.Ready 5)) told_five ∷ rest
  last : new ≡ after_five jobs sleeps

abbrev IsDriven : List Entry → Type 0
IsDriven part = DrivenFrom script.kinds places 0 (map told part)

at_start : time_after 0 0 ≡ 0
at_start = omega arith

one_turn : (jobs sleeps : ℕ) (part : List Entry) (new : Machine) (rest : List Entry) → OneTurn (after_spawn jobs sleeps) part new rest → IsDriven part → AreSums 0 0 part → HadTurn jobs sleeps part new rest
one_turn jobs sleeps part new rest t driven sums =
    let m : Machine = after_spawn jobs sleeps in
    let whole : Report = report.Turn t.task t.replies t.ended in
    let gave = gives_five t.task t.now (own_replies t.steps t.replies) (own_steps t.steps) t.ending _ (ap turn_in t.step.0) (subst IsDriven t.entries driven) in
    let steps : t.steps ≡ [] = none_own t.steps gave.0 in
    let ending : t.ending ≡ end.Ready 5 = gave.1 in
    let sum : AreSums 0 0 (Now t.now ∷ Ran (event.Turn t.steps t.ending) whole ∷ rest) = subst (AreSums 0 0) t.entries sums in
    let now : t.now ≡ 0 = sum.0 ∙ at_start in
    let answer : whole ≡ told_five = t.step.0 ∙ ap (λ s. turn_report s t.ending m) steps ∙ ap (λ e. turn_report [] e m) ending in
    record {
      entries = t.entries
          ∙ ap (λ n. Now n ∷ Ran (event.Turn t.steps t.ending) whole ∷ rest) now
          ∙ ap (λ s. Now 0 ∷ Ran (event.Turn s t.ending) whole ∷ rest) steps
          ∙ ap (λ e. Now 0 ∷ Ran (event.Turn [] e) whole ∷ rest) ending
          ∙ ap (λ r. Now 0 ∷ Ran (event.Turn [] (end.Ready 5)) r ∷ rest) answer;
      last = t.step.1 ∙ ap (λ s. after_turn s t.ending m) steps ∙ ap (λ e. after_turn [] e m) ending;
    }

by_turns : (n jobs sleeps : ℕ) (part : List Entry) (new : Machine) (rest : List Entry) → Turns n (after_spawn jobs sleeps) part new rest → n ≤ most_turns 1 (after_spawn jobs sleeps)
    → (new.tasks.queue ≡ []) ⊎ (n ≡ most_turns 1 (after_spawn jobs sleeps)) → IsDriven part → AreSums 0 0 part → HadTurn jobs sleeps part new rest
by_turns zero jobs sleeps part new rest are within (inl empty) driven sums =
    let queued : ◌≡◌ {A = ℕ} 1 0 = ap length (ap (λ (x : Machine). x.tasks.queue) (sym are.1) ∙ empty) in
    absurd (omega (arith, queued))
by_turns zero jobs sleeps part new rest are within (inr none) driven sums =
    let one : ◌≡◌ {A = ℕ} 0 1 = none in
    absurd (omega (arith, one))
by_turns (suc zero) jobs sleeps part new rest (mid, (left, (before, turn))) within ends driven sums =
    let here : OneTurn (after_spawn jobs sleeps) part new rest = subst (λ m. OneTurn m part new rest) before.1 (subst (λ es. OneTurn mid es new rest) (sym before.0) turn) in
    one_turn jobs sleeps part new rest here driven sums
by_turns (suc (suc n)) jobs sleeps part new rest are within ends driven sums =
    let few : suc (suc n) ≤ 1 = within in
    absurd (omega (arith, few))

-- ---- no pass follows

no_pass : (n units left : ℕ) (old : Machine) (part : List Entry) (new : Machine) (rest : List Entry) → is_main_done 0 old ≡ true → Passes true 0 n units left old part new rest → (part ≡ rest) × (new ≡ old)
no_pass zero units left old part new rest done are = (are.0, are.1)
no_pass (suc n) units left old part new rest done (mid, (more, (kept, (before, (undone, (some, pass)))))) =
    let same = no_pass n units kept old part mid more done before in
    absurd (true-false (sym (ap (is_main_done 0) same.1 ∙ done) ∙ undone))

done_five : (jobs sleeps : ℕ) → is_main_done 0 (after_five jobs sleeps) ≡ true
done_five jobs sleeps = refl

one_round : (jobs sleeps left : ℕ) (part : List Entry) (new : Machine) (rest : List Entry) → Rounds true 0 1 left (after_spawn jobs sleeps) part new rest → IsDriven part → AreSums 0 0 part → HadTurn jobs sleeps part new rest
one_round jobs sleeps left part new rest r driven sums =
    let had = by_turns r.first.turns jobs sleeps part r.mid r.more r.first.are r.first.within r.first.ends driven sums in
    let none = no_pass r.count r.kept left r.mid r.more new rest (ap (is_main_done 0) had.last ∙ done_five jobs sleeps) r.passes in
    record {
      entries = had.entries ∙ ap (λ xs. Now 0 ∷ Ran (event.Turn [] (end.Ready 5)) told_five ∷ xs) none.0;
      last = none.1 ∙ had.last;
    }

-- ---- the whole run

module _ (jobs sleeps main left : ℕ) (part behind : List Entry) (spawned new : Machine) (rest : List Entry) (spawn : part ≡ Ran (event.Act act.Spawn) (report.Reply (reply.Task main)) ∷ behind)
    (first : main ≡ 0) (at : spawned ≡ after_spawn jobs sleeps) (driven : IsDriven part) (sums : AreSums 0 0 part) where
  had_turn : Rounds true main 1 left spawned behind new rest → HadTurn jobs sleeps behind new rest
  had_turn rounds =
      let sum : AreSums 0 0 (Ran (event.Act act.Spawn) (report.Reply (reply.Task main)) ∷ behind) = subst (AreSums 0 0) spawn sums in
      one_round jobs sleeps left behind new rest (subst (λ m. Rounds true 0 1 left m behind new rest) at (subst (λ t. Rounds true t 1 left spawned behind new rest) first rounds))
      (subst IsDriven spawn driven) sum.1

abbrev entries : List Entry
entries = Ran (event.Act act.Spawn) (report.Reply (reply.Task 0)) ∷ Now 0 ∷ Ran (event.Turn [] (end.Ready 5)) told_five ∷ Ran (event.Act (act.DropJoin 0)) (report.Reply (reply.Dropped (Some 5))) ∷ []

abbrev dropped_in : Report → ℕ
dropped_in (report.Reply (reply.Dropped (Some o))) = o
dropped_in r = 0

finished : (jobs sleeps main o : ℕ) (part : List Entry) (last : Machine) → RunsMain true main 1 (answer_of (ran.Output o)) (start jobs sleeps) part last [] → IsDriven part → AreSums 0 0 part → (o ≡ 5) × (part ≡ entries)
finished jobs sleeps main o part last r driven sums =
    let first : main ≡ 0 = ap task_in r.spawn.1.0 in
    let had : HadTurn jobs sleeps r.behind r.ended r.last = had_turn jobs sleeps main r.ends.0 part r.behind r.spawned r.ended r.last r.spawn.0 first r.spawn.1.1 driven sums r.ends.1.0 in
    let five : o ≡ 5 =
    ap dropped_in r.drop.1.0 ∙ ap (λ t. dropped_in (report.Reply (act_outcome (act.DropJoin t) r.ended).reply)) first
    ∙ ap (λ m. dropped_in (report.Reply (act_outcome (act.DropJoin 0) m).reply)) had.last in (
      five,
      r.spawn.0
          ∙ ap (λ t. Ran (event.Act act.Spawn) (report.Reply (reply.Task t)) ∷ r.behind) first
          ∙ ap (λ xs. Ran (event.Act act.Spawn) (report.Reply (reply.Task 0)) ∷ xs) had.entries
          ∙ ap (λ xs. Ran (event.Act act.Spawn) (report.Reply (reply.Task 0)) ∷ Now 0 ∷ Ran (event.Turn [] (end.Ready 5)) told_five ∷ xs) r.drop.0
          ∙ ap (λ t. Ran (event.Act act.Spawn) (report.Reply (reply.Task 0)) ∷ Now 0 ∷ Ran (event.Turn [] (end.Ready 5)) told_five ∷ Ran (event.Act (act.DropJoin t)) (report.Reply (reply.Dropped (Some o))) ∷ []) first
          ∙ ap (λ x. Ran (event.Act act.Spawn) (report.Reply (reply.Task 0)) ∷ Now 0 ∷ Ran (event.Turn [] (end.Ready 5)) told_five ∷ Ran (event.Act (act.DropJoin 0)) (report.Reply (reply.Dropped (Some x))) ∷ []) five,
    )

unspent : (jobs sleeps main : ℕ) (part : List Entry) (last : Machine) → RunsMain true main 1 (answer_of ran.Turns) (start jobs sleeps) part last [] → IsDriven part → AreSums 0 0 part → ⊥
unspent jobs sleeps main part last r driven sums =
    let first : main ≡ 0 = ap task_in r.spawn.1.0 in
    let had : HadTurn jobs sleeps r.behind r.ended r.last = had_turn jobs sleeps main 0 part r.behind r.spawned r.ended r.last r.spawn.0 first r.spawn.1.1 driven sums r.ends.0 in
    true-false (sym (ap (λ t. is_main_done t r.ended) first ∙ ap (is_main_done 0) had.last ∙ done_five jobs sleeps) ∙ r.ends.1)

-- ---- the answer

by_end : (jobs sleeps : ℕ) (e : RunEnd) (text : List ℕ) → (r : run.Ran (record { tasks = 1; jobs = jobs; sleeps = sleeps }) 1 e text) → IsDriven r.entries → AreSums 0 0 r.entries → (e ≡ ran.Output 5) × (text ≡ output)
by_end jobs sleeps (ran.Output o) text r driven sums =
    let is = finished jobs sleeps r.blocked.0 o r.entries r.last r.blocked.1 driven sums in (
      ap ran.Output is.0,
      r.text ∙ ap (λ es. journal_text (map told es) (Some o)) is.1 ∙ ap (λ x. journal_text (map told entries) (Some x)) is.0 ∙ rw (zero_text, five_text) refl,
    )
by_end jobs sleeps ran.Turns text r driven sums = absurd (unspent jobs sleeps r.blocked.0 r.entries r.last r.blocked.1 driven sums)
by_end jobs sleeps ran.Capacity text r driven sums = absurd (omega (arith, (full_at (record { tasks = 1; jobs = jobs; sleeps = sleeps }) 1 ran.Capacity text r).0 refl))

-- the same, of limits of which the first is 1
by_limit : (tasks jobs sleeps : ℕ) (readings : Option (List ℕ)) (kinds : List Kind) (e : RunEnd) (text : List ℕ) → tasks ≡ 1 → kinds ≡ script.kinds
    → (r : RanBy 0 readings (record { tasks = tasks; jobs = jobs; sleeps = sleeps }) 1 e text) → Driven (record { limits = record { tasks = tasks; jobs = jobs; sleeps = sleeps }; kinds = kinds }) (map told r.ran.entries) → (e ≡ ran.Output 5) × (text ≡ output)
by_limit zero jobs sleeps readings kinds e text one same r driven = absurd (omega (arith, one))
by_limit (suc (suc n)) jobs sleeps readings kinds e text one same r driven = absurd (omega (arith, one))
by_limit (suc zero) jobs sleeps readings kinds e text one same r driven =
    by_end jobs sleeps e text r.ran (subst (λ ks. DrivenFrom ks (starts_of ks (0 ∷ [])) 0 (map told r.ran.entries)) same driven) r.reads

only : (readings : Option (List ℕ)) → IsOnly (running 0 1 readings) input status.Done output
only readings s text (x, spelled, (e, is, runs)) =
    let found = by_limit x.limits.tasks x.limits.jobs x.limits.sleeps readings x.kinds e text (tasks_once input x script spelled good) (kinds_once x spelled) runs.run runs.driven in
    (is ∙ ap run_status found.0, found.1)

pub finished_run_gives : (before after : Option (List ℕ)) (faults later code : ℕ) → faults < 2 ^ 64 - 1 → Ended words input before after faults later code → Gives 0 output before after code
finished_run_gives before after faults later code few p =
    gives words p.0 (view_of (Some input) 0 before faults p.2.0) (view_of p.1 0 after later p.2.1) code (command.Run 0 1) input output status.Done
    refl refl few p.2.2 is_command refl (lit≤ tt) (script, good) (only p.0) (λ e. p.2.2.done e)
