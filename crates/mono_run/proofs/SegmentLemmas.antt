-- Parts of a poll, one after the other.
use Rattle.std.proofs.Common.{◌≡◌, ℕ, Bool, true, false, List, [], ◌∷◌, ◌++◌, length, Option, Some, None, refl, ap, sym, ◌∙◌, append_assoc, append-nil, length-append, subst, arith}
use Rattle.std.specs.Prelude.{⊤, if◌then◌else◌}
use Rattle.mono_machine.specs.declared.events.Act.TheVariants as act
use Rattle.mono_machine.specs.declared.events.TurnStep.{TurnStep}
use Rattle.mono_machine.specs.declared.events.TurnStep.TheVariants as step
use Rattle.mono_machine.specs.declared.events.Reply.{Reply}
use Rattle.mono_machine.specs.declared.events.Reply.TheVariants as reply
use Rattle.mono_machine.specs.declared.events.End.{End}
use Rattle.mono_model.specs.declared.poll.Poll.{Poll}
use Rattle.mono_time.specs.Instants.{nanos_of}
use Rattle.mono_blocking.specs.declared.jobs.ends.End as job
use Rattle.mono_rt.specs.JobActs.{noted_end}
use Rattle.mono_rt.specs.Numbering.{end_of}
use Rattle.mono_rt.specs.Record.{Record, noted}
use Rattle.mono_rt.specs.Reaches.{Reaches}
use Rattle.mono_rt.specs.declared.contexts.Cx.{Cx}
use Rattle.mono_run.specs.ScriptTurns.{Place, Turned, with_step, stops_at, acted, awaited, is_pending, ended_job, sees, is_seen, own_steps, own_replies, turn_of, with_handle}
use Rattle.mono_run.specs.TaskPolls.{Grew, HasKept, RunsLines, Fits, new_futures, new_task, place_of, stands_at}
use Rattle.mono_run.specs.Segments.{Rest, behind, Goes}
use Rattle.mono_run.specs.declared.tasks.ScriptTask.{ScriptTask}

-- ---- steps before others

pub behind_on : (a b : List TurnStep) (m n : List ℕ) (o : Option Turned) → behind a m (behind b n o) ≡ behind (a ++ b) (m ++ n) o
behind_on a b m n None = refl
behind_on a b m n (Some t) = rw (append_assoc a b t.steps, append_assoc m n t.made) refl

pub behind_none : (o : Option Turned) → o ≡ behind [] [] o
behind_none None = refl
behind_none (Some t) = refl

pub step_is : (s : TurnStep) (made : List ℕ) (o : Option Turned) → with_step s made o ≡ behind (s ∷ []) made o
step_is s made None = refl
step_is s made (Some t) = refl

pub behind_last : (steps : List TurnStep) (made : List ℕ) (e : End) (after : Option Place) → behind steps made (Some (record { steps = []; e = e; after = after; made = [] })) ≡ Some (record { steps = steps; e = e; after = after; made = made })
behind_last steps made e after = rw (append-nil steps, append-nil made) refl

-- ---- the record

pub grew_on : (c d e : Record) (s u : List TurnStep) (r q : List Reply) → Grew c d s r → Grew d e u q → Grew c e (s ++ u) (r ++ q)
grew_on c d e s u r q a b = record {
  acts = a.acts ++ b.acts;
  told = a.told ++ b.told;
  steps_are = b.steps_are ∙ ap (λ x. x ++ b.acts) a.steps_are ∙ append_assoc c.steps a.acts b.acts;
  replies_are = b.replies_are ∙ ap (λ x. x ++ b.told) a.replies_are ∙ append_assoc c.replies a.told b.told;
  paired = omega (arith, length-append a.told b.told, length-append a.acts b.acts, a.paired, b.paired);
  own = λ rest. ap own_steps (append_assoc a.acts b.acts rest) ∙ a.own (b.acts ++ rest) ∙ ap (λ x. s ++ x) (b.own rest) ∙ sym (append_assoc s u (own_steps rest));
  answers = λ rest more. ap (λ x. own_replies x ((a.told ++ b.told) ++ more)) (append_assoc a.acts b.acts rest) ∙ ap (own_replies (a.acts ++ (b.acts ++ rest))) (append_assoc a.told b.told more)
      ∙ a.answers (b.acts ++ rest) (b.told ++ more) ∙ ap (λ x. r ++ x) (b.answers rest more) ∙ sym (append_assoc r q (own_replies rest more));
}

pub grew_none : (c d : Record) → d ≡ c → Grew c d [] []
grew_none c d is = record {
  acts = [];
  told = [];
  steps_are = ap (λ x. x.steps) is ∙ sym (append-nil c.steps);
  replies_are = ap (λ x. x.replies) is ∙ sym (append-nil c.replies);
  paired = refl;
  own = λ rest. refl;
  answers = λ rest more. refl;
}

-- all of the steps and replies
pub own_of : (c d : Record) (s : List TurnStep) (r : List Reply) (g : Grew c d s r) → own_steps g.acts ≡ s
own_of c d s r g = ap own_steps (sym (append-nil g.acts)) ∙ g.own [] ∙ append-nil s

pub answers_of : (c d : Record) (s : List TurnStep) (r : List Reply) (g : Grew c d s r) → own_replies g.acts g.told ≡ r
answers_of c d s r g =
    ap (λ x. own_replies x g.told) (sym (append-nil g.acts)) ∙ ap (own_replies (g.acts ++ [])) (sym (append-nil g.told)) ∙ g.answers [] [] ∙ append-nil r

pub grew_one : (c d : Record) (x : TurnStep) (r : Reply) → ended_job x ≡ None → d ≡ noted c x r → Grew c d (x ∷ []) (r ∷ [])
grew_one c d x r own is = record {
  acts = x ∷ [];
  told = r ∷ [];
  steps_are = ap (λ a. a.steps) is;
  replies_are = ap (λ a. a.replies) is;
  paired = refl;
  own = λ rest. ap (λ o. if is_seen o rest then own_steps rest else x ∷ own_steps rest) own;
  answers = λ rest more. ap (λ o. if is_seen o rest then own_replies rest more else r ∷ own_replies rest more) own;
}

-- an act that may have seen the end of a job
pub grew_job : (c d : Record) (j : ℕ) (end : Option job.End) (x : TurnStep) (r : Reply) → ended_job x ≡ None → sees j x ≡ true → d ≡ noted (noted_end c j end) x r → Grew c d (x ∷ []) (r ∷ [])
grew_job c d j None x r own saw is = grew_one c d x r own is
grew_job c d j (Some e) x r own saw is =
    let end : TurnStep = step.Act (act.JobEnd j e.how) in
    let told : Reply = reply.Ended e.waiter in
    record {
      acts = end ∷ x ∷ [];
      told = told ∷ r ∷ [];
      steps_are = ap (λ a. a.steps) is ∙ append_assoc c.steps (end ∷ []) (x ∷ []);
      replies_are = ap (λ a. a.replies) is ∙ append_assoc c.replies (told ∷ []) (r ∷ []);
      paired = refl;
      own = λ rest. ap (λ b. if b then own_steps (x ∷ rest) else end ∷ own_steps (x ∷ rest)) saw ∙ ap (λ o. if is_seen o rest then own_steps rest else x ∷ own_steps rest) own;
      answers = λ rest more. ap (λ b. if b then own_replies (x ∷ rest) (r ∷ more) else told ∷ own_replies (x ∷ rest) (r ∷ more)) saw
          ∙ ap (λ o. if is_seen o rest then own_replies rest more else r ∷ own_replies rest more) own;
    }

-- ---- contexts

stays_false : (a b : Bool) → (a ≡ true → b ≡ true) → b ≡ false → a ≡ false
stays_false false b keeps is = refl
stays_false true b keeps is = absurd (no_both b (keeps refl) is)
  where
    no_both : (b : Bool) → b ≡ true → b ≡ false → ⊥
    no_both true e f = cc f
    no_both false e f = cc e

new_futures-append : (task : ScriptTask) (a b : List ℕ) → new_futures task (a ++ b) ≡ new_futures task a ++ new_futures task b
new_futures-append task [] b = refl
new_futures-append task (k ∷ a) b = ap (λ fs. Some (new_task task k) ∷ fs) (new_futures-append task a b)

module _ {P U J A V : Type 0} where
  pub kept_before : (c d : Cx ScriptTask ℕ P U ⊤ J A V) → Reaches (λ n. n) c d → HasKept d.parts → HasKept c.parts
  kept_before c d reached had = record {
    memory = stays_false c.parts.is_out_of_memory d.parts.is_out_of_memory reached.parts.memory had.memory;
    timers = sym reached.parts.same_timers ∙ had.timers;
  }

  pub goes_on : (task : ScriptTask) (f g h : Rest) (c d e : Cx ScriptTask ℕ P U ⊤ J A V) → Goes task f g c d → Goes task g h d e → Goes task f h c e
  goes_on task f g h c d e a b = record {
    replies = a.replies ++ b.replies;
    steps = a.steps ++ b.steps;
    made = a.made ++ b.made;
    gives = λ rest. ap f (append_assoc a.replies b.replies rest) ∙ a.gives (b.replies ++ rest) ∙ ap (behind a.steps a.made) (b.gives rest) ∙ behind_on a.steps b.steps a.made b.made (h rest);
    acts = grew_on c.parts.acts d.parts.acts e.parts.acts a.steps b.steps a.replies b.replies a.acts b.acts;
    futures = b.futures ∙ ap (λ x. x ++ new_futures task b.made) a.futures ∙ append_assoc c.futures.items (new_futures task a.made) (new_futures task b.made) ∙ ap (λ x. c.futures.items ++ x) (sym (new_futures-append task a.made b.made));
  }

  -- a call that is no act
  pub goes_by_none : (task : ScriptTask) (f : Rest) (c d : Cx ScriptTask ℕ P U ⊤ J A V) → d.parts.acts ≡ c.parts.acts → d.futures.items ≡ c.futures.items → Goes task f f c d
  goes_by_none task f c d is same = record {
    replies = [];
    steps = [];
    made = [];
    gives = λ rest. behind_none (f rest);
    acts = grew_none c.parts.acts d.parts.acts is;
    futures = same ∙ sym (append-nil c.futures.items);
  }

  -- one act, which may make tasks
  pub goes_making : (task : ScriptTask) (f g : Rest) (made : List ℕ) (c d : Cx ScriptTask ℕ P U ⊤ J A V) (x : TurnStep) (r : Reply) → Grew c.parts.acts d.parts.acts (x ∷ []) (r ∷ []) → d.futures.items ≡ c.futures.items ++ new_futures task made
      → ((rest : List Reply) → f (r ∷ rest) ≡ with_step x made (g rest)) → Goes task f g c d
  goes_making task f g made c d x r grew same is = record {
    replies = r ∷ [];
    steps = x ∷ [];
    made = made;
    gives = λ rest. is rest ∙ step_is x made (g rest);
    acts = grew;
    futures = same;
  }

  pub goes_by_one : (task : ScriptTask) (f g : Rest) (c d : Cx ScriptTask ℕ P U ⊤ J A V) (x : TurnStep) (r : Reply) → Grew c.parts.acts d.parts.acts (x ∷ []) (r ∷ []) → d.futures.items ≡ c.futures.items
      → ((rest : List Reply) → f (r ∷ rest) ≡ with_step x [] (g rest)) → Goes task f g c d
  goes_by_one task f g c d x r grew same is = goes_making task f g [] c d x r grew (same ∙ sym (append-nil c.futures.items)) is

  -- a poll that has to wait, and a poll that has not
  pub goes_pending : (task : ScriptTask) (f : Rest) (here : Place) (c d : Cx ScriptTask ℕ P U ⊤ J A V) (x last : TurnStep) (r : Reply) → Grew c.parts.acts d.parts.acts (x ∷ []) (r ∷ []) → d.futures.items ≡ c.futures.items
      → is_pending r ≡ true → Goes task (awaited x last here f) (stops_at here) c d
  goes_pending task f here c d x last r grew same is = goes_by_one task (awaited x last here f) (stops_at here) c d x r grew same (λ rest. ap (λ b. with_step x [] (if b then stops_at here rest else acted last f rest)) is)

  pub goes_ready : (task : ScriptTask) (f : Rest) (here : Place) (c d : Cx ScriptTask ℕ P U ⊤ J A V) (x last : TurnStep) (r : Reply) → Grew c.parts.acts d.parts.acts (x ∷ []) (r ∷ []) → d.futures.items ≡ c.futures.items
      → is_pending r ≡ false → Goes task (awaited x last here f) (acted last f) c d
  goes_ready task f here c d x last r grew same is = goes_by_one task (awaited x last here f) (acted last f) c d x r grew same (λ rest. ap (λ b. with_step x [] (if b then stops_at here rest else acted last f rest)) is)

  pub goes_acted : (task : ScriptTask) (f : Rest) (c d : Cx ScriptTask ℕ P U ⊤ J A V) (x : TurnStep) (r : Reply) → Grew c.parts.acts d.parts.acts (x ∷ []) (r ∷ []) → d.futures.items ≡ c.futures.items → Goes task (acted x f) f c d
  goes_acted task f c d x r grew same = goes_by_one task (acted x f) f c d x r grew same (λ rest. refl)

  -- the turn has reached its end
  pub ends_with : (task left : ScriptTask) (g : Rest) (answer : Poll ℕ) (c d : Cx ScriptTask ℕ P U ⊤ J A V) → g [] ≡ Some (record { steps = []; e = end_of (λ n. n) answer; after = stands_at answer left; made = [] })
      → left.kinds ≡ task.kinds → left.kind ≡ task.kind → Fits left → Goes task (turn_of (place_of task) c.parts.me (nanos_of c.parts.now)) g c d → RunsLines task c answer left d
  ends_with task left g answer c d is kinds kind fits a = record {
    replies = a.replies;
    turned = record { steps = a.steps; e = end_of (λ n. n) answer; after = stands_at answer left; made = a.made };
    gives = ap (turn_of (place_of task) c.parts.me (nanos_of c.parts.now)) (sym (append-nil a.replies)) ∙ a.gives [] ∙ ap (behind a.steps a.made) is ∙ behind_last a.steps a.made (end_of (λ n. n) answer) (stands_at answer left);
    acts = a.acts;
    ends = refl;
    after = refl;
    made = a.futures;
    kinds = kinds;
    kind = kind;
    fits = fits;
  }

  -- with a handle, and without one
  pub handled : (task : ScriptTask) (o : Option ℕ) (x : ℕ) (k : ℕ → Rest) (f g : Rest) (c d : Cx ScriptTask ℕ P U ⊤ J A V) → o ≡ Some x → Goes task (k x) g c d → Goes task (with_handle o k f) g c d
  handled task o x k f g c d is goes = subst (λ v. Goes task (with_handle v k f) g c d) (sym is) goes

  pub unhandled : (task : ScriptTask) (o : Option ℕ) (k : ℕ → Rest) (f : Rest) (c d : Cx ScriptTask ℕ P U ⊤ J A V) → o ≡ None → d.parts.acts ≡ c.parts.acts → d.futures.items ≡ c.futures.items → Goes task (with_handle o k f) f c d
  unhandled task o k f c d is acts same = subst (λ v. Goes task (with_handle v k f) f c d) (sym is) (goes_by_none task f c d acts same)

  pub goes_to : (task : ScriptTask) (f g h : Rest) (c d : Cx ScriptTask ℕ P U ⊤ J A V) → g ≡ h → Goes task f g c d → Goes task f h c d
  goes_to task f g h c d is goes = subst (λ x. Goes task f x c d) is goes
