-- Parts that were reached from others by calls of the running task.
use Rattle.std.specs.Prelude.{◌≡◌, ℕ, ◌+◌, Bool, true, false, ◌||◌, nat_le, nat_lt, List, [], ◌∷◌, ◌++◌, length, Option, ◌≤◌, refl}
use Rattle.std.proofs.Common.{sym, ◌∙◌, ap, subst, append_assoc, append-nil, arith}
use Rattle.std.proofs.lemmas.Bool.{lt-ltb, ltb-true, le-ltb, ltb-false, leb-true, leb-false}
use Rattle.std.proofs.lemmas.List.{length-append}
use Rattle.mono_machine.specs.Acts.{step_outcome}
use Rattle.mono_machine.specs.declared.events.Reply.{Reply}
use Rattle.mono_rt.specs.Record.{Record, room, noted}
use Rattle.mono_machine.specs.Machine.{Machine}
use Rattle.mono_machine.specs.Turns.{replies_of, after_steps}
use Rattle.mono_machine.specs.declared.events.TurnStep.{TurnStep}
use Rattle.mono_time.specs.Timers.{registered_of}
use Rattle.mono_time.specs.Registrations.{registered_by_steps, registered_by_act, FollowsAct}
use Rattle.mono_rt.specs.Outputs.{KeepsOutputs}
use Rattle.mono_rt.specs.Refinement.{Hosting, Matches}
use Rattle.mono_rt.specs.declared.parts.state.Parts.{Parts}

-- A list of acts leads each machine that the parts refined to one that they refine. The record of the turn grew by
-- these acts and by the machine's replies to them. It becomes full if and only if these and those before are more than
-- it has room for, and it stays full. The registered ticks of the sleeps follow the acts. No task got an output.
pub record Leads {O B : Type 0} (number : O → ℕ) (hosting : B → Hosting) (c d : Parts O B) : Type 0 where
  pub steps : List TurnStep
  pub leads : (m : Machine) → Matches number hosting c m → Matches number hosting d (after_steps c.me steps m)
  pub registered : (m : Machine) → Matches number hosting c m → (s : ℕ) → registered_of d.timers s ≡ registered_by_steps c.me steps m s (registered_of c.timers s)
  pub grew : d.acts.steps ≡ c.acts.steps ++ steps
  pub opens : d.acts.is_full ≡ false → c.acts.is_full ≡ false
  pub full : c.acts.is_full ≡ false → length c.acts.steps ≤ room → d.acts.is_full ≡ nat_lt room (length c.acts.steps + length steps)
  pub answers : (m : Machine) → Matches number hosting c m → d.acts.replies ≡ c.acts.replies ++ replies_of c.me steps m
  pub same_me : d.me ≡ c.me
  pub same_now : d.now ≡ c.now
  pub same_turn : d.tasks.turn ≡ c.tasks.turn
  pub same_turns : d.tasks.turns ≡ c.tasks.turns
  pub same_timers : d.has_timers ≡ c.has_timers
  pub memory : c.is_out_of_memory ≡ true → d.is_out_of_memory ≡ true
  pub outputs : KeepsOutputs c.tasks.tasks d.tasks.tasks

pub after_steps-append : (me : ℕ) (xs ys : List TurnStep) (m : Machine) → after_steps me (xs ++ ys) m ≡ after_steps me ys (after_steps me xs m)
after_steps-append me [] ys m = refl
after_steps-append me (x ∷ xs) ys m = after_steps-append me xs ys (step_outcome me x m).machine

pub replies_of-append : (me : ℕ) (xs ys : List TurnStep) (m : Machine) → replies_of me (xs ++ ys) m ≡ replies_of me xs m ++ replies_of me ys (after_steps me xs m)
replies_of-append me [] ys m = refl
replies_of-append me (x ∷ xs) ys m = ap (λ rs. (step_outcome me x m).reply ∷ rs) (replies_of-append me xs ys (step_outcome me x m).machine)

pub registered-append : (me : ℕ) (xs ys : List TurnStep) (m : Machine) (s : ℕ) (r : Option ℕ) → registered_by_steps me (xs ++ ys) m s r ≡ registered_by_steps me ys (after_steps me xs m) s (registered_by_steps me xs m s r)
registered-append me [] ys m s r = refl
registered-append me (x ∷ xs) ys m s r = registered-append me xs ys (step_outcome me x m).machine s (registered_by_act m.sleeps (step_outcome me x m).machine.sleeps s r)

true-false : true ≡ false → ⊥
true-false e = cc

-- a record that is not full was not full before
open_before : (b c : Bool) → (b || c) ≡ false → b ≡ false
open_before true c is = absurd (true-false is)
open_before false c is = refl

pub unfilled : (acts : Record) (step : TurnStep) (reply : Reply) → (noted acts step reply).is_full ≡ false → acts.is_full ≡ false
unfilled acts step reply left = open_before acts.is_full _ left

-- an act fills the record if and only if it is one more than there is room for
one_more : (full : Bool) (n : ℕ) → nat_le room n ≡ full → full ≡ nat_lt room (n + 1)
one_more true n is = sym (lt-ltb room (n + 1) (omega (arith, leb-true room n is)))
one_more false n is = sym (le-ltb room (n + 1) (omega (arith, leb-false room n is)))

filled_by : (b full : Bool) (n : ℕ) → nat_le room n ≡ full → b ≡ false → (b || full) ≡ nat_lt room (n + 1)
filled_by true full n is unfull = absurd (true-false unfull)
filled_by false full n is unfull = one_more full n is

pub filled_after : (acts : Record) (step : TurnStep) (reply : Reply) → acts.is_full ≡ false → (noted acts step reply).is_full ≡ nat_lt room (length acts.steps + 1)
filled_after acts step reply unfull = filled_by acts.is_full _ (length acts.steps) refl unfull

-- some acts, and more acts after them
full_on : (b c : Bool) (before first second middle : ℕ) → b ≡ nat_lt room (before + first) → (c ≡ false → b ≡ false) → middle ≡ before + first → (b ≡ false → middle ≤ room → c ≡ nat_lt room (middle + second))
    → c ≡ nat_lt room (before + (first + second))
full_on true true before first second middle is stays grew more = sym (lt-ltb room (before + (first + second)) (omega (arith, ltb-true room (before + first) (sym is))))
full_on true false before first second middle is stays grew more = absurd (true-false (stays refl))
full_on false c before first second middle is stays grew more = more refl (omega (arith, grew, ltb-false room (before + first) (sym is))) ∙ ap (λ n. nat_lt room n) (omega (arith, grew))

module _ {O B : Type 0} (number : O → ℕ) (hosting : B → Hosting) where
  pub leads_itself : (c : Parts O B) → Leads number hosting c c
  leads_itself c = record {
    steps = [];
    leads = λ m st. st;
    registered = λ m st s. refl;
    grew = sym (append-nil c.acts.steps);
    opens = λ left. left;
    full = λ unfull within. unfull ∙ sym (le-ltb room (length c.acts.steps + 0) (omega (arith, within)));
    answers = λ m st. sym (append-nil c.acts.replies);
    same_me = refl;
    same_now = refl;
    same_turn = refl;
    same_turns = refl;
    same_timers = refl;
    memory = λ h. h;
    outputs = λ t x is. is;
  }

  pub leads_on : (a b c : Parts O B) → Leads number hosting a b → Leads number hosting b c → Leads number hosting a c
  leads_on a b c p q = record {
    steps = p.steps ++ q.steps;
    leads = λ m st. subst (Matches number hosting c) (ap (λ me. after_steps me q.steps (after_steps a.me p.steps m)) p.same_me ∙ sym (after_steps-append a.me p.steps q.steps m)) (q.leads (after_steps a.me p.steps m) (p.leads m st));
    registered = λ m st s.
        let mid : Machine = after_steps a.me p.steps m in
        q.registered mid (p.leads m st) s ∙ ap (λ me. registered_by_steps me q.steps mid s (registered_of b.timers s)) p.same_me
        ∙ ap (registered_by_steps a.me q.steps mid s) (p.registered m st s) ∙ sym (registered-append a.me p.steps q.steps m s (registered_of a.timers s));
    grew = q.grew ∙ ap (λ xs. xs ++ q.steps) p.grew ∙ append_assoc a.acts.steps p.steps q.steps;
    opens = λ left. p.opens (q.opens left);
    full = λ unfull within.
        full_on b.acts.is_full c.acts.is_full (length a.acts.steps) (length p.steps) (length q.steps) (length b.acts.steps) (p.full unfull within) q.opens
        (ap length p.grew ∙ length-append a.acts.steps p.steps) q.full
        ∙ ap (λ n. nat_lt room (length a.acts.steps + n)) (sym (length-append p.steps q.steps));
    answers = λ m st.
        let mid : Machine = after_steps a.me p.steps m in
        let first : List Reply = replies_of a.me p.steps m in
        let told : c.acts.replies ≡ b.acts.replies ++ replies_of b.me q.steps mid = q.answers mid (p.leads m st) in
        let before : b.acts.replies ≡ a.acts.replies ++ first = p.answers m st in
        let both : replies_of a.me (p.steps ++ q.steps) m ≡ first ++ replies_of a.me q.steps mid = replies_of-append a.me p.steps q.steps m in
        told ∙ ap (λ xs. xs ++ replies_of b.me q.steps mid) before ∙ ap (λ me. (a.acts.replies ++ first) ++ replies_of me q.steps mid) p.same_me
        ∙ append_assoc a.acts.replies first (replies_of a.me q.steps mid) ∙ ap (λ rs. a.acts.replies ++ rs) (sym both);
    same_me = q.same_me ∙ p.same_me;
    same_now = q.same_now ∙ p.same_now;
    same_turn = q.same_turn ∙ p.same_turn;
    same_turns = q.same_turns ∙ p.same_turns;
    same_timers = q.same_timers ∙ p.same_timers;
    memory = λ h. q.memory (p.memory h);
    outputs = λ t x is. p.outputs t x (q.outputs t x is);
  }

  -- the acts of both
  pub no_steps : (c : Parts O B) → (leads_itself c).steps ≡ []
  unfolding leads_itself
  no_steps c = refl

  pub both_steps : (a b c : Parts O B) (p : Leads number hosting a b) (q : Leads number hosting b c) → (leads_on a b c p q).steps ≡ p.steps ++ q.steps
  unfolding leads_on
  both_steps a b c p q = refl

  -- one act
  pub by_act : (c d : Parts O B) (step : TurnStep) (reply : Reply) → d.acts ≡ noted c.acts step reply
      → ((m : Machine) → Matches number hosting c m → reply ≡ (step_outcome c.me step m).reply)
      → ((m : Machine) → Matches number hosting c m → Matches number hosting d (step_outcome c.me step m).machine)
      → ((m : Machine) → Matches number hosting c m → FollowsAct c.timers d.timers m.sleeps (step_outcome c.me step m).machine.sleeps)
      → d.me ≡ c.me → d.now ≡ c.now → d.tasks.turn ≡ c.tasks.turn → d.tasks.turns ≡ c.tasks.turns → d.has_timers ≡ c.has_timers → d.is_out_of_memory ≡ c.is_out_of_memory → KeepsOutputs c.tasks.tasks d.tasks.tasks → Leads number hosting c d
  by_act c d step reply is answer left follows me now turn turns timers memory outputs = record {
    steps = step ∷ [];
    leads = left;
    registered = follows;
    grew = ap (λ x. x.steps) is;
    opens = λ unfull. unfilled c.acts step reply (sym (ap (λ x. x.is_full) is) ∙ unfull);
    full = λ unfull within. ap (λ x. x.is_full) is ∙ filled_after c.acts step reply unfull;
    answers = λ m st. ap (λ x. x.replies) is ∙ ap (λ r. c.acts.replies ++ r ∷ []) (answer m st);
    same_me = me;
    same_now = now;
    same_turn = turn;
    same_turns = turns;
    same_timers = timers;
    memory = λ h. memory ∙ h;
    outputs = outputs;
  }

  -- a call that changed nothing of the machine and was not kept
  pub by_nothing : (c d : Parts O B) → d.acts ≡ c.acts → ((m : Machine) → Matches number hosting c m → Matches number hosting d m) → ((s : ℕ) → registered_of d.timers s ≡ registered_of c.timers s)
      → d.me ≡ c.me → d.now ≡ c.now → d.tasks.turn ≡ c.tasks.turn → d.tasks.turns ≡ c.tasks.turns → d.has_timers ≡ c.has_timers → (c.is_out_of_memory ≡ true → d.is_out_of_memory ≡ true) → KeepsOutputs c.tasks.tasks d.tasks.tasks → Leads number hosting c d
  by_nothing c d is left stays me now turn turns timers memory outputs = record {
    steps = [];
    leads = left;
    registered = λ m st. stays;
    grew = ap (λ x. x.steps) is ∙ sym (append-nil c.acts.steps);
    opens = λ unfull. sym (ap (λ x. x.is_full) is) ∙ unfull;
    full = λ unfull within. ap (λ x. x.is_full) is ∙ unfull ∙ sym (le-ltb room (length c.acts.steps + 0) (omega (arith, within)));
    answers = λ m st. ap (λ x. x.replies) is ∙ sym (append-nil c.acts.replies);
    same_me = me;
    same_now = now;
    same_turn = turn;
    same_turns = turns;
    same_timers = timers;
    memory = memory;
    outputs = outputs;
  }
