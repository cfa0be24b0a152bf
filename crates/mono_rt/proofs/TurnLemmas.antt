-- A turn of a future is a turn of the machine.
use Rattle.std.proofs.Common.{◌≡◌, ℕ, true, false, Bool, Some, None, Option, sym, subst, ◌∙◌}
use Rattle.mono_model.specs.declared.Ended.{Ended}
use Rattle.mono_model.specs.declared.poll.Poll.{Poll}
use Rattle.mono_model.specs.declared.poll.Poll.TheVariants.{Ready, Pending}
use Rattle.mono_task.specs.Members.{FutureOf, SharedOf}
use Rattle.mono_time.specs.declared.instant.Instant.{Instant}
use Rattle.mono_machine.specs.Machine.{Machine}
use Rattle.mono_machine.specs.declared.events.End.{End}
use Rattle.mono_machine.specs.declared.events.End.TheVariants as end
use Rattle.mono_rt.specs.Leads.{leads_on}
use Rattle.mono_rt.specs.Numbering.{end_of}
use Rattle.mono_rt.specs.Record.{no_acts}
use Rattle.mono_rt.specs.Refinement.{hosting_of, Matches}
use Rattle.mono_rt.specs.PartTurns.{BeginsParts, IsTurnOf}
use Rattle.mono_rt.proofs.PartTurnLemmas.{ended_turn, is_turn}
use Rattle.mono_rt.specs.Reaches.{ReachesSharing}
use Rattle.mono_rt.specs.Turns.{PaysAndPauses, AfterPoll, UnlessSpent, Runs}
use Rattle.mono_rt.specs.declared.contexts.Cx.{Cx}

module _ {F O P U W J A V : Type 0} (number : O → ℕ) (sharing : SharedOf W) (future : FutureOf F (Cx F O P U W J A V) O) where
  by_rest : (c b x d : Cx F O P U W J A V) (t : ℕ) (now : Instant) (answer : Poll O) (g : F) (ended : Ended) (m : Machine) (is_unread : Bool) → c.parts.acts ≡ no_acts is_unread → BeginsParts t now c.parts.acts c.parts b.parts → ReachesSharing number sharing b x → AfterPoll number sharing future answer t g ended x d → Matches number hosting_of c.parts m
      → IsTurnOf number t (end_of number answer) ended c.parts d.parts m
  by_rest c b x d t now Pending g ended m is_unread blank begins reached (paid, (pays, pauses)) st =
      is_turn number c.parts b.parts paid.parts d.parts t now Pending ended m is_unread blank begins (leads_on number hosting_of b.parts x.parts paid.parts reached.parts pays.paying.parts) pauses.parts st
  by_rest c b x d t now (Ready output) g ended m is_unread blank begins reached (e, cancels, on, (paid, (pays, completes))) st =
      is_turn number c.parts b.parts paid.parts d.parts t now (Ready output) ended m is_unread blank begins
      (leads_on number hosting_of b.parts x.parts paid.parts reached.parts (leads_on number hosting_of x.parts e.parts paid.parts on.parts pays.paying.parts)) completes.parts st

  by_pause : (c b d : Cx F O P U W J A V) (t : ℕ) (now : Instant) (f : Option F) (e : End) (ended : Ended) (m : Machine) (is_unread : Bool) → c.parts.acts ≡ no_acts is_unread → BeginsParts t now c.parts.acts c.parts b.parts → e ≡ end.Pending → PaysAndPauses number sharing t f ended b d → Matches number hosting_of c.parts m → IsTurnOf number t e ended c.parts d.parts m
  by_pause c b d t now f e ended m is_unread blank begins is (paid, (pays, pauses)) st = subst (λ x. IsTurnOf number t x ended c.parts d.parts m) (sym is) (is_turn number c.parts b.parts paid.parts d.parts t now Pending ended m is_unread blank begins pays.paying.parts pauses.parts st)

  by_spent : (s : Bool) (c b d : Cx F O P U W J A V) (t : ℕ) (now : Instant) (f : F) (e : End) (ended : Ended) (m : Machine) (is_unread : Bool) → c.parts.acts ≡ no_acts is_unread → BeginsParts t now c.parts.acts c.parts b.parts → UnlessSpent number sharing future s t f e ended b d → Matches number hosting_of c.parts m → IsTurnOf number t e ended c.parts d.parts m
  by_spent true c b d t now f e ended m is_unread blank begins runs st = by_pause c b d t now (Some f) e ended m is_unread blank begins runs.0 runs.1 st
  by_spent false c b d t now f e ended m is_unread blank begins runs st = subst (λ x. IsTurnOf number t x ended c.parts d.parts m) (sym runs.is_end) (by_rest c b runs.middle d t now runs.answer runs.left ended m is_unread blank begins runs.reached runs.rest st)

  pub turn_is : (f : Option F) (c b d : Cx F O P U W J A V) (t : ℕ) (now : Instant) (e : End) (ended : Ended) (m : Machine) (is_unread : Bool) → c.parts.acts ≡ no_acts is_unread → BeginsParts t now c.parts.acts c.parts b.parts → Runs number sharing future f t e ended b d → Matches number hosting_of c.parts m → IsTurnOf number t e ended c.parts d.parts m
  turn_is None c b d t now e ended m is_unread blank begins runs st = by_pause c b d t now None e ended m is_unread blank begins runs.0 runs.1 st
  turn_is (Some f) c b d t now e ended m is_unread blank begins runs st = by_spent (future.is_spent f) c b d t now f e ended m is_unread blank begins runs st

  -- no turn runs afterwards
  rest_after : (answer : Poll O) (b x d : Cx F O P U W J A V) (t : ℕ) (g : F) (ended : Ended) → b.parts.tasks.turn ≡ Some t → ReachesSharing number sharing b x → AfterPoll number sharing future answer t g ended x d → d.parts.tasks.turn ≡ None
  rest_after Pending b x d t g ended turn reached (paid, (pays, pauses)) = ended_turn number Pending ended paid.parts d.parts t pauses.parts (pays.paying.parts.same_turn ∙ reached.parts.same_turn ∙ turn)
  rest_after (Ready output) b x d t g ended turn reached (e, cancels, on, (paid, (pays, completes))) = ended_turn number (Ready output) ended paid.parts d.parts t completes.parts (pays.paying.parts.same_turn ∙ on.parts.same_turn ∙ reached.parts.same_turn ∙ turn)

  paused_after : (b d : Cx F O P U W J A V) (t : ℕ) (f : Option F) (ended : Ended) → b.parts.tasks.turn ≡ Some t → PaysAndPauses number sharing t f ended b d → d.parts.tasks.turn ≡ None
  paused_after b d t f ended turn (paid, (pays, pauses)) = ended_turn number Pending ended paid.parts d.parts t pauses.parts (pays.paying.parts.same_turn ∙ turn)

  spent_after : (s : Bool) (b d : Cx F O P U W J A V) (t : ℕ) (f : F) (e : End) (ended : Ended) → b.parts.tasks.turn ≡ Some t → UnlessSpent number sharing future s t f e ended b d → d.parts.tasks.turn ≡ None
  spent_after true b d t f e ended turn runs = paused_after b d t (Some f) ended turn runs.1
  spent_after false b d t f e ended turn runs = rest_after runs.answer b runs.middle d t runs.left ended turn runs.reached runs.rest

  pub rests_after : (f : Option F) (b d : Cx F O P U W J A V) (t : ℕ) (e : End) (ended : Ended) → b.parts.tasks.turn ≡ Some t → Runs number sharing future f t e ended b d → d.parts.tasks.turn ≡ None
  rests_after None b d t e ended turn runs = paused_after b d t None ended turn runs.1
  rests_after (Some f) b d t e ended turn runs = spent_after (future.is_spent f) b d t f e ended turn runs

  -- whether there are timers stays
  timers_after : (answer : Poll O) (b x d : Cx F O P U W J A V) (t : ℕ) (g : F) (ended : Ended) → ReachesSharing number sharing b x → AfterPoll number sharing future answer t g ended x d → d.parts.has_timers ≡ b.parts.has_timers
  timers_after Pending b x d t g ended reached (paid, (pays, pauses)) = pauses.parts.has_timers ∙ pays.paying.parts.same_timers ∙ reached.parts.same_timers
  timers_after (Ready output) b x d t g ended reached (e, cancels, on, (paid, (pays, completes))) = completes.parts.has_timers ∙ pays.paying.parts.same_timers ∙ on.parts.same_timers ∙ reached.parts.same_timers

  paused_timers : (b d : Cx F O P U W J A V) (t : ℕ) (f : Option F) (ended : Ended) → PaysAndPauses number sharing t f ended b d → d.parts.has_timers ≡ b.parts.has_timers
  paused_timers b d t f ended (paid, (pays, pauses)) = pauses.parts.has_timers ∙ pays.paying.parts.same_timers

  spent_timers : (s : Bool) (b d : Cx F O P U W J A V) (t : ℕ) (f : F) (e : End) (ended : Ended) → UnlessSpent number sharing future s t f e ended b d → d.parts.has_timers ≡ b.parts.has_timers
  spent_timers true b d t f e ended runs = paused_timers b d t (Some f) ended runs.1
  spent_timers false b d t f e ended runs = timers_after runs.answer b runs.middle d t runs.left ended runs.reached runs.rest

  pub same_has_timers : (f : Option F) (b d : Cx F O P U W J A V) (t : ℕ) (e : End) (ended : Ended) → Runs number sharing future f t e ended b d → d.parts.has_timers ≡ b.parts.has_timers
  same_has_timers None b d t e ended runs = paused_timers b d t None ended runs.1
  same_has_timers (Some f) b d t e ended runs = spent_timers (future.is_spent f) b d t f e ended runs

  -- the shared value was led
  by_same : ((w : W) → sharing.leads w w) → (u v : W) → v ≡ u → sharing.leads u v
  by_same itself u v same = subst (λ w. sharing.leads u w) (sym same) (itself u)

  paused_led : ((w : W) → sharing.leads w w) → ((u v w : W) → sharing.leads u v → sharing.leads v w → sharing.leads u w) → (b d : Cx F O P U W J A V) (t : ℕ) (f : Option F) (ended : Ended) → PaysAndPauses number sharing t f ended b d → sharing.leads b.shared d.shared
  paused_led itself on b d t f ended (paid, (pays, pauses)) = on b.shared paid.shared d.shared pays.paying.led (by_same itself paid.shared d.shared pauses.shared)

  rest_led : ((w : W) → sharing.leads w w) → ((u v w : W) → sharing.leads u v → sharing.leads v w → sharing.leads u w) → (answer : Poll O) (b x d : Cx F O P U W J A V) (t : ℕ) (g : F) (ended : Ended) → ReachesSharing number sharing b x → AfterPoll number sharing future answer t g ended x d → sharing.leads b.shared d.shared
  rest_led itself on Pending b x d t g ended reached rest = on b.shared x.shared d.shared reached.shared (paused_led itself on x d t (Some g) ended rest)
  rest_led itself on (Ready output) b x d t g ended reached (e, cancels, further, (paid, (pays, completes))) =
      on b.shared e.shared d.shared (on b.shared x.shared e.shared reached.shared further.shared) (on e.shared paid.shared d.shared pays.paying.led (by_same itself paid.shared d.shared completes.shared))

  spent_led : ((w : W) → sharing.leads w w) → ((u v w : W) → sharing.leads u v → sharing.leads v w → sharing.leads u w) → (s : Bool) (b d : Cx F O P U W J A V) (t : ℕ) (f : F) (e : End) (ended : Ended) → UnlessSpent number sharing future s t f e ended b d → sharing.leads b.shared d.shared
  spent_led itself on true b d t f e ended runs = paused_led itself on b d t (Some f) ended runs.1
  spent_led itself on false b d t f e ended runs = rest_led itself on runs.answer b runs.middle d t runs.left ended runs.reached runs.rest

  pub turn_led : ((w : W) → sharing.leads w w) → ((u v w : W) → sharing.leads u v → sharing.leads v w → sharing.leads u w) → (f : Option F) (b d : Cx F O P U W J A V) (t : ℕ) (e : End) (ended : Ended) → Runs number sharing future f t e ended b d → sharing.leads b.shared d.shared
  turn_led itself on None b d t e ended runs = paused_led itself on b d t None ended runs.1
  turn_led itself on (Some f) b d t e ended runs = spent_led itself on (future.is_spent f) b d t f e ended runs
