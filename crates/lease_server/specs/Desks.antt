-- What a core does at its desk: runs of its model.
use Rattle.std.specs.Prelude.{◌≡◌, ℕ, List, [], ◌∷◌, ◌++◌, refl}
use Rattle.std.proofs.Common.{sym, subst, ap, ◌∙◌, append_assoc}
use Rattle.std.proofs.lemmas.List.{append-nil}
use Rattle.lease_core.specs.declared.cores.Core.{Core}
use Rattle.lease_core.specs.declared.requests.Reply.{Reply}
use Rattle.lease_core.specs.Cores.{CoreState}
use Rattle.lease_core.specs.Steps.{Event, Run}
use Rattle.lease_core.specs.Refinement.{Refines}
use Rattle.lease_server.specs.Pasts.{events_of, replies_of}
use Rattle.lease_server.specs.declared.desks.Desk.{Desk}

-- For each state that the core refined, the events are a run of its model, with these replies. The core refines the state
-- after the run.
abbrev pub Runs : Core → List Event → List Reply → Core → Type 0
Runs old events replies new = (s : CoreState) → Refines old s → (t : CoreState) × Run s events replies t × Refines new t

-- The core did such a run. Its past grew by the events and by the replies, and the number stays.
pub record Did (old : Desk) (events : List Event) (replies : List Reply) (new : Desk) : Type 0 where
  pub number : new.number ≡ old.number
  pub asked : events_of new.past ≡ events_of old.past ++ events
  pub replied : replies_of new.past ≡ replies_of old.past ++ replies
  pub run : Runs old.core events replies new.core

-- Some run leads from the first to the second.
pub record Leads (old new : Desk) : Type 0 where
  pub events : List Event
  pub replies : List Reply
  pub did : Did old events replies new

-- All events and replies of the core's past are one run of its model from the first state. The core refines the state
-- after it, and has this number.
pub record HasRun (number : ℕ) (first : CoreState) (desk : Desk) : Type 0 where
  pub last : CoreState
  pub run : Run first (events_of desk.past) (replies_of desk.past) last
  pub refines : Refines desk.core last
  pub number_is : desk.number ≡ number

run_on : (s t u : CoreState) (xs ys : List Event) (rs qs : List Reply) → Run s xs rs t → Run t ys qs u → Run s (xs ++ ys) (rs ++ qs) u
run_on s t u [] ys rs qs one two = subst (λ r. Run s ys (r ++ qs) u) (sym one.0) (subst (λ m. Run m ys qs u) one.1 two)
run_on s t u (e ∷ xs) ys rs qs (first, rest, mid, step, more, is) two =
    (first, rest ++ qs, mid, step, run_on mid t u xs ys rest qs more two, ap (λ r. r ++ qs) is ∙ append_assoc first rest qs)

pub did_none : (a : Desk) → Did a [] [] a
did_none a = record { number = refl; asked = sym (append-nil (events_of a.past)); replied = sym (append-nil (replies_of a.past)); run = λ s r. (s, (refl, refl), r) }

pub did_on : (a b c : Desk) (xs ys : List Event) (rs qs : List Reply) → Did a xs rs b → Did b ys qs c → Did a (xs ++ ys) (rs ++ qs) c
did_on a b c xs ys rs qs p q = record {
  number = q.number ∙ p.number;
  asked = q.asked ∙ ap (λ x. x ++ ys) p.asked ∙ append_assoc (events_of a.past) xs ys;
  replied = q.replied ∙ ap (λ x. x ++ qs) p.replied ∙ append_assoc (replies_of a.past) rs qs;
  run = λ s r. let one = p.run s r in let two = q.run one.0 one.2 in (two.0, run_on s one.0 two.0 xs ys rs qs one.1 two.1, two.2);
}

pub leads_itself : (a : Desk) → Leads a a
leads_itself a = record { events = []; replies = []; did = did_none a }

pub leads_on : (a b c : Desk) → Leads a b → Leads b c → Leads a c
leads_on a b c p q = record { events = p.events ++ q.events; replies = p.replies ++ q.replies; did = did_on a b c p.events q.events p.replies q.replies p.did q.did }
