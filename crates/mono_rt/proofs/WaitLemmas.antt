-- How long the driver is parked.
use Rattle.std.proofs.Common.{◌≡◌, ◌<◌, ◌≤◌, ℕ, Some, None, Option, refl, ap, sym, subst, ◌∙◌}
use Rattle.std.specs.Prelude.{◌-◌}
use Rattle.std.specs.Option.{option_map}
use Rattle.std.proofs.Math.ListN.{get_or-map}
use Rattle.mono_model.specs.Ticks.{down}
use Rattle.mono_model.specs.Table.{value_at}
use Rattle.mono_model.specs.Sleeps as model
use Rattle.mono_model.specs.Sleeps.{Arming}
use Rattle.mono_time.specs.SlotRegistration.{NextExpiration}
use Rattle.mono_time.specs.Sleeps as kept
use Rattle.mono_time.specs.Sleeps.{Kept}
use Rattle.mono_time.specs.Refinement.{seen}
use Rattle.mono_time.specs.Timers.{sleeps_of}
use Rattle.mono_machine.specs.Machine.{Machine}
use Rattle.mono_rt.specs.Rounds.{IsOneArmed, WaitsUntil}
use Rattle.mono_blocking.specs.JobSpawns.{Seen}
use Rattle.mono_rt.specs.Refinement.{hosting_of, Matches}
use Rattle.mono_rt.specs.declared.parts.state.Parts.{Parts}

armed_by : (v : Option model.Sleep) (tick : ℕ) (waker : Option ℕ) → option_map seen v ≡ Some (kept.armed tick waker) → (a : Arming) × (v ≡ Some (model.armed a))
armed_by None tick waker is = absurd (cc)
armed_by (Some (model.fresh n)) tick waker is = absurd (cc)
armed_by (Some (model.armed a)) tick waker is = (a, refl)
armed_by (Some model.elapsed) tick waker is = absurd (cc)

module _ {O P : Type 0} (number : O → ℕ) where
  -- the value of the table of sleeps at a number
  value_seen : (c : Parts O (Seen P)) (m : Machine) → Matches number hosting_of c m → (s : ℕ) → value_at (sleeps_of c.timers).table s ≡ option_map seen (value_at m.sleeps.table s)
  value_seen c m st s = ap (λ xs. value_at xs s) (sym st.sleeps.table) ∙ get_or-map (option_map seen) m.sleeps.table s None

  pub waits_none : (c : Parts O (Seen P)) (m : Machine) (reached : ℕ) (registered : ℕ → Option ℕ) → Matches number hosting_of c m → NextExpiration reached registered (sleeps_of c.timers) None → IsOneArmed m → ⊥
  waits_none c m reached registered st none one = none one.0 one.1.0.tick one.1.0.waker (value_seen c m st one.0 ∙ ap (option_map seen) one.1.1)

  pub waits_until : (c : Parts O (Seen P)) (m : Machine) (now until v : ℕ) → Matches number hosting_of c m
      → ((sleeps_of c.timers).greatest < until) × ((s tick : ℕ) (waker : Option ℕ) → value_at (sleeps_of c.timers).table s ≡ Some (kept.armed tick waker) → until ≤ tick)
      → kept.IsOneArmed (sleeps_of c.timers) → v ≡ until - down now → WaitsUntil m now v
  waits_until c m now until v st ahead one is =
      let there : (a : Arming) × (value_at m.sleeps.table one.0 ≡ Some (model.armed a)) = armed_by (value_at m.sleeps.table one.0) one.1.0 one.1.1.0 (sym (value_seen c m st one.0) ∙ one.1.1.1) in
      record {
        until = until;
        is_wait = is;
        above = subst (λ g. g < until) (sym st.sleeps.same_greatest) ahead.0;
        before = λ s a at. ahead.1 s a.tick a.waker (value_seen c m st s ∙ ap (option_map seen) at);
        is_one = (one.0, there);
      }
