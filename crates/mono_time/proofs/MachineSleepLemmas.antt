-- The machine's sleeps after one of them is in another state.
use Rattle.std.proofs.Common.{◌≡◌, ℕ, ◌+◌, true, List, set, Some, None, ap, sym, subst, ◌∙◌, arith}
use Rattle.std.specs.Prelude.{Option, slice_get}
use Rattle.std.proofs.lemmas.List.{set-get_or}
use Rattle.mono_model.specs.Table.{Table, value_at}
use Rattle.mono_model.specs.Sleeps as model
use Rattle.mono_model.specs.Sleeps.{Sleeps, Arming, with_sleep, armed_anew}
use Rattle.mono_wheel.specs.Model.{Wheel, Timed, timed_at, Precedes, Changed}
use Rattle.mono_time.specs.Sleeps.{Kept, armed}
use Rattle.mono_time.specs.Representation.{Holds, ArmedAnew}
use Rattle.mono_time.specs.Refinement.{Standing, seen}
use Rattle.mono_time.specs.declared.entry.Entry.{Entry}
use Rattle.mono_time.proofs.SleepChangeLemmas.{key_apart}
use Rattle.mono_time.proofs.RefinementLemmas.{standing-written}
use Rattle.mono_time.proofs.PlacementLemmas.{placed-unarmed, placed-moved, placed-same, placed-anew}
use Rattle.mono_time.proofs.KeyCallLemmas.{Turned}

module _ (wheel left : Wheel) (keys : Table ℕ) (entries : List Entry) (greatest live limit : ℕ) (holds : Holds wheel keys entries greatest live)
    (s k : ℕ) (e f : Entry) (at : value_at keys s ≡ Some k) (was : slice_get entries k ≡ Some e) (same : f.sleep ≡ e.sleep) (kept : Kept)
    (turned : Turned wheel left k e.state f.state kept) (m : Sleeps) (st : Standing wheel keys entries greatest limit m) where
  abbrev pub StandsAfter : Sleeps → Type 0
  StandsAfter after = Standing left keys (set entries k f) greatest limit after

  pub stands-unarmed : (new : model.Sleep) → seen new ≡ kept → ((a : Arming) → new ≡ model.armed a → ⊥) → StandsAfter (with_sleep m s new)
  stands-unarmed new sees none =
      standing-written wheel left keys entries greatest live limit holds s k e f at was same turned.keeps m st new m.arm_count (omega arith) (sees ∙ sym turned.now_kept)
      (placed-unarmed left keys m m.arm_count s k new none)

  pub stands-moved : (a b : Arming) → value_at m.table s ≡ Some (model.armed a) → b.arm ≡ a.arm → b.is_moved ≡ true → armed b.tick b.waker ≡ kept → StandsAfter (with_sleep m s (model.armed b))
  stands-moved a b at_m arm moved sees =
      standing-written wheel left keys entries greatest live limit holds s k e f at was same turned.keeps m st (model.armed b) m.arm_count (omega arith) (sees ∙ sym turned.now_kept)
      (placed-moved wheel left keys entries greatest limit m st s k at a b at_m arm moved)

  pub stands-anew : (tick : ℕ) (waker : Option ℕ) → ArmedAnew wheel left k tick → armed tick waker ≡ kept → StandsAfter (armed_anew m s tick waker)
  stands-anew tick waker anew sees =
      standing-written wheel left keys entries greatest live limit holds s k e f at was same turned.keeps m st _ (m.arm_count + 1) (omega arith) (sees ∙ sym turned.now_kept)
      (placed-anew wheel left keys entries greatest limit m st s k at tick waker anew (key_apart wheel left keys entries greatest live holds s k e f at was same turned.keeps))

  -- The key stays in its place.
  pub stands-same : (a b : Arming) → value_at m.table s ≡ Some (model.armed a) → b.arm ≡ a.arm → b.tick ≡ a.tick → b.is_moved ≡ a.is_moved → left ≡ wheel → armed b.tick b.waker ≡ kept → StandsAfter (with_sleep m s (model.armed b))
  stands-same a b at_m arm tick moved still sees =
      standing-written wheel left keys entries greatest live limit holds s k e f at was same turned.keeps m st (model.armed b) m.arm_count (omega arith) (sees ∙ sym turned.now_kept)
      (placed-same wheel left keys entries greatest limit m st s k at a b at_m arm tick moved
      (λ t is. subst (λ w. timed_at w k ≡ Some record { tick = t; registered = t }) (sym still) is)
      (λ j t apart is_k is_j before. subst (λ w. Precedes w k j) (sym still) before)
      (λ j t apart is_k is_j before. subst (λ w. Precedes w j k) (sym still) before)
      (key_apart wheel left keys entries greatest live holds s k e f at was same turned.keeps))

  -- the key was extended to its own tick
  pub stands-extended : (a b : Arming) (timed : Timed) → value_at m.table s ≡ Some (model.armed a) → b.arm ≡ a.arm → b.tick ≡ a.tick → b.is_moved ≡ a.is_moved
      → timed_at wheel k ≡ Some timed → Changed wheel left k (Some timed) → armed b.tick b.waker ≡ kept → StandsAfter (with_sleep m s (model.armed b))
  stands-extended a b timed at_m arm tick moved is change sees =
      standing-written wheel left keys entries greatest live limit holds s k e f at was same turned.keeps m st (model.armed b) m.arm_count (omega arith) (sees ∙ sym turned.now_kept)
      (placed-same wheel left keys entries greatest limit m st s k at a b at_m arm tick moved
      (λ t is_k. change.here ∙ sym is ∙ is_k)
      (λ j t apart is_k is_j before. change.order k j before (change.here ∙ sym is) (change.others j apart))
      (λ j t apart is_k is_j before. change.order j k before (change.others j apart) (change.here ∙ sym is))
      (key_apart wheel left keys entries greatest live holds s k e f at was same turned.keeps))

-- a sleep that is written as it was
pub with_same : (m : Sleeps) (s : ℕ) (sleep : model.Sleep) → value_at m.table s ≡ Some sleep → with_sleep m s sleep ≡ m
with_same m s sleep at = ap (λ t. record { table = t; greatest = m.greatest; arm_count = m.arm_count; limit = m.limit }) (ap (λ v. set m.table s v) (sym at) ∙ set-get_or m.table s None)
