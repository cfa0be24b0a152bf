use Rattle.std.proofs.Common.{inl, inr, ap, refl, subst, sym, ◌∙◌, Err}
use Rattle.mono_rt.proofs.JournalLemmas.{does_stay}
use Rattle.mono_rt.proofs.DriverLemmas.{tells_nothing}
use Rattle.std.specs.Prelude.{⊤}
use Rattle.mono_rt.specs.SpawnErrors.{HasPlace}
use Rattle.mono_rt.specs.declared.parts.errors.RunError.TheVariants.{Memory}
use Rattle.mono_rt.proofs.PlaceLemmas.{placed, no_place, not_refused, if_refused}
use Rattle.mono_rt.proofs.runtimes.Runtime.start_main.Goals as goal

pub returns-in-Err-clause-told : goal.returns-in-Err-clause-told
returns-in-Err-clause-told g c = tells_nothing refl refl refl

pub returns-in-Err-start_main-clause-told : goal.returns-in-Err-start_main-clause-told
returns-in-Err-start_main-clause-told g c = c.start_main.ensures.told _

pub returns-in-Ok-start_main-clause-told : goal.returns-in-Ok-start_main-clause-told
returns-in-Ok-start_main-clause-told g c = c.start_main.ensures.told _

pub returns-then-has_no_place-clause-told : goal.returns-then-has_no_place-clause-told
returns-then-has_no_place-clause-told g c = c.refuse_main.ensures.told _

pub returns-then-has_no_place-clause-place : goal.returns-then-has_no_place-clause-place
returns-then-has_no_place-clause-place g c = no_place ⊤ c.refuse_main.result _ _ _ (sym c.has_no_place.ensures ∙ c.if-has_no_place.true) c.refuse_main.ensures.refused c.refuse_main.ensures.kept

pub returns-in-Err-clause-place : goal.returns-in-Err-clause-place
returns-in-Err-clause-place g c = placed ⊤ ⊤ Memory _ _ (sym c.has_no_place.ensures ∙ c.if-has_no_place.false) tt

pub returns-in-Err-start_main-clause-place : goal.returns-in-Err-start_main-clause-place
returns-in-Err-start_main-clause-place g c =
    let free = sym c.has_no_place.ensures ∙ c.if-has_no_place.false in
    placed ⊤ ⊤ c.in-Err-start_main.error _ _ free (subst (HasPlace {A = ⊤} (Err c.in-Err-start_main.error)) free c.in-Err-start_main.ensures.place)

pub returns-then-has_no_place-clause-untouched : goal.returns-then-has_no_place-clause-untouched
returns-then-has_no_place-clause-untouched g c = if_refused ⊤ c.refuse_main.result _ refl

pub returns-in-Err-start_main-clause-untouched : goal.returns-in-Err-start_main-clause-untouched
returns-in-Err-start_main-clause-untouched g c =
    let free = sym c.has_no_place.ensures ∙ c.if-has_no_place.false in
    not_refused ⊤ ⊤ c.in-Err-start_main.error _ (subst (HasPlace {A = ⊤} (Err c.in-Err-start_main.error)) free c.in-Err-start_main.ensures.place)

pub returns-in-Err-start_main-clause-full : goal.returns-in-Err-start_main-clause-full
returns-in-Err-start_main-clause-full g c = c.start_main.ensures.full

pub returns-then-has_no_place-clause-none : goal.returns-then-has_no_place-clause-none
returns-then-has_no_place-clause-none g c = record { refused = c.refuse_main.ensures.refused; stays = c.refuse_main.ensures.unmade; tasks = refl; futures = refl; unkept = inl refl; held = c.refuse_main.ensures.held }

pub returns-in-Err-clause-none : goal.returns-in-Err-clause-none
returns-in-Err-clause-none g c =
    let old = c.args.self.now in
    record {
      refused = tt;
      stays = does_stay g.O.Outcome.output_number old.cx.parts old.cx.parts old.journal old.journal refl refl refl refl refl;
      tasks = refl;
      futures = c.reserve_value.ensures.same.items;
      unkept = inl (ap (λ s. s.reserved) c.in-Err.ensures.refused);
      held = refl;
    }

pub returns-in-Err-start_main-clause-none : goal.returns-in-Err-start_main-clause-none
returns-in-Err-start_main-clause-none g c = record {
  refused = c.in-Err-start_main.ensures.refused;
  stays = c.in-Err-start_main.ensures.unmade;
  tasks = c.in-Err-start_main.ensures.same;
  futures = c.abort.ensures.same.items ∙ c.reserve_value.ensures.same.items;
  unkept = inr c.abort.ensures.reserved;
  held = c.in-Err-start_main.ensures.unheld;
}

pub returns-in-Ok-start_main-clause-made : goal.returns-in-Ok-start_main-clause-made
returns-in-Ok-start_main-clause-made g c = record {
  spawn = c.in-Ok-start_main.ensures.spawned;
  is_next = c.in-Ok-start_main.ensures.number;
  tasks = c.in-Ok-start_main.ensures.made;
  futures = rw (c.reserve_value.ensures.same.items, c.in-Ok.ensures.reserved) at c.commit.ensures.items;
  held = c.in-Ok-start_main.ensures.held;
}
