-- When a journal becomes full, piece by piece.
use Rattle.std.proofs.Common.{◌≡◌, ◌<◌, ◌⊎◌, ℕ, Bool, true, false, inl, inr, refl, ap, sym, subst, ◌∙◌}
use Rattle.std.specs.Prelude.{◌||◌, length}
use Rattle.std.proofs.lemmas.Bool.{ltb-true}
use Rattle.mono_model.specs.declared.Ended.{Ended}
use Rattle.mono_task.specs.Members.{FutureOf, SharedOf}
use Rattle.mono_time.specs.declared.instant.Instant.{Instant}
use Rattle.mono_machine.specs.Machine.{Machine}
use Rattle.mono_machine.specs.declared.events.End.{End}
use Rattle.mono_rt.specs.Record.{no_acts, room}
use Rattle.mono_rt.specs.Refinement.{hosting_of, Matches}
use Rattle.mono_rt.specs.Turns.{Turn}
use Rattle.mono_rt.specs.PartTurns.{IsTurnOf}
use Rattle.mono_rt.specs.Journals.{Goes}
use Rattle.mono_rt.specs.JournalRoom.{LongTurn, IsOneLong, FilledBy, Fills}
use Rattle.mono_rt.specs.declared.contexts.Cx.{Cx}
use Rattle.mono_rt.specs.declared.parts.journals.Journal.{Journal}
use Rattle.mono_rt.proofs.JournalLemmas.{goes_on}

true-false : true ≡ false → ⊥
true-false e = cc

-- which of two holds
either : (a b : Bool) → (a || b) ≡ true → (a ≡ true) ⊎ ((a ≡ false) × (b ≡ true))
either true b is = inl refl
either false b is = inr (refl, is)

still_true : (a b : Bool) → a ≡ true → (a || b) ≡ true
still_true true b is = refl
still_true false b is = absurd (true-false (sym is))

module _ {F O P U W J A V : Type 0} (number : O → ℕ) (sharing : SharedOf W) (future : FutureOf F (Cx F O P U W J A V) O) where
  -- a call that leaves it unchanged
  pub fills_not : (c : Cx F O P U W J A V) (j k : Journal) → k.is_full ≡ j.is_full → Fills number sharing future c j k
  fills_not c j k same = record { filled = λ full. inl (sym same ∙ full); stays = λ was. same ∙ was }

  filled_later : (a b : Cx F O P U W J A V) (i j : Journal) → Goes number a.parts b.parts i j → FilledBy number sharing future b j → FilledBy number sharing future a i
  filled_later a b i j goes f = record { before = f.before; after = f.after; so_far = f.so_far; went = goes_on number a.parts b.parts f.before.parts i j f.so_far goes f.went; unfull = f.unfull; long = f.long }

  -- one after the other
  pub fills_on : (a b : Cx F O P U W J A V) (i j k : Journal) → Goes number a.parts b.parts i j → Fills number sharing future a i j → Fills number sharing future b j k → Fills number sharing future a i k
  fills_on a b i j k goes first second = record {
    filled = λ full. elim (second.filled full) [
      | inl was ↦ first.filled was
      | inr f ↦ inr (filled_later a b i j goes f)
    ];
    stays = λ was. second.stays (first.stays was);
  }

  -- then something that leaves it as it is
  pub fills_still : (a : Cx F O P U W J A V) (i j k : Journal) → Fills number sharing future a i j → k.is_full ≡ j.is_full → Fills number sharing future a i k
  fills_still a i j k first same = record { filled = λ full. first.filled (sym same ∙ full); stays = λ was. same ∙ first.stays was }

  -- a turn
  pub fills_turn : (c b d : Cx F O P U W J A V) (i j k : Journal) (t : ℕ) (now : Instant) (e : End) (ended : Ended) → Goes number c.parts b.parts i j → j.is_full ≡ i.is_full → (j.is_full ≡ false → b.parts.acts ≡ no_acts false)
      → Turn number sharing future t now b.parts.acts e ended b d → ((m : Machine) → Matches number hosting_of b.parts m → IsTurnOf number t e ended b.parts d.parts m)
      → k.is_full ≡ (j.is_full || d.parts.acts.is_full) → Fills number sharing future c i k
  fills_turn c b d i j k t now e ended goes same empty turn is kept = record {
    filled = λ full. elim (either j.is_full d.parts.acts.is_full (sym kept ∙ full)) [
      | inl was ↦ inl (sym same ∙ was)
      | inr (unfull, long) ↦ inr (record {
        before = b;
        after = d;
        so_far = j;
        went = goes;
        unfull = unfull;
        long = record {
          task = t;
          now = now;
          ending = e;
          ended = ended;
          turn = subst (λ a. Turn number sharing future t now a e ended b d) (empty unfull) turn;
          is_full = long;
          acts = λ m st. (is m st, ltb-true room (length (is m st).steps) (sym ((is m st).full (ap (λ x. x.is_full) (empty unfull))) ∙ long));
        };
      })
    ];
    stays = λ was. kept ∙ still_true j.is_full d.parts.acts.is_full (same ∙ was);
  }

  -- from a journal that was not full
  pub one_long : (c : Cx F O P U W J A V) (j k l : Journal) → j.is_full ≡ false → l ≡ k → Fills number sharing future c j k → l.is_full ≡ true → IsOneLong number sharing future
  one_long c j k l unfull same fills full = elim (fills.filled (ap (λ x. x.is_full) (sym same) ∙ full)) [
    | inl was ↦ absurd (true-false (sym was ∙ unfull))
    | inr f ↦ (f.before, (f.after, f.long))
  ]
