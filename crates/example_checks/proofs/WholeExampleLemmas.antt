-- Journals that are not whole.
use Rattle.std.proofs.Common.{◌≡◌, ℕ, ◌+◌, List, [], ◌∷◌, map, Some, None, refl, sym, ◌∙◌, arith}
use Rattle.mono_model.specs.Ticks.{max_nanos}
use Rattle.mono_trace.specs.Order.{misplaced}
use Rattle.mono_trace.specs.declared.marks.Stage.{Stage}
use Rattle.mono_trace.specs.declared.marks.Stage.TheVariants as stage
use Rattle.mono_rt.specs.declared.parts.journals.Entry.{Entry}
use Rattle.mono_rt.specs.declared.parts.journals.Entry.TheVariants.{Now}
use Rattle.example_checks.specs.WholeCalls.{mark_of}
use Rattle.example_checks.specs.WholeExamples.{spawn, turn, drop, one_turn_at, IsNoWholeJournal, TurnIsWhole, HalfIsNone, LateIsNone, UnreadIsNone}

none_some : {A : Type 0} (x : A) → None ≡ Some x → ⊥
none_some x is = cc

out_of_order : (part : List Entry) (at : ℕ × Stage) → misplaced (map mark_of part) ≡ Some at → IsNoWholeJournal part
out_of_order part at is = λ start calls whole. none_some at (sym whole.ordered ∙ is)

pub turn_is_whole : TurnIsWhole
turn_is_whole = record { run = (_, (_, (refl, refl), (_, (refl, refl), (_, (refl, refl), refl)))); ordered = refl; ordered_with_output = refl; in_range = (omega arith, tt) }

pub half_is_none : HalfIsNone
half_is_none = out_of_order (spawn ∷ Now 0 ∷ turn ∷ []) (4, stage.Round 0 0) refl

pub late_is_none : LateIsNone
late_is_none = out_of_order (one_turn_at (max_nanos + 1)) (2, stage.Round 0 0) refl

pub unread_is_none : UnreadIsNone
unread_is_none = out_of_order (spawn ∷ turn ∷ drop ∷ []) (2, stage.Round 0 0) refl
