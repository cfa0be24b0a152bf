use Rattle.std.proofs.Common.{◌≡◌, ◌/◌, refl, ap, ◌∙◌, arith}
use Rattle.std.specs.Prelude.{slice_set, Result, Ok, Err, OnErr}
use Rattle.mono_inbox.specs.declared.standings.Standing.TheVariants.{Unknown}
use Rattle.mono_inbox.specs.Standings.{standing_at}
use Rattle.mono_inbox.specs.Pages.{child_at, with_mark, laid_standings}
use Rattle.mono_inbox.proofs.LayoutLemmas.{closing_laid, closing_same, reading_unknown, marking_is, marking_laid, put_back}
use Rattle.mono_inbox.proofs.marks.Marks.mark.Goals as goal

on_err : {A E : Type 0} (r : Result A E) (P : Type 0) → P → OnErr r P
on_err (Ok x) P p = tt
on_err (Err e) P p = p

pub invariant_of-self : goal.invariant_of-self
invariant_of-self c = closing_laid 1048576 (omega arith) c.self.inside.parts.items c.self.inside.len c.self.invariant (c.args.task / 1048576) c.open_part.new.parts.items (λ i. c.open_part.ensures.same i ∙ ap (λ ps. child_at ps i) c.close_before.ensures)

pub returns-in_err-open_part-clause-refused : goal.returns-in_err-open_part-clause-refused
returns-in_err-open_part-clause-refused c = on_err c.from_residual.result _ (closing_same 1048576 (omega arith) c.self.inside.parts.items c.self.inside.len c.self.invariant (c.args.task / 1048576) c.open_part.new.parts.items (λ i. c.open_part.ensures.same i ∙ ap (λ ps. child_at ps i) c.close_before.ensures) ∙ c.self.view_is)

pub mark-requires-clause-unknown : goal.mark-requires-clause-unknown
mark-requires-clause-unknown c =
    let unknown : standing_at (laid_standings 1048576 c.self.inside.parts.items c.self.inside.len) c.args.task ≡ Unknown = ap (λ s. standing_at s c.args.task) c.self.view_is ∙ c.requires.unknown in
    reading_unknown 1048576 (omega arith) c.self.inside.parts.items c.self.inside.len c.self.invariant (c.args.task / 1048576) c.open_part.new.parts.items (λ i. c.open_part.ensures.same i ∙ ap (λ ps. child_at ps i) c.close_before.ensures) c.args.task refl c.in_ok-open_part.ensures.inside c.index_mut.result.now c.index_mut.ensures.value unknown

pub invariant_of-self-in_err-mark : goal.invariant_of-self-in_err-mark
invariant_of-self-in_err-mark c = closing_laid 1048576 (omega arith) c.self.inside.parts.items c.self.inside.len c.self.invariant (c.args.task / 1048576) (slice_set c.open_part.new.parts.items (c.args.task / 1048576) c.mark.new.self) (λ i. put_back c.open_part.new.parts.items (c.args.task / 1048576) c.index_mut.result.now c.mark.new.self c.in_ok-open_part.ensures.inside c.index_mut.ensures.value c.in_err-mark.ensures.refused i ∙ c.open_part.ensures.same i ∙ ap (λ ps. child_at ps i) c.close_before.ensures)

pub returns-in_err-mark-clause-refused : goal.returns-in_err-mark-clause-refused
returns-in_err-mark-clause-refused c = on_err c.from_residual-in_err-mark.result _ (closing_same 1048576 (omega arith) c.self.inside.parts.items c.self.inside.len c.self.invariant (c.args.task / 1048576) (slice_set c.open_part.new.parts.items (c.args.task / 1048576) c.mark.new.self) (λ i. put_back c.open_part.new.parts.items (c.args.task / 1048576) c.index_mut.result.now c.mark.new.self c.in_ok-open_part.ensures.inside c.index_mut.ensures.value c.in_err-mark.ensures.refused i ∙ c.open_part.ensures.same i ∙ ap (λ ps. child_at ps i) c.close_before.ensures) ∙ c.self.view_is)

pub invariant_of-self-2 : goal.invariant_of-self-2
invariant_of-self-2 c = marking_laid 1048576 (omega arith) c.self.inside.parts.items c.self.inside.len c.self.invariant (c.args.task / 1048576) c.open_part.new.parts.items (λ i. c.open_part.ensures.same i ∙ ap (λ ps. child_at ps i) c.close_before.ensures) c.args.task refl c.in_ok-open_part.ensures.inside c.args.standing c.requires.placed c.index_mut.result.now c.mark.new.self c.index_mut.ensures.value c.in_ok-mark.ensures.after c.greater_of-len.result c.greater_of-len.ensures.first c.greater_of-len.ensures.second c.greater_of-len.ensures.one

pub returns-clause-after : goal.returns-clause-after
returns-clause-after c = marking_is 1048576 (omega arith) c.self.inside.parts.items c.self.inside.len c.self.invariant (c.args.task / 1048576) c.open_part.new.parts.items (λ i. c.open_part.ensures.same i ∙ ap (λ ps. child_at ps i) c.close_before.ensures) c.args.task refl c.in_ok-open_part.ensures.inside c.args.standing c.requires.placed c.index_mut.result.now c.mark.new.self c.index_mut.ensures.value c.in_ok-mark.ensures.after c.greater_of-len.result c.greater_of-len.ensures.first c.greater_of-len.ensures.second c.greater_of-len.ensures.one ∙ ap (λ s. with_mark s c.args.task c.args.standing) c.self.view_is
