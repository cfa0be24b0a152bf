use Rattle.std.proofs.Common.{◌≡◌, ◌/◌, inl, inr, length, refl, ap, sym, ◌∙◌, arith}
use Rattle.std.specs.Prelude.{slice_set, Result, Ok, Err, OnErr}
use Rattle.std.proofs.lemmas.List.{length-set}
use Rattle.mono_inbox.specs.declared.standings.Standing.TheVariants.{Unknown}
use Rattle.mono_inbox.specs.Standings.{standing_at, has_place, count_where}
use Rattle.mono_inbox.specs.Pages.{child_at, with_mark, laid_standings}
use Rattle.mono_inbox.proofs.LayoutLemmas.{closing_laid, closing_same, reading_unknown, marking_is, marking_laid, put_back, mark-count, count_within, length-closed, length-standings_of}
use Rattle.mono_inbox.specs.Pages.{look_in}
use Rattle.mono_inbox.proofs.parts.Part.mark.Goals as goal

on_err : {A E : Type 0} (r : Result A E) (P : Type 0) → P → OnErr r P
on_err (Ok x) P p = tt
on_err (Err e) P p = p

pub invariant_of-self : goal.invariant_of-self
invariant_of-self c = record {
  laid = closing_laid 4096 (omega arith) c.self.inside.pages.items c.self.inside.len c.self.invariant.laid (c.args.task / 4096) c.open_page.new.pages.items (λ i. c.open_page.ensures.same i ∙ ap (λ ps. child_at ps i) c.close_before.ensures.items);
  within = c.self.invariant.within;
  placed_is = c.self.invariant.placed_is ∙ sym (ap (count_where has_place) (closing_same 4096 (omega arith) c.self.inside.pages.items c.self.inside.len c.self.invariant.laid (c.args.task / 4096) c.open_page.new.pages.items (λ i. c.open_page.ensures.same i ∙ ap (λ ps. child_at ps i) c.close_before.ensures.items)));
  bare = λ none. c.in_err-open_page.ensures.room ∙ c.close_before.ensures.room ∙ c.self.invariant.bare (sym (length-closed c.self.inside.pages.items (c.self.inside.len / 4096) (c.args.task / 4096)) ∙ sym (ap length c.close_before.ensures.items) ∙ sym (ap length c.in_err-open_page.ensures.refused) ∙ none);
}

pub returns-in_err-open_page-clause-refused : goal.returns-in_err-open_page-clause-refused
returns-in_err-open_page-clause-refused c = on_err c.from_residual.result _ (closing_same 4096 (omega arith) c.self.inside.pages.items c.self.inside.len c.self.invariant.laid (c.args.task / 4096) c.open_page.new.pages.items (λ i. c.open_page.ensures.same i ∙ ap (λ ps. child_at ps i) c.close_before.ensures.items) ∙ c.self.view_is)

pub mark-requires-clause-unknown : goal.mark-requires-clause-unknown
mark-requires-clause-unknown c =
    let unknown : standing_at (laid_standings 4096 c.self.inside.pages.items c.self.inside.len) c.args.task ≡ Unknown = ap (λ s. standing_at s c.args.task) c.self.view_is ∙ c.requires.unknown in
    reading_unknown 4096 (omega arith) c.self.inside.pages.items c.self.inside.len c.self.invariant.laid (c.args.task / 4096) c.open_page.new.pages.items (λ i. c.open_page.ensures.same i ∙ ap (λ ps. child_at ps i) c.close_before.ensures.items) c.args.task refl c.in_ok-open_page.ensures.inside c.index_mut.result.now c.index_mut.ensures.value unknown

pub invariant_of-self-in_err-mark : goal.invariant_of-self-in_err-mark
invariant_of-self-in_err-mark c = record {
  laid = closing_laid 4096 (omega arith) c.self.inside.pages.items c.self.inside.len c.self.invariant.laid (c.args.task / 4096) (slice_set c.open_page.new.pages.items (c.args.task / 4096) c.mark.new.self) (λ i. put_back c.open_page.new.pages.items (c.args.task / 4096) c.index_mut.result.now c.mark.new.self c.in_ok-open_page.ensures.inside c.index_mut.ensures.value c.in_err-mark.ensures.refused i ∙ c.open_page.ensures.same i ∙ ap (λ ps. child_at ps i) c.close_before.ensures.items);
  within = c.self.invariant.within;
  placed_is = c.self.invariant.placed_is ∙ sym (ap (count_where has_place) (closing_same 4096 (omega arith) c.self.inside.pages.items c.self.inside.len c.self.invariant.laid (c.args.task / 4096) (slice_set c.open_page.new.pages.items (c.args.task / 4096) c.mark.new.self) (λ i. put_back c.open_page.new.pages.items (c.args.task / 4096) c.index_mut.result.now c.mark.new.self c.in_ok-open_page.ensures.inside c.index_mut.ensures.value c.in_err-mark.ensures.refused i ∙ c.open_page.ensures.same i ∙ ap (λ ps. child_at ps i) c.close_before.ensures.items)));
  bare = λ none. absurd (omega (arith, none, length-set c.open_page.new.pages.items (c.args.task / 4096) c.mark.new.self, c.in_ok-open_page.ensures.inside));
}

pub returns-in_err-mark-clause-refused : goal.returns-in_err-mark-clause-refused
returns-in_err-mark-clause-refused c = on_err c.from_residual-in_err-mark.result _ (closing_same 4096 (omega arith) c.self.inside.pages.items c.self.inside.len c.self.invariant.laid (c.args.task / 4096) (slice_set c.open_page.new.pages.items (c.args.task / 4096) c.mark.new.self) (λ i. put_back c.open_page.new.pages.items (c.args.task / 4096) c.index_mut.result.now c.mark.new.self c.in_ok-open_page.ensures.inside c.index_mut.ensures.value c.in_err-mark.ensures.refused i ∙ c.open_page.ensures.same i ∙ ap (λ ps. child_at ps i) c.close_before.ensures.items) ∙ c.self.view_is)

pub overflow_add-self : goal.overflow_add-self
overflow_add-self c =
    let before = laid_standings 4096 c.self.inside.pages.items c.self.inside.len in
    omega (arith, c.self.invariant.placed_is, count_within before, length-standings_of (look_in 4096 c.self.inside.pages.items) c.self.inside.len, c.self.invariant.within)

pub invariant_of-self-2 : goal.invariant_of-self-2
invariant_of-self-2 c =
    let before = laid_standings 4096 c.self.inside.pages.items c.self.inside.len in
    let unknown : standing_at before c.args.task ≡ Unknown = ap (λ s. standing_at s c.args.task) c.self.view_is ∙ c.requires.unknown in
    let is = marking_is 4096 (omega arith) c.self.inside.pages.items c.self.inside.len c.self.invariant.laid (c.args.task / 4096) c.open_page.new.pages.items (λ i. c.open_page.ensures.same i ∙ ap (λ ps. child_at ps i) c.close_before.ensures.items) c.args.task refl c.in_ok-open_page.ensures.inside c.args.standing c.requires.placed c.index_mut.result.now c.mark.new.self c.index_mut.ensures.value c.in_ok-mark.ensures.after c.greater_of-len.result c.greater_of-len.ensures.first c.greater_of-len.ensures.second c.greater_of-len.ensures.one in
    record {
      laid = marking_laid 4096 (omega arith) c.self.inside.pages.items c.self.inside.len c.self.invariant.laid (c.args.task / 4096) c.open_page.new.pages.items (λ i. c.open_page.ensures.same i ∙ ap (λ ps. child_at ps i) c.close_before.ensures.items) c.args.task refl c.in_ok-open_page.ensures.inside c.args.standing c.requires.placed c.index_mut.result.now c.mark.new.self c.index_mut.ensures.value c.in_ok-mark.ensures.after c.greater_of-len.result c.greater_of-len.ensures.first c.greater_of-len.ensures.second c.greater_of-len.ensures.one;
      within = elim c.greater_of-len.ensures.one [
        | inl stays ↦ omega (arith, stays, c.self.invariant.within)
        | inr grows ↦ omega (arith, grows, c.requires.inside)
      ];
      placed_is = omega (arith, c.self.invariant.placed_is, mark-count before c.args.task c.args.standing unknown c.requires.placed, ap (count_where has_place) is);
      bare = λ none. absurd (omega (arith, none, length-set c.open_page.new.pages.items (c.args.task / 4096) c.mark.new.self, c.in_ok-open_page.ensures.inside));
    }

pub returns-clause-after : goal.returns-clause-after
returns-clause-after c = marking_is 4096 (omega arith) c.self.inside.pages.items c.self.inside.len c.self.invariant.laid (c.args.task / 4096) c.open_page.new.pages.items (λ i. c.open_page.ensures.same i ∙ ap (λ ps. child_at ps i) c.close_before.ensures.items) c.args.task refl c.in_ok-open_page.ensures.inside c.args.standing c.requires.placed c.index_mut.result.now c.mark.new.self c.index_mut.ensures.value c.in_ok-mark.ensures.after c.greater_of-len.result c.greater_of-len.ensures.first c.greater_of-len.ensures.second c.greater_of-len.ensures.one ∙ ap (λ s. with_mark s c.args.task c.args.standing) c.self.view_is
