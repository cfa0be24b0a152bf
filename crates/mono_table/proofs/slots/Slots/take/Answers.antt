use Rattle.std.proofs.Common.{false, None, Some, ap, sym, ◌∙◌}
use Rattle.std.specs.Prelude.{slice_set, slice_index_or}
use Rattle.std.proofs.Math.ListN.{get_or-map}
use Rattle.std.proofs.lemmas.List.{map-set}
use Rattle.mono_model.specs.Table.{with_value}
use Rattle.mono_table.specs.Slots.{value_in, note_in, lent_in, items_of, notes_of, lent_of}
use Rattle.mono_table.specs.declared.slots.Slot.TheVariants.{Lent}
use Rattle.mono_table.proofs.SlotLemmas.{bare_items, bare_notes, now_lent, for_any}
use Rattle.mono_table.proofs.slots.Slots.take.Goals as goal

pub returns-then-not-has-clause-items : goal.returns-then-not-has-clause-items
returns-then-not-has-clause-items g c =
    let table = c.self.inside.places.table in
    sym (ap (λ s. s.items) c.self.view_is) ∙ sym (bare_items table c.args.number (sym c.has.ensures ∙ c.if-not-has.true))
    ∙ ap (λ s. slice_set s.items c.args.number None) c.self.view_is

pub returns-then-not-has-clause-notes : goal.returns-then-not-has-clause-notes
returns-then-not-has-clause-notes g c =
    let table = c.self.inside.places.table in
    sym (ap (λ s. s.notes) c.self.view_is) ∙ sym (bare_notes table c.args.number (sym c.has.ensures ∙ c.if-not-has.true))
    ∙ ap (λ s. slice_set s.notes c.args.number None) c.self.view_is

pub returns-clause-items : goal.returns-clause-items
returns-clause-items g c =
    ap items_of c.replace.ensures.table ∙ map-set value_in c.self.inside.places.table c.args.number (Some Lent)
    ∙ ap (λ s. slice_set s.items c.args.number None) c.self.view_is

pub returns-clause-notes : goal.returns-clause-notes
returns-clause-notes g c =
    ap notes_of c.replace.ensures.table ∙ map-set note_in c.self.inside.places.table c.args.number (Some Lent)
    ∙ ap (λ s. slice_set s.notes c.args.number None) c.self.view_is

pub returns-clause-lent : goal.returns-clause-lent
returns-clause-lent g c =
    let table = c.self.inside.places.table in
    for_any _ _ (
    ap (λ t. slice_index_or (lent_of t) c.args.number false) c.replace.ensures.table
    ∙ get_or-map lent_in (with_value table c.args.number Lent) c.args.number None
    ∙ now_lent table c.args.number (sym c.has.ensures ∙ c.if-not-has.false))
