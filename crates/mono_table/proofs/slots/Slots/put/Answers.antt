use Rattle.std.proofs.Common.{false, Some, ap, ◌∙◌}
use Rattle.std.specs.Prelude.{slice_set}
use Rattle.std.proofs.lemmas.List.{map-set}
use Rattle.mono_table.specs.Slots.{value_in, note_in, lent_in, items_of, notes_of, lent_of}
use Rattle.mono_table.specs.declared.slots.Slot.TheVariants.{Kept}
use Rattle.mono_table.proofs.slots.Slots.put.Goals as goal

pub returns-clause-items : goal.returns-clause-items
returns-clause-items g c =
    ap items_of c.replace.ensures.table ∙ map-set value_in c.self.inside.places.table c.args.number (Some (Kept c.args.value c.args.beside))
    ∙ ap (λ s. slice_set s.items c.args.number (Some c.args.value)) c.self.view_is

pub returns-clause-notes : goal.returns-clause-notes
returns-clause-notes g c =
    ap notes_of c.replace.ensures.table ∙ map-set note_in c.self.inside.places.table c.args.number (Some (Kept c.args.value c.args.beside))
    ∙ ap (λ s. slice_set s.notes c.args.number c.args.beside) c.self.view_is

pub returns-clause-lent : goal.returns-clause-lent
returns-clause-lent g c =
    ap lent_of c.replace.ensures.table ∙ map-set lent_in c.self.inside.places.table c.args.number (Some (Kept c.args.value c.args.beside))
    ∙ ap (λ s. slice_set s.lent c.args.number false) c.self.view_is
