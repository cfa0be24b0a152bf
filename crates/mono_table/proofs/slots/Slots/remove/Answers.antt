use Rattle.std.proofs.Common.{false, None, ap, sym, ◌∙◌}
use Rattle.std.specs.Prelude.{slice_set}
use Rattle.std.proofs.Math.ListN.{get_or-map}
use Rattle.std.proofs.lemmas.List.{map-set}
use Rattle.mono_table.specs.Slots.{lent_at, lent_in, items_of, notes_of, lent_of}
use Rattle.mono_table.proofs.SlotLemmas.{gone_items, gone_notes}
use Rattle.mono_table.proofs.slots.Slots.remove.Goals as goal

pub returns-clause-items : goal.returns-clause-items
returns-clause-items g c =
    let table = c.self.inside.places.table in
    ap items_of c.remove.ensures
    ∙ gone_items table c.args.number (sym (get_or-map lent_in table c.args.number None) ∙ ap (λ s. lent_at s c.args.number) c.self.view_is ∙ c.requires)
    ∙ ap (λ s. s.items) c.self.view_is

pub returns-clause-notes : goal.returns-clause-notes
returns-clause-notes g c =
    let table = c.self.inside.places.table in
    ap notes_of c.remove.ensures
    ∙ gone_notes table c.args.number (sym (get_or-map lent_in table c.args.number None) ∙ ap (λ s. lent_at s c.args.number) c.self.view_is ∙ c.requires)
    ∙ ap (λ s. s.notes) c.self.view_is

pub returns-clause-lent : goal.returns-clause-lent
returns-clause-lent g c =
    ap lent_of c.remove.ensures ∙ map-set lent_in c.self.inside.places.table c.args.number None
    ∙ ap (λ s. slice_set s.lent c.args.number false) c.self.view_is
