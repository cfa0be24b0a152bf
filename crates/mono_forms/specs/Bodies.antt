-- Selects with a body for each branch and a fallback: the answer and the form after one poll, and the answers in the end.
use Rattle.std.specs.Prelude.{ℕ, Option}
use Rattle.std.specs.Fn.{Once}
use Rattle.mono_model.specs.declared.poll.Poll.{Poll}
use Rattle.mono_task.specs.Members.{FutureOf}
use Rattle.mono_combine.specs.declared.pick.Out as out
use Rattle.mono_combine.specs.declared.pick.Out.TheVariants as pick
use Rattle.mono_combine.specs.declared.select.Out2.{Out2}
use Rattle.mono_combine.specs.declared.select.Out2.TheVariants.{First, Second, Disabled}
use Rattle.mono_forms.specs.Maps.{LeadCanPoll, LeadPolls, LeadGives}

module _ {X Y U F G H : Type 0} (f : Once F (X × Unit {0}) U) (g : Once G (Y × Unit {0}) U) (h : Once H (Unit {0}) U) where
  -- Whether the body of the picked branch may be called with its output, or the fallback if no branch is left.
  abbrev pub BodyAsks : F × G × H → Out2 X Y → Type 0
  BodyAsks bodies (First x) = f.pre bodies.0 (x, tt)
  BodyAsks bodies (Second y) = g.pre bodies.1 (y, tt)
  BodyAsks bodies Disabled = h.pre bodies.2 tt

  -- Whether that call may return this.
  abbrev pub BodyLeads : F × G × H → Out2 X Y → U → Type 0
  BodyLeads bodies (First x) u = f.post bodies.0 (x, tt) u
  BodyLeads bodies (Second y) u = g.post bodies.1 (y, tt) u
  BodyLeads bodies Disabled u = h.post bodies.2 tt u

module _ {S C X Y U F G H : Type 0} (select : FutureOf S C (Out2 X Y)) (f : Once F (X × Unit {0}) U) (g : Once G (Y × Unit {0}) U) (h : Once H (Unit {0}) U) where
  abbrev pub BodiesCanPoll : Option (S × (F × G × H)) → Type 0
  BodiesCanPoll = LeadCanPoll select (BodyAsks f g h)

  abbrev pub BodiesPoll : Option (S × (F × G × H)) → C → Poll U → Option (S × (F × G × H)) → C → Type 0
  BodiesPoll = LeadPolls select (BodyLeads f g h)

  abbrev pub BodiesGive : Option (S × (F × G × H)) → U → Type 0
  BodiesGive = LeadGives select (BodyLeads f g h)

module _ {X U F H : Type 0} (f : Once F (ℕ × (X × Unit {0})) U) (h : Once H (Unit {0}) U) where
  abbrev pub ListBodyAsks : F × H → out.Out X → Type 0
  ListBodyAsks bodies (pick.Picked number x) = f.pre bodies.0 (number, (x, tt))
  ListBodyAsks bodies pick.Disabled = h.pre bodies.1 tt

  abbrev pub ListBodyLeads : F × H → out.Out X → U → Type 0
  ListBodyLeads bodies (pick.Picked number x) u = f.post bodies.0 (number, (x, tt)) u
  ListBodyLeads bodies pick.Disabled u = h.post bodies.1 tt u

module _ {S C X U F H : Type 0} (select : FutureOf S C (out.Out X)) (f : Once F (ℕ × (X × Unit {0})) U) (h : Once H (Unit {0}) U) where
  abbrev pub ListBodiesCanPoll : Option (S × (F × H)) → Type 0
  ListBodiesCanPoll = LeadCanPoll select (ListBodyAsks f h)

  abbrev pub ListBodiesPoll : Option (S × (F × H)) → C → Poll U → Option (S × (F × H)) → C → Type 0
  ListBodiesPoll = LeadPolls select (ListBodyLeads f h)

  abbrev pub ListBodiesGive : Option (S × (F × H)) → U → Type 0
  ListBodiesGive = LeadGives select (ListBodyLeads f h)
