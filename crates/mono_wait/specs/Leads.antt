-- The sources of a form whose answer is made of the answer of one future.
use Rattle.std.specs.Prelude.{◌≡◌, Option, Some, None}
use Rattle.std.proofs.Common.{sym, subst}
use Rattle.mono_model.specs.declared.poll.Poll.{Poll}
use Rattle.mono_model.specs.declared.poll.Poll.TheVariants.{Ready, Pending}
use Rattle.mono_task.specs.Members.{FutureOf}
use Rattle.mono_forms.specs.Parts.{PartCancels}
use Rattle.mono_forms.specs.Maps.{LeadsTo, AfterPart, PartPolls, LeadPolls}
use Rattle.mono_wait.specs.Sources.{Source}
use Rattle.mono_wait.specs.Frames.{Frame, Part, Needs, CoversIn, same_reached}

-- those of the future, until it has answered
abbrev pub LeadNeeds : {A F : Type 0} → Needs A → Option (A × F) → Source → Type 0
LeadNeeds needs (Some p) x = needs p.0 x
LeadNeeds needs None x = ⊥

module _ {A C X F : Type 0} (w : Frame C) (future : FutureOf A C X) (part : Part w future) where
  pub lead_left : (m : Option (A × F)) (c d : C) → PartCancels future.cancels m c d → w.reaches c d
  lead_left (Some p) c d q = part.left p.0 c d q
  lead_left None c d q = same_reached w c d q

  module _ {U : Type 0} (Leads : F → X → U → Type 0) where
    after_reached : (answer : Poll X) (left : A) (f : F) (c : C) (r : Poll U) (n : Option (A × F)) (d : C) → AfterPart future Leads answer left f c r n d → w.reaches c d
    after_reached (Ready x) left f c r n d q = part.left left c d q.0
    after_reached Pending left f c r n d q = same_reached w c d q.2

    pub lead_reached : (m : Option (A × F)) (c : C) (r : Poll U) (n : Option (A × F)) (d : C) → LeadPolls future Leads m c r n d → w.reaches c d
    lead_reached (Some p) c r n d q = w.on c q.middle d (part.reach p.0 c q.answer q.left q.middle q.polled) (after_reached q.answer q.left p.1 q.middle r n d q.rest)
    lead_reached None c r n d q = absurd q

    after_covers : (a : A) (f : F) (c : C) (answer : Poll X) (left : A) (middle : C) (n : Option (A × F)) (d : C) → future.polls a c answer left middle
        → AfterPart future Leads answer left f middle Pending n d → CoversIn w c d (LeadNeeds part.needs n)
    after_covers a f c (Ready x) left middle n d polled rest = absurd rest.2
    after_covers a f c Pending left middle n d polled rest =
        subst (λ v. CoversIn w c d (LeadNeeds part.needs v)) (sym rest.1) (subst (λ e. CoversIn w c e (part.needs left)) (sym rest.2) (part.covers a c left middle polled))

    pub leads_cover : (m : Option (A × F)) (c : C) (n : Option (A × F)) (d : C) → LeadPolls future Leads m c Pending n d → CoversIn w c d (LeadNeeds part.needs n)
    leads_cover (Some p) c n d q = after_covers p.0 p.1 c q.answer q.left q.middle n d q.polled q.rest
    leads_cover None c n d q = absurd q
