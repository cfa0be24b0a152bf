-- A form whose answer is made of the answer of one future makes no task, if that future makes none.
use Rattle.std.specs.Prelude.{⊤, Option, Some, None}
use Rattle.mono_model.specs.Tasks.{Tasks}
use Rattle.mono_model.specs.declared.poll.Poll.{Poll}
use Rattle.mono_model.specs.declared.poll.Poll.TheVariants.{Ready, Pending}
use Rattle.mono_task.specs.Members.{FutureOf}
use Rattle.mono_forms.specs.Parts.{PartCancels}
use Rattle.mono_forms.specs.Maps.{AfterPart, LeadPolls}
use Rattle.mono_quiet.specs.Numbers.{MakesNone, none_at_all, none_on, PollsMakeNone, CancelsMakeNone}

module _ {A C X F : Type 0} (work : C → Tasks ⊤) (future : FutureOf A C X) (cancels : CancelsMakeNone work future) where
  pub lead_left : (m : Option (A × F)) (c d : C) → PartCancels future.cancels m c d → MakesNone work c d
  lead_left (Some p) c d q = cancels p.0 c d q
  lead_left None c d q = none_at_all work c d q

  module _ {U : Type 0} (polls : PollsMakeNone work future) (Leads : F → X → U → Type 0) where
    after_lead : (answer : Poll X) (left : A) (f : F) (c : C) (r : Poll U) (n : Option (A × F)) (d : C) → AfterPart future Leads answer left f c r n d → MakesNone work c d
    after_lead (Ready x) left f c r n d q = cancels left c d q.0
    after_lead Pending left f c r n d q = none_at_all work c d q.2

    pub lead_makes_none : (m : Option (A × F)) (c : C) (r : Poll U) (n : Option (A × F)) (d : C) → LeadPolls future Leads m c r n d → MakesNone work c d
    lead_makes_none (Some p) c r n d q = none_on work c q.middle d (polls p.0 c q.answer q.left q.middle q.polled) (after_lead q.answer q.left p.1 q.middle r n d q.rest)
    lead_makes_none None c r n d q = absurd q
