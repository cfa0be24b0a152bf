-- A race makes no task, if none of its futures does.
use Rattle.std.specs.Prelude.{⊤, Bool, List, [], ◌∷◌, Option, Some, None}
use Rattle.mono_model.specs.Tasks.{Tasks}
use Rattle.mono_model.specs.declared.poll.Poll.{Poll}
use Rattle.mono_model.specs.declared.poll.Poll.TheVariants.{Ready, Pending}
use Rattle.mono_task.specs.Members.{FutureOf}
use Rattle.mono_forms.specs.Races.{RaceCancels, AfterLater, PollsLater, AfterEarlier, RacePolls}
use Rattle.mono_forms.specs.EitherRaces.{AfterOther, PollsOther, AfterOne, EitherRacePolls}
use Rattle.mono_combine.specs.BranchLists.{EachInTurn}
use Rattle.mono_forms.specs.RaceLists.{AllCancel, RacesUnless, RacesOnce, RaceListPolls}
use Rattle.mono_forms.specs.declared.eithers.Either.{Either}
use Rattle.mono_quiet.specs.Numbers.{MakesNone, none_at_all, none_on, PollsMakeNone, CancelsMakeNone}
use Rattle.mono_quiet.specs.Turns.{each_makes_none}

module _ {A B C X Y : Type 0} (work : C → Tasks ⊤) (first : FutureOf A C X) (second : FutureOf B C Y) (a_cancels : CancelsMakeNone work first) (b_cancels : CancelsMakeNone work second) where
  pub race_left : (m : Option (A × B)) (c d : C) → RaceCancels first.cancels second.cancels m c d → MakesNone work c d
  race_left (Some p) c d q = none_on work c q.0 d (a_cancels p.0 c q.0 q.1) (b_cancels p.1 q.0 d q.2)
  race_left None c d q = none_at_all work c d q

module _ {A B C X : Type 0} (work : C → Tasks ⊤) (first : FutureOf A C X) (second : FutureOf B C X) (a_polls : PollsMakeNone work first) (a_cancels : CancelsMakeNone work first) (b_polls : PollsMakeNone work second) (b_cancels : CancelsMakeNone work second) where
  after_later : (answer : Poll X) (f : A) (g : B) (c : C) (r : Poll X) (n : Option (A × B)) (d : C) → AfterLater first second answer f g c r n d → MakesNone work c d
  after_later (Ready x) f g c r n d q = race_left work first second a_cancels b_cancels (Some (f, g)) c d q.2
  after_later Pending f g c r n d q = none_at_all work c d q.2

  later_none : (f : A) (g : B) (c : C) (r : Poll X) (n : Option (A × B)) (d : C) → PollsLater first second f g c r n d → MakesNone work c d
  later_none f g c r n d q = none_on work c q.middle d (b_polls g c q.answer q.left q.middle q.polled) (after_later q.answer f q.left q.middle r n d q.rest)

  after_earlier : (answer : Poll X) (f : A) (g : B) (c : C) (r : Poll X) (n : Option (A × B)) (d : C) → AfterEarlier first second answer f g c r n d → MakesNone work c d
  after_earlier (Ready x) f g c r n d q = race_left work first second a_cancels b_cancels (Some (f, g)) c d q.2
  after_earlier Pending f g c r n d q = later_none f g c r n d q

  pub race_makes_none : (m : Option (A × B)) (c : C) (r : Poll X) (n : Option (A × B)) (d : C) → RacePolls first second m c r n d → MakesNone work c d
  race_makes_none (Some p) c r n d q = none_on work c q.middle d (a_polls p.0 c q.answer q.left q.middle q.polled) (after_earlier q.answer q.left p.1 q.middle r n d q.rest)
  race_makes_none None c r n d q = absurd q

module _ {A B C X Y : Type 0} (work : C → Tasks ⊤) (first : FutureOf A C X) (second : FutureOf B C Y) (a_polls : PollsMakeNone work first) (a_cancels : CancelsMakeNone work first) (b_polls : PollsMakeNone work second) (b_cancels : CancelsMakeNone work second) where
  after_other : (answer : Poll Y) (f : A) (g : B) (c : C) (r : Poll (Either X Y)) (n : Option (A × B)) (d : C) → AfterOther first second answer f g c r n d → MakesNone work c d
  after_other (Ready y) f g c r n d q = race_left work first second a_cancels b_cancels (Some (f, g)) c d q.2
  after_other Pending f g c r n d q = none_at_all work c d q.2

  other_none : (f : A) (g : B) (c : C) (r : Poll (Either X Y)) (n : Option (A × B)) (d : C) → PollsOther first second f g c r n d → MakesNone work c d
  other_none f g c r n d q = none_on work c q.middle d (b_polls g c q.answer q.left q.middle q.polled) (after_other q.answer f q.left q.middle r n d q.rest)

  after_one : (answer : Poll X) (f : A) (g : B) (c : C) (r : Poll (Either X Y)) (n : Option (A × B)) (d : C) → AfterOne first second answer f g c r n d → MakesNone work c d
  after_one (Ready x) f g c r n d q = race_left work first second a_cancels b_cancels (Some (f, g)) c d q.2
  after_one Pending f g c r n d q = other_none f g c r n d q

  pub either_race_makes_none : (m : Option (A × B)) (c : C) (r : Poll (Either X Y)) (n : Option (A × B)) (d : C) → EitherRacePolls first second m c r n d → MakesNone work c d
  either_race_makes_none (Some p) c r n d q = none_on work c q.middle d (a_polls p.0 c q.answer q.left q.middle q.polled) (after_one q.answer q.left p.1 q.middle r n d q.rest)
  either_race_makes_none None c r n d q = absurd q

module _ {T C X : Type 0} (work : C → Tasks ⊤) (future : FutureOf T C X) (cancels : CancelsMakeNone work future) where
  pub race_list_left : (fs : List T) (c d : C) → AllCancel future.cancels fs c d → MakesNone work c d
  race_list_left [] c d q = none_at_all work c d q
  race_list_left (f ∷ fs) c d q = none_on work c q.0 d (cancels f c q.0 q.1) (race_list_left fs q.0 d q.2)

  module _ (polls : PollsMakeNone work future) where
    races_none : (won : Option X) (f : T) (c : C) (g : T) (after : Option X) (d : C) → RacesUnless future won f c g after d → MakesNone work c d
    races_none (Some x) f c g after d q = none_at_all work c d q.2
    races_none None f c g after d q = polls f c q.0 g d q.1

    in_turn : (fs gs : List T) (c d : C) (won : Option X) → EachInTurn (RacesOnce future) fs (record { won = None; cx = c }) gs (record { won = won; cx = d }) → MakesNone work c d
    in_turn fs gs c d won q = each_makes_none (λ s. work s.cx) (RacesOnce future) (λ f s g t. races_none s.won f s.cx g t.won t.cx) fs (record { won = None; cx = c }) gs (record { won = won; cx = d }) q

    pub race_list_makes_none : (fs : List T) (c : C) (r : Poll X) (left : List T) (has_answered : Bool) (d : C) → RaceListPolls future fs c r left has_answered d → MakesNone work c d
    race_list_makes_none fs c (Ready x) left has_answered d q = none_on work c q.after d (in_turn fs q.polled c q.after (Some x) q.turns) (race_list_left q.polled q.after d q.ends.2)
    race_list_makes_none fs c Pending left has_answered d q = none_on work c q.after d (in_turn fs q.polled c q.after None q.turns) (none_at_all work q.after d q.waits.2)
