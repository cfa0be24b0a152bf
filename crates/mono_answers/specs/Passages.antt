-- The passages from one context of a runtime to a later one.
use Rattle.std.specs.Prelude.{◌≡◌, ◌++◌, ℕ, Some, Ok, List, [], ◌∷◌}
use Rattle.mono_model.specs.Table.{next_number}
use Rattle.mono_model.specs.Tasks.{spawned}
use Rattle.mono_model.specs.Joins.{join_answer, drop_answer}
use Rattle.mono_model.specs.declared.poll.Poll.TheVariants.{Ready}
use Rattle.mono_model.specs.declared.Ended.{Ended}
use Rattle.mono_model.specs.declared.poll.Poll.{Poll}
use Rattle.mono_task.specs.Members.{FutureOf, SharedOf}
use Rattle.mono_time.specs.declared.instant.Instant.{Instant}
use Rattle.mono_rt.specs.PossibleAnswers.{AnswersNoMore}
use Rattle.mono_rt.specs.Reaches.{ReachesSharing, IsAligned}
use Rattle.mono_rt.specs.Views.{tasks_in, futures_in}
use Rattle.mono_rt.specs.Record.{Record}
use Rattle.mono_rt.specs.Turns.{Begins, AfterPoll}
use Rattle.mono_rt.specs.declared.contexts.Cx.{Cx}
use Rattle.mono_answers.specs.declared.passages.Passage.{Passage}
use Rattle.mono_answers.specs.declared.passages.Passage.TheVariants as passage

module _ {F O P U W J A V : Type 0} (number : O → ℕ) (sharing : SharedOf W) (future : FutureOf F (Cx F O P U W J A V) O) (t : ℕ) where
  -- The later context comes from the earlier one in this way. A turn that ends is one of another task than t.
  abbrev pub Comes : Cx F O P U W J A V → Passage → Cx F O P U W J A V → Type 0
  Comes c passage.Calls d = ReachesSharing number sharing c d
  Comes c (passage.Begin r) d = (now : Instant) × (acts : Record) × Begins r now acts c d
  Comes c (passage.End r) d = (t ≡ r → ⊥) × (c.parts.tasks.turn ≡ Some r) × ((answer : Poll O) × (left : F) × (ended : Ended) × AfterPoll number sharing future answer r left ended c d)
  Comes c passage.Turns d = AnswersNoMore future.gives c d

  -- one passage after another
  abbrev pub Passes : Cx F O P U W J A V → List Passage → Cx F O P U W J A V → Type 0
  Passes c [] d = d ≡ c
  Passes c (p ∷ ps) d = (mid : Cx F O P U W J A V) × Comes c p mid × Passes mid ps d

-- The call made task t of this future, as the clauses of `Cx::spawn` say. Each future has its task's number.
pub record Spawns {F O P U W J A V : Type 0} (t : ℕ) (spawn : F) (c d : Cx F O P U W J A V) : Type 0 where
  pub aligned : IsAligned c
  pub number : t ≡ next_number (tasks_in c).table
  pub tasks : tasks_in d ≡ spawned (tasks_in c)
  pub futures : futures_in d ≡ futures_in c ++ Some spawn ∷ []

module _ {F O P U W J A V : Type 0} (number : O → ℕ) (sharing : SharedOf W) (future : FutureOf F (Cx F O P U W J A V) O) where
  -- A poll of the handle in any later context answers only what the spawned future gives.
  abbrev pub PollsGive : Type 0
  PollsGive =
      (c d e : Cx F O P U W J A V) (t : ℕ) (spawn : F) (passages : List Passage) (x : O)
      → Spawns t spawn c d → Passes number sharing future t d passages e → join_answer (tasks_in e) t ≡ Ok (Ready x) → future.gives spawn x

  -- Nor does a drop of the handle return another output.
  abbrev pub DropsGive : Type 0
  DropsGive =
      (c d e : Cx F O P U W J A V) (t : ℕ) (spawn : F) (passages : List Passage) (x : O)
      → Spawns t spawn c d → Passes number sharing future t d passages e → drop_answer (tasks_in e) t ≡ Ok (Some x) → future.gives spawn x
