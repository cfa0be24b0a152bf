-- A value that answers lines one at a time: each line spells a call, and is answered by one line.
use Rattle.std.specs.Prelude.{◌≡◌, ℕ, ◌==◌, true, false, List, [], ◌∷◌, ◌++◌, flat_map}
use Rattle.mono_text.specs.Lines.{Line, lines, AreLines, IsFirstWrong}
use Rattle.mono_text.specs.declared.services.Served.{Served}
use Rattle.mono_text.specs.declared.services.Served.TheVariants as served

-- the text has no line feed
abbrev pub HasNoFeed : List ℕ → Type 0
HasNoFeed [] = Unit {0}
HasNoFeed (b ∷ bs) = ((b == 10) ≡ false) × HasNoFeed bs

module _ {A : Type 0} (text : A → List ℕ) (Fits : A → Type 0) where
  -- the line spells the call: it is the call's text, within its bounds, and has its line feed
  pub record Says (call : A) (line : Line) : Type 0 where
    pub fits : Fits call
    pub text_is : line.bytes ≡ text call
    pub is_ended : line.is_ended ≡ true

  -- the bytes begin with a line that spells the call, and rest follows it
  pub record StartsWith (bytes : List ℕ) (call : A) (rest : List ℕ) : Type 0 where
    pub is : bytes ≡ text call ++ 10 ∷ rest
    pub fits : Fits call
    pub one_line : HasNoFeed (text call)

  -- the bytes begin with no line that spells a call
  abbrev pub StartsWithNone : List ℕ → Type 0
  StartsWithNone bytes = (call : A) (rest : List ℕ) → bytes ≡ text call ++ 10 ∷ rest → Fits call → ⊥

abbrev pub answer_line : List ℕ → List ℕ
answer_line answer = answer ++ 10 ∷ []

-- one call after another from a value, each with its answer
abbrev pub AnswersAll : {S A : Type 0} → (S → A → List ℕ → S → Type 0) → S → List A → List (List ℕ) → S → Type 0
AnswersAll Answers old [] [] new = new ≡ old
AnswersAll {S} Answers old (call ∷ calls) (answer ∷ answers) new = (mid : S) × Answers old call answer mid × AnswersAll Answers mid calls answers new
AnswersAll Answers old [] (answer ∷ answers) new = ⊥
AnswersAll Answers old (call ∷ calls) [] new = ⊥

-- each line of the input spells a call, and the output has a line for the answer of each
pub record IsServed {S A : Type 0} (text : A → List ℕ) (Fits : A → Type 0) (Answers : S → A → List ℕ → S → Type 0) (start : S) (input output : List ℕ) : Type 0 where
  pub calls : List A
  pub answers : List (List ℕ)
  pub last : S
  pub are_lines : AreLines (Says text Fits) calls (lines input)
  pub run : AnswersAll Answers start calls answers last
  pub output_is : output ≡ flat_map answer_line answers

abbrev pub Serves : {S A : Type 0} → (A → List ℕ) → (A → Type 0) → (S → A → List ℕ → S → Type 0) → S → List ℕ → Served → Type 0
Serves text Fits Answers start input (served.BadLine n) = IsFirstWrong (Says text Fits) (lines input) n
Serves text Fits Answers start input (served.Output bytes) = IsServed text Fits Answers start input bytes.items

-- For every model that the value refined, the model allows the answer to the call, and the value afterwards refines the
-- new model.
abbrev pub AnswersAs : {S K A : Type 0} → (S → K → Type 0) → (K → A → List ℕ → K → Type 0) → S → A → List ℕ → S → Type 0
AnswersAs {S} {K} Stands Allowed old call answer new = (model : K) → Stands old model → (next : K) × Allowed model call answer next × Stands new next
