-- A value that answers each line as soon as it was read: the bytes written are the answers to a prefix of the lines.
use Rattle.std.specs.Prelude.{◌≡◌, ℕ, List, [], ◌∷◌, ◌++◌, flat_map, Option, Some, None}
use Rattle.mono_text.specs.Environment.{HasRead, HasReadAll, HasWritten, HasWrittenPrefix}
use Rattle.mono_text.specs.Services.{AnswersAll, answer_line, StartsWithNone, HasNoFeed}
use Rattle.mono_text.specs.declared.followers.FollowEnd.{FollowEnd}
use Rattle.mono_text.specs.declared.followers.FollowEnd.TheVariants as end

abbrev pub call_line : {A : Type 0} → (A → List ℕ) → A → List ℕ
call_line text call = text call ++ 10 ∷ []

abbrev pub AllFit : {A : Type 0} → (A → Type 0) → List A → Type 0
AllFit Fits [] = Unit {0}
AllFit Fits (call ∷ calls) = Fits call × AllFit Fits calls

-- The bytes are lines that spell calls, one each, and the output has the lines of the answers of a run of these calls.
pub record Follows {S A : Type 0} (text : A → List ℕ) (Fits : A → Type 0) (Answers : S → A → List ℕ → S → Type 0) (start : S) (bytes output : List ℕ) (last : S) : Type 0 where
  pub calls : List A
  pub answers : List (List ℕ)
  pub bytes_are : bytes ≡ flat_map (call_line text) calls
  pub fit : AllFit Fits calls
  pub run : AnswersAll Answers start calls answers last
  pub output_is : output ≡ flat_map answer_line answers

-- Some lines at the front of the bytes were answered, and rest is left.
pub record Advances {S A : Type 0} (text : A → List ℕ) (Fits : A → Type 0) (Answers : S → A → List ℕ → S → Type 0) (start : S) (bytes before : List ℕ) (now : S) (rest after : List ℕ) : Type 0 where
  pub taken : List ℕ
  pub output : List ℕ
  pub split : bytes ≡ taken ++ rest
  pub follows : Follows text Fits Answers start taken output now
  pub out_is : after ≡ before ++ output

-- Whole lines at the front of the bytes were answered, all answers were written, and rest is left.
abbrev pub Wrote : {S A : Type 0} → (A → List ℕ) → (A → Type 0) → (S → A → List ℕ → S → Type 0) → S → List ℕ → S → List ℕ → Option (List ℕ) → Option (List ℕ) → Type 0
Wrote text Fits Answers old pending new rest before after = (out : List ℕ) × Advances text Fits Answers old pending [] new rest out × HasWritten before after out

-- The same if a write failed.
abbrev pub WroteSome : {S A : Type 0} → (A → List ℕ) → (A → Type 0) → (S → A → List ℕ → S → Type 0) → S → List ℕ → S → Option (List ℕ) → Option (List ℕ) → Type 0
WroteSome text Fits Answers old pending new before after = (out left : List ℕ) × Advances text Fits Answers old pending [] new left out × HasWrittenPrefix before after out

-- the result of the whole lines at the front of the bytes, by how the answers ended
abbrev pub Answered : {S A : Type 0} → (A → List ℕ) → (A → Type 0) → (S → A → List ℕ → S → Type 0) → S → List ℕ → Option FollowEnd → S → List ℕ → Option (List ℕ) → Option (List ℕ) → Type 0
Answered text Fits Answers old pending None new rest before after = Wrote text Fits Answers old pending new rest before after × HasNoFeed rest
Answered text Fits Answers old pending (Some end.BadLine) new rest before after = Wrote text Fits Answers old pending new rest before after × StartsWithNone text Fits rest
Answered text Fits Answers old pending (Some end.WriteFault) new rest before after = WroteSome text Fits Answers old pending new before after
Answered text Fits Answers old pending (Some end.OutOfMemory) new rest before after = after ≡ before
Answered text Fits Answers old pending (Some end.Done) new rest before after = ⊥
Answered text Fits Answers old pending (Some end.ReadFault) new rest before after = ⊥
Answered text Fits Answers old pending (Some end.TooLong) new rest before after = ⊥

-- how an input ends after bytes that are no whole line
abbrev pub end_of : List ℕ → FollowEnd
end_of [] = end.Done
end_of (b ∷ bs) = end.BadLine

-- The bytes written are the answers to lines at the front of the input; a failed write may have cut the last short. All
-- of them were written at the end of the input and at a bad line, which begins the rest.
pub record HasFollowed {S A : Type 0} (text : A → List ℕ) (Fits : A → Type 0) (Answers : S → A → List ℕ → S → Type 0) (start : S) (e : FollowEnd) (rest : List ℕ) (left now before after : Option (List ℕ)) : Type 0 where
  pub taken : List ℕ
  pub more : List ℕ
  pub output : List ℕ
  pub last : S
  pub follows : Follows text Fits Answers start taken output last
  pub read : HasRead left (taken ++ more) now
  pub wrote : HasWrittenPrefix before after output
  pub done : e ≡ end.Done → HasReadAll left taken now × HasWritten before after output
  pub bad : e ≡ end.BadLine → (more ≡ rest) × HasWritten before after output × StartsWithNone text Fits rest
