-- What the code of a service answers, by the model that its value refines.
use Rattle.std.proofs.Common.{◌≡◌, ℕ, List, [], ◌∷◌, map, Option, Result, Ok, Err, IfOk, OnOk, refl, ap, ◌∙◌}
use Rattle.mono_text.specs.Services.{AnswersAll, AnswersAs, Serves}
use Rattle.mono_text.specs.declared.services.Served.{Served}
use Rattle.mono_text.specs.Follows.{HasFollowed}
use Rattle.mono_text.specs.declared.followers.Followed.{Followed}
use Rattle.mono_text.proofs.FollowLemmas.{followed_through}
use Rattle.mono_text.proofs.ServiceLemmas.{serves_through}

pub on_ok : {A E P Q : Type 0} (r : Result A E) → (P → Q) → OnOk r P → OnOk r Q
on_ok (Ok x) f p = f p
on_ok (Err e) f p = tt

-- The code's value L has a part S that refines a model K.
module _ {L S K C : Type 0} (part : L → S) (Stands : S → K → Type 0) (Steps : K → C → List ℕ → K → Type 0) (text : C → List ℕ) (Fits : C → Type 0) where
  abbrev StandsWhole : L → K → Type 0
  StandsWhole lines model = Stands (part lines) model

  pub served : {E : Type 0} (start : L) (first : K) (input : List ℕ) (r : Result Served E) → Stands (part start) first
      → IfOk r (λ r. Serves text Fits (λ old c told new. AnswersAs Stands Steps (part old) c told (part new)) start input r)
      → IfOk r (λ r. Serves text Fits Steps first input r)
  served start first input (Ok r) stands s = serves_through StandsWhole Steps text Fits start first input r stands s
  served start first input (Err e) stands s = tt

  pub followed : {E : Type 0} (start : L) (first : K) (r : Result Followed E) (left now before after : Option (List ℕ)) → Stands (part start) first
      → IfOk r (λ f. HasFollowed text Fits (λ old c told new. AnswersAs Stands Steps (part old) c told (part new)) start f.end f.rest.items left now before after)
      → IfOk r (λ f. HasFollowed text Fits Steps first f.end f.rest.items left now before after)
  followed start first (Ok f) left now before after stands p = followed_through StandsWhole Steps text Fits start first f.end f.rest.items left now before after stands p
  followed start first (Err e) left now before after stands p = tt

-- Answers by lines, one call after another, are the answers of a run.
module _ {K C A R : Type 0} (Step : K → C → R → K → Type 0) (Run : K → List C → List R → K → Type 0) (none : (old new : K) → new ≡ old → Run old [] [] new)
    (more : (old mid new : K) (c : C) (calls : List C) (r : R) (replies : List R) → Step old c r mid → Run mid calls replies new → Run old (c ∷ calls) (r ∷ replies) new) (call_of : A → C) (text : R → List ℕ) where
  pub one_run : (old : K) (said : List A) (texts : List (List ℕ)) (last : K) → AnswersAll (λ old a told new. (r : R) × Step old (call_of a) r new × (told ≡ text r)) old said texts last
      → (replies : List R) × Run old (map call_of said) replies last × (texts ≡ map text replies)
  one_run old [] [] last all = ([], none old last all, refl)
  one_run old [] (told ∷ texts) last all = absurd all
  one_run old (a ∷ said) [] last all = absurd all
  one_run old (a ∷ said) (told ∷ texts) last all =
      let r = all.1.0 in
      let rest = one_run all.0 said texts last all.2 in
      (r ∷ rest.0, more old all.0 last (call_of a) (map call_of said) r rest.0 all.1.1 rest.1, ap (λ t. t ∷ texts) all.1.2 ∙ ap (λ ts. text r ∷ ts) rest.2)
