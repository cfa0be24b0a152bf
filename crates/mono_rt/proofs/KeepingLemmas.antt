-- The entries in memory stay the history, or a beginning of it.
use Rattle.std.proofs.Common.{◌≡◌, Bool, true, false, List, [], ◌∷◌, ◌++◌, ap, sym, ◌∙◌, append_assoc, append-nil}
use mathlib.Core.List.{IsPrefix}
use mathlib.Core.Logic.{∥∥₁_map}
use Rattle.mono_rt.specs.Journals.{IsKept}
use Rattle.mono_rt.specs.declared.parts.journals.Entry.{Entry}

pub keeps_history : (was : Bool) (xs : List Entry) (now : Bool) (ys hs : List Entry) (e : Entry) → IsKept was xs now ys e → (was ≡ false → xs ≡ hs) → now ≡ false → ys ≡ hs ++ e ∷ []
keeps_history was xs true ys hs e is kept unfull = absurd (cc)
keeps_history was xs false ys hs e is kept unfull = is.1 ∙ ap (λ zs. zs ++ e ∷ []) (kept is.0)

longer : (xs hs zs : List Entry) → IsPrefix xs hs → IsPrefix xs (hs ++ zs)
longer xs hs zs p = (p.0 ++ zs, sym (append_assoc xs p.0 zs) ∙ ap (λ us. us ++ zs) p.1)

whole : (ys hs : List Entry) → ys ≡ hs → IsPrefix ys hs
whole ys hs is = ([], append-nil ys ∙ is)

pub keeps_beginning : (was : Bool) (xs : List Entry) (now : Bool) (ys hs : List Entry) (e : Entry) → IsKept was xs now ys e → (was ≡ false → xs ≡ hs) → ∥ IsPrefix xs hs ∥₁ → ∥ IsPrefix ys (hs ++ e ∷ []) ∥₁
keeps_beginning was xs true ys hs e is kept begins = ∥∥₁_map begins (λ p. rw is (longer xs hs (e ∷ []) p))
keeps_beginning was xs false ys hs e is kept begins = ∥∥₁_map begins (λ p. whole ys (hs ++ e ∷ []) (is.1 ∙ ap (λ zs. zs ++ e ∷ []) (kept is.0)))
