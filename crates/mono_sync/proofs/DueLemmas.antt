-- What a line owes before and after one task is served.
use Rattle.std.proofs.Common.{◌≡◌, ◌+◌, ◌-◌, ◌<◌, ◌≤◌, ◌⊎◌, ℕ, suc, Bool, true, false, cond, List, [], ◌∷◌, refl, sym, ap, ◌∙◌, inl, inr, arith}
use Rattle.mono_sync.specs.declared.lines.Waiter.{Waiter}
use Rattle.mono_sync.specs.Lines.{due}

due_none : (ws : List Waiter) → due 0 ws ≡ []
due_none [] = refl
due_none (w ∷ ws) = refl

due_empty : (n : ℕ) → due n [] ≡ []
due_empty n = refl

no_room : (room granted : ℕ) → room ≤ granted → room - granted ≡ 0
no_room room granted le = omega (arith, le)

pub nothing_due : (room granted : ℕ) (ws : List Waiter) → (room ≤ granted) ⊎ (ws ≡ []) → due (room - granted) ws ≡ []
nothing_due room granted ws (inl le) = ap (λ n. due n ws) (no_room room granted le) ∙ due_none ws
nothing_due room granted ws (inr is) = ap (λ us. due (room - granted) us) is ∙ due_empty (room - granted)

more_room : (room granted : ℕ) → granted < room → room - granted ≡ suc (room - (granted + 1))
more_room room granted less = omega (arith, less)

rest_due : (b : Bool) (room granted : ℕ) (ws : List Waiter) → granted < room → due (cond b (suc (room - (granted + 1))) (room - (granted + 1))) ws ≡ due (room - cond b granted (granted + 1)) ws
rest_due true room granted ws less = ap (λ n. due n ws) (sym (more_room room granted less))
rest_due false room granted ws less = refl

pub first_due : (room granted : ℕ) (w : Waiter) (ws : List Waiter) → granted < room → due (room - granted) (w ∷ ws) ≡ w.task ∷ due (room - cond w.has_left granted (granted + 1)) ws
first_due room granted w ws less = ap (λ n. due n (w ∷ ws)) (more_room room granted less) ∙ ap (λ ts. w.task ∷ ts) (rest_due w.has_left room granted ws less)

pub served_due : (room same granted left : ℕ) (w : Waiter) (ws us : List Waiter) → same ≡ room → granted < room → ws ≡ w ∷ us → left ≡ cond w.has_left granted (granted + 1) → due (same - granted) ws ≡ w.task ∷ due (same - left) us
served_due room same granted left w ws us is less first grants =
    ap (λ n. due (n - granted) ws) is ∙ ap (due (room - granted)) first ∙ first_due room granted w us less ∙ ap (λ m. w.task ∷ due (room - m) us) (sym grants) ∙ ap (λ n. w.task ∷ due (n - left) us) (sym is)

pub none_due : (room same granted : ℕ) (ws : List Waiter) → same ≡ room → (room ≤ granted) ⊎ (ws ≡ []) → due (same - granted) ws ≡ []
none_due room same granted ws is none = ap (λ n. due (n - granted) ws) is ∙ nothing_due room granted ws none
