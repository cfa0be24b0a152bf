-- The answers of a call that makes a main task, by whether there is a place for it.
use Rattle.std.proofs.Common.{◌≡◌, Bool, true, false, sym, ◌∙◌}
use Rattle.std.specs.Prelude.{⊤, Result, Ok, Err}
use Rattle.mono_rt.specs.SpawnErrors.{OnCapacity, OnMemory, HasPlace, AnswersPlace, IfRefused}
use Rattle.mono_rt.specs.declared.parts.errors.RunError.{RunError}
use Rattle.mono_rt.specs.declared.parts.errors.RunError.TheVariants.{Memory, AtCapacity, Driver, Turns}

true-false : true ≡ false → ⊥
true-false e = cc

-- there is a place
pub placed : (A B : Type 0) (e : RunError) (full keeps_nothing : Bool) → full ≡ false → HasPlace {A = A} (Err e) false → AnswersPlace {A = B} (Err e) full keeps_nothing
placed A B Memory full keeps_nothing is has = λ q. is
placed A B AtCapacity full keeps_nothing is has = absurd (true-false (sym has))
placed A B Driver full keeps_nothing is has = is
placed A B Turns full keeps_nothing is has = is

-- there is none, or no memory for the entry that says so
pub no_place : (A : Type 0) (e : RunError) (P : Type 0) (full keeps_nothing : Bool) → full ≡ true → OnCapacity e P → OnMemory e (keeps_nothing ≡ false) → AnswersPlace {A = A} (Err e) full keeps_nothing
no_place A Memory P full keeps_nothing is p kept = λ q. absurd (true-false (sym q ∙ kept))
no_place A AtCapacity P full keeps_nothing is p kept = is
no_place A Driver P full keeps_nothing is p kept = absurd p
no_place A Turns P full keeps_nothing is p kept = absurd p

pub if_refused : (A : Type 0) (e : RunError) (P : Type 0) → P → IfRefused {A = A} (Err e) P
if_refused A Memory P is = tt
if_refused A AtCapacity P is = is
if_refused A Driver P is = tt
if_refused A Turns P is = tt

pub not_refused : (A B : Type 0) (e : RunError) (P : Type 0) → HasPlace {A = A} (Err e) false → IfRefused {A = B} (Err e) P
not_refused A B Memory P has = tt
not_refused A B AtCapacity P has = absurd (true-false (sym has))
not_refused A B Driver P has = tt
not_refused A B Turns P has = tt

-- the same of a call with an answer of another type
pub same_answer : (A B : Type 0) (e : RunError) (full keeps_nothing : Bool) → AnswersPlace {A = A} (Err e) full keeps_nothing → AnswersPlace {A = B} (Err e) full keeps_nothing
same_answer A B Memory full keeps_nothing is = is
same_answer A B AtCapacity full keeps_nothing is = is
same_answer A B Driver full keeps_nothing is = is
same_answer A B Turns full keeps_nothing is = is

pub same_refusal : (A B : Type 0) (e : RunError) (P : Type 0) → IfRefused {A = A} (Err e) P → IfRefused {A = B} (Err e) P
same_refusal A B Memory P is = tt
same_refusal A B AtCapacity P is = is
same_refusal A B Driver P is = tt
same_refusal A B Turns P is = tt
