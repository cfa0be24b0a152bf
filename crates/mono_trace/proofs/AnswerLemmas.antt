-- An answer that is passed on: the callee's clauses about it, in the caller's words.
use Rattle.std.specs.Prelude.{Option, Some, None, Result, Ok, Err, IfOk, OnOk, MatchOption}

pub on_ok : {A E : Type 0} (r : Result A E) (P Q : Type 0) → OnOk r P → (P → Q) → OnOk r Q
on_ok (Ok a) P Q holds so = so holds
on_ok (Err e) P Q holds so = holds

pub held : {A E : Type 0} (r : Result A E) (P : Type 0) → P → OnOk r P
held (Ok a) P holds = holds
held (Err e) P holds = tt

pub passed_on : {A E : Type 0} (r : Result A E) (P Q : A → Type 0) → IfOk r P → ((a : A) → P a → Q a) → IfOk r Q
passed_on (Ok a) P Q holds so = so a holds
passed_on (Err e) P Q holds so = holds

pub either_way : {A : Type 0} (o : Option A) (P R : Type 0) (Q S : A → Type 0) → (P → R) → ((a : A) → Q a → S a) → MatchOption o P Q → MatchOption o R S
either_way None P R Q S none some found = none found
either_way (Some a) P R Q S none some found = some a found
