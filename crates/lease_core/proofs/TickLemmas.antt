-- No call but the clock's changes the greatest tick of the leases.
use Rattle.std.proofs.Common.{◌≡◌, ℕ, List, [], ◌∷◌, Option, Some, None, Result, Ok, Err, refl}
use Rattle.mono_model.specs.Table.{value_at}
use Rattle.mono_session.specs.Keeper.{Keeper, Session, if_granted, open_answer, opened, beat_answer, beaten, beaten_value, close_answer, closed, acquire_answer, acquired, release_answer, released, without_session}
use Rattle.mono_session.specs.Steps.{without_all}
use Rattle.mono_session.specs.declared.error.SessionError.{SessionError}

granted_tick : {A : Type 0} (r : Result A SessionError) (old new : Keeper) → new.greatest ≡ old.greatest → (if_granted r old new).greatest ≡ old.greatest
granted_tick (Ok x) old new same = same
granted_tick (Err e) old new same = refl

pub opened_tick : (k : Keeper) (limit : ℕ) → (opened k limit).greatest ≡ k.greatest
opened_tick k limit = granted_tick (open_answer k limit) k _ refl

beaten_value_tick : (v : Option Session) (k : Keeper) (s : ℕ) → (beaten_value v k s).greatest ≡ k.greatest
beaten_value_tick None k s = refl
beaten_value_tick (Some session) k s = refl

pub beaten_tick : (k : Keeper) (s : ℕ) → (beaten k s).greatest ≡ k.greatest
beaten_tick k s = granted_tick (beat_answer k s) k _ (beaten_value_tick (value_at k.sessions s) k s)

pub closed_tick : (k : Keeper) (s : ℕ) → (closed k s).greatest ≡ k.greatest
closed_tick k s = granted_tick (close_answer k s) k _ refl

pub acquired_tick : (k : Keeper) (s key : ℕ) → (acquired k s key).greatest ≡ k.greatest
acquired_tick k s key = granted_tick (acquire_answer k s key) k _ refl

pub released_tick : (k : Keeper) (s key : ℕ) → (released k s key).greatest ≡ k.greatest
released_tick k s key = granted_tick (release_answer k s key) k _ refl

pub all_closed_tick : (k : Keeper) (due : List ℕ) → (without_all k due).greatest ≡ k.greatest
all_closed_tick k [] = refl
all_closed_tick k (s ∷ due) = all_closed_tick (without_session k s) due
