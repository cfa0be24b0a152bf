-- Items each of which has a property: what may come of a stream of them, and closures that may be called at them.
use Rattle.std.specs.Prelude.{Bool, List, [], ◌∷◌, ◌++◌, Option, Some, None}
use Rattle.std.specs.Fn.{Mut, Called}
use Rattle.std.specs.List.{All, cons_option}
use Rattle.std.proofs.Common.{sym, subst}
use Rattle.std.proofs.lemmas.List.Elements.{All-nil, All-cons, All-contains, Contains-push}
use Rattle.mono_task.specs.Members.{FutureOf}
use Rattle.mono_stream.specs.Chains.{IsLive, MakesLive}
use Rattle.mono_stream.specs.Comes.{MayCome, CallableOver}
use Rattle.mono_stream.specs.Folds.{FoldsOver}
use Rattle.mono_stream.specs.Items.{AreImages}
use Rattle.mono_stream.specs.Maps.{MapGives}
use Rattle.mono_stream.specs.SiftedComes.{AbleOver, SiftedGives}
use Rattle.mono_stream.specs.SiftedItems.{AreSifted}
use Rattle.mono_stream.specs.declared.maps.Map.{Map}
use Rattle.mono_stream.specs.declared.sifts.Sifted.{Sifted}

module _ {S X : Type 0} (P : X → Type 0) where
  -- The items of a stream that gives only such items.
  abbrev pub EachGives : S → List X → Type 0
  EachGives s xs = All P xs

  all_of : (s : S) (xs : List X) → MayCome EachGives s xs → All P xs
  all_of s [] may = All-nil P
  all_of s (x ∷ xs) may = may

  -- Its poll returns such an item.
  pub each_first : (s : S) (x : X) → P x → (xs : List X) → MayCome EachGives s xs → All P (x ∷ xs)
  each_first s x p xs may = All-cons P x xs p (all_of s xs may)

module _ {S X : Type 0} (gives : S → List X → Type 0) (P : X → Type 0) (s : S) (each : (xs : List X) → gives s xs → All P xs) where
  last_of : (xs : List X) (x : X) → MayCome gives s (xs ++ x ∷ []) → P x
  last_of [] x may = All-contains P (x ∷ []) x (each (x ∷ []) may) (Contains-push [] x)
  last_of (y ∷ xs) x may = All-contains P (y ∷ (xs ++ x ∷ [])) x (each (y ∷ (xs ++ x ∷ [])) may) (Contains-push (y ∷ xs) x)

  -- A closure may be called if it may be called at each such item, in every state.
  pub callable_at_each : {F Y : Type 0} (call : Mut F (X × Unit {0}) Y) → ((f : F) (x : X) → P x → call.pre f (x, tt)) → (f : F) → CallableOver call gives s f
  callable_at_each call can f = record { at = λ xs x g come chain. can g x (last_of xs x come) }

  -- A sieve takes each item if it takes each such item, in every state.
  pub able_at_each : {V Y : Type 0} (done : V → Bool) (sifts : V → X → Option Y → V → Type 0) (can_sift : V → X → Type 0) → ((w : V) (x : X) → P x → can_sift w x) → (v : V) → AbleOver done sifts can_sift gives s v
  able_at_each done sifts can_sift can v = record { at = λ xs ys x w come chain unfinished. can w x (last_of xs x come) }

  -- A closure makes futures of such items if it may be called at each of them and none of the futures is spent.
  pub live_at_each : {F Fut C Y : Type 0} (future : FutureOf Fut C Y) (call : Mut F (X × Unit {0}) Fut) → ((f : F) (x : X) → P x → call.pre f (x, tt))
      → ((f : F) (x : X) (made : Fut) (g : F) → P x → Called call f (x, tt) made g → IsLive future made) → (f : F) → MakesLive future call gives s f
  live_at_each future call can live f = record {
    can_call = λ xs x g come chain. can g x (last_of xs x come);
    live = λ xs x g made h come chain called. live g x made h (last_of xs x come) called;
  }

  -- A closure combines such items if it may be called at each of them and at every value so far.
  pub folds_at_each : {F T : Type 0} (call : Mut F (T × (X × Unit {0})) T) → ((f : F) (t : T) (x : X) → P x → call.pre f (t, (x, tt))) → (value : Option T) (f : F) → FoldsOver call gives s value f
  folds_at_each call can value f = record { at = λ xs x t q come is chain. can q.0 q.1 x (last_of xs x come) }

-- A sieve that returns only such values.
module _ {V X Y : Type 0} (done : V → Bool) (sifts : V → X → Option Y → V → Type 0) (P : Y → Type 0) (each : (v : V) (x : X) (y : Y) (w : V) → sifts v x (Some y) w → P y) where
  value_first : (v : V) (x : X) (y : Option Y) (u : V) (zs : List Y) → sifts v x y u → All P zs → All P (cons_option y zs)
  value_first v x (Some y) u zs sifted rest = All-cons P y zs (each v x y u sifted) rest
  value_first v x None u zs sifted rest = rest

  values : (xs : List X) (ys : List Y) (v w : V) → AreSifted done sifts v xs ys w → All P ys
  values [] ys v w (none, same) = subst (All P) (sym none) (All-nil P)
  values (x ∷ xs) ys v w (unfinished, y, u, sifted, zs, are, rest) = subst (All P) (sym are) (value_first v x y u zs sifted (values xs zs u w rest))

  -- The stream under it gives only such items.
  pub each_value : {S : Type 0} (gives : S → List X → Type 0) (m : Sifted S V) (ys : List Y) → SiftedGives gives done sifts m ys → All P ys
  each_value gives m ys came = values came.items ys m.sieve came.after came.sifted

-- A closure that returns only such answers.
module _ {F X Y : Type 0} (call : Mut F (X × Unit {0}) Y) (P : Y → Type 0) (each : (f : F) (x : X) (y : Y) (g : F) → Called call f (x, tt) y g → P y) where
  answers : (f g : F) (xs : List X) (ys : List Y) → AreImages call f xs ys g → All P ys
  answers f g [] [] same = All-nil P
  answers f g (x ∷ xs) (y ∷ ys) (h, called, rest) = All-cons P y ys (each f x y h called) (answers h g xs ys rest)
  answers f g [] (y ∷ ys) none = absurd none
  answers f g (x ∷ xs) [] none = absurd none

  -- `map` by it gives only such items.
  pub each_answer : {S : Type 0} (gives : S → List X → Type 0) (m : Map S F) (ys : List Y) → MapGives gives call m ys → All P ys
  each_answer gives m ys came = answers m.f came.after came.items ys came.images
