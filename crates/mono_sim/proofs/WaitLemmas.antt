-- The rows of the tasks of a world.
use Rattle.std.proofs.Common.{◌≡◌, ◌<◌, ◌≤◌, ◌+◌, ℕ, true, false, List, [], ◌∷◌, ◌++◌, take, take_all, length, get_or, set, Option, Some, None, refl, ap, sym, subst, ◌∙◌, arith, append_assoc, append-nil}
use Rattle.std.specs.Prelude.{min}
use Rattle.std.proofs.lemmas.List.{set-get_or, take_more, take_more_set}
use Rattle.mono_rt.specs.declared.task_waits.TaskWait.{TaskWait}
use Rattle.mono_rt.specs.Views.{ListsWaits}
use Rattle.mono_sim.specs.declared.nodes.Node.{Node}
use Rattle.mono_sim.specs.Nodes.{has_finished}
use Rattle.mono_sim.specs.Waits.{tick_of, earlier, least_tick, ListsUnless, AddsWaits, ListsAll}

-- the first elements, with the next one
next_of : {X : Type 0} (xs : List X) (i : ℕ) (x : X) → i < length xs → x ≡ get_or xs i x → take (i + 1) xs ≡ take i xs ++ x ∷ []
next_of xs i x less is =
    let own : set xs i x ≡ xs = ap (λ y. set xs i y) is ∙ set-get_or xs i x in
    ap (take (i + 1)) (sym own) ∙ take_more_set xs i x less

module _ {F O D P W U J A V : Type 0} (number : O → ℕ) where
  -- the rows of one more runtime
  lists_more : (nodes : List (Node F O D P W U J A V)) (node : Node F O D P W U J A V) (waits own : List TaskWait) → ListsAll number nodes waits → ListsUnless number (has_finished node) own node → ListsAll number (nodes ++ node ∷ []) (waits ++ own)
  lists_more [] node waits own is mine = (own, ([], (ap (λ w. w ++ own) is ∙ sym (append-nil own), (mine, refl))))
  lists_more (n ∷ ns) node waits own (first, (rest, (is, (theirs, more)))) mine =
      (first, (rest ++ own, (ap (λ w. w ++ own) is ∙ append_assoc first rest own, (theirs, lists_more ns node rest own more mine))))

  pub lists_step : (nodes : List (Node F O D P W U J A V)) (i : ℕ) (node : Node F O D P W U J A V) (waits more : List TaskWait) → i < length nodes → node ≡ get_or nodes i node → ListsAll number (take i nodes) waits → AddsWaits number node waits more → ListsAll number (take (i + 1) nodes) more
  lists_step nodes i node waits more less is lists adds =
      subst (λ ns. ListsAll number ns more) (sym (next_of nodes i node less is))
      (subst (λ ws. ListsAll number (take i nodes ++ node ∷ []) ws) (sym adds.added) (lists_more (take i nodes) node waits adds.own lists adds.lists))

  pub lists_all : (nodes : List (Node F O D P W U J A V)) (i : ℕ) (waits : List TaskWait) → length nodes ≤ i → ListsAll number (take i nodes) waits → ListsAll number nodes waits
  lists_all nodes i waits past lists = subst (λ ns. ListsAll number ns waits) (take_all i nodes past) lists

  pub adds_none : (node : Node F O D P W U J A V) (waits : List TaskWait) → has_finished node ≡ true → AddsWaits number node waits waits
  adds_none node waits done = record { own = []; added = sym (append-nil waits); lists = rw done refl }

  pub adds_own : (node : Node F O D P W U J A V) (own waits more : List TaskWait) → has_finished node ≡ false → ListsWaits number own node.runtime → more ≡ waits ++ own → AddsWaits number node waits more
  adds_own node own waits more undone lists is = record { own = own; added = is; lists = rw undone lists }

-- the least tick of one more row
min_same : (a b c : ℕ) → min a (min b c) ≡ min (min a b) c
min_same a b c = omega arith

least_assoc : (a b c : Option ℕ) → earlier a (earlier b c) ≡ earlier (earlier a b) c
least_assoc None b c = refl
least_assoc (Some a) None c = refl
least_assoc (Some a) (Some b) None = refl
least_assoc (Some a) (Some b) (Some c) = ap Some (min_same a b c)

least_none : (a : Option ℕ) → earlier a None ≡ a
least_none None = refl
least_none (Some a) = refl

pub least_more : (waits : List TaskWait) (wait : TaskWait) → least_tick (waits ++ wait ∷ []) ≡ earlier (least_tick waits) (tick_of wait)
least_more [] wait = least_none (tick_of wait)
least_more (w ∷ ws) wait = ap (earlier (tick_of w)) (least_more ws wait) ∙ least_assoc (tick_of w) (least_tick ws) (tick_of wait)

pub least_step : (waits : List TaskWait) (i : ℕ) (d : TaskWait) (so_far tick after : Option ℕ) → i < length waits → so_far ≡ least_tick (take i waits) → tick ≡ tick_of (get_or waits i d) → after ≡ earlier so_far tick → after ≡ least_tick (take (i + 1) waits)
least_step waits i d so_far tick after less before own now =
    now ∙ ap (λ t. earlier t tick) before ∙ ap (earlier (least_tick (take i waits))) own ∙ sym (least_more (take i waits) (get_or waits i d)) ∙ ap least_tick (sym (take_more waits i d less))

pub least_all : (waits : List TaskWait) (i : ℕ) (least : Option ℕ) → length waits ≤ i → least ≡ least_tick (take i waits) → least ≡ least_tick waits
least_all waits i least past is = is ∙ ap least_tick (take_all i waits past)
