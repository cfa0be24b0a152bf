-- The seats of a line, as it changes.
use Rattle.std.proofs.Common.{◌≡◌, ◌<◌, ◌≤◌, ◌+◌, ℕ, Bool, true, false, cond, List, [], ◌∷◌, ◌++◌, refl, sym, ap, ◌∙◌, arith}
use Rattle.std.specs.declared.cmp.Ordering.{Ordering}
use Rattle.std.specs.declared.cmp.Ordering.TheVariants.{Less, Equal, Greater}
use Rattle.std.specs.Ordering.{nat_cmp, match_ordering}
use Rattle.std.specs.Cmp.{nat_cmp_is}
use Rattle.std.specs.Map.{remove_entry}
use Rattle.std.specs.BTreeMap.{insert_entry}
use Rattle.mono_channel.specs.Lines.{AreBelow}

module _ {W : Type 0} where
  -- a seat above all others comes last
  pub comes_last : (seat : ℕ) (w : W) (line : List (ℕ × W)) → AreBelow seat line → insert_entry nat_cmp line seat w ≡ line ++ (seat, w) ∷ []
  comes_last seat w [] below = refl
  comes_last seat w (e ∷ es) below =
      ap (λ o. match_ordering o ((seat, w) ∷ e ∷ es) ((e.0, w) ∷ es) (e ∷ insert_entry nat_cmp es seat w)) (sym (nat_cmp_is seat e.0 Greater below.0)) ∙ ap (λ l. e ∷ l) (comes_last seat w es below.1)

  below_by : (o : Ordering) (next : ℕ) (a b c : List (ℕ × W)) → AreBelow next a → AreBelow next b → AreBelow next c → AreBelow next (match_ordering o a b c)
  below_by Less next a b c x y z = x
  below_by Equal next a b c x y z = y
  below_by Greater next a b c x y z = z

  pub below_insert : (next seat : ℕ) (w : W) (line : List (ℕ × W)) → seat < next → AreBelow next line → AreBelow next (insert_entry nat_cmp line seat w)
  below_insert next seat w [] lt below = (lt, tt)
  below_insert next seat w (e ∷ es) lt below =
      below_by (nat_cmp seat e.0) next ((seat, w) ∷ e ∷ es) ((e.0, w) ∷ es) (e ∷ insert_entry nat_cmp es seat w) (lt, below) (below.0, below.1) (below.0, below_insert next seat w es lt below.1)

  below_if : (b : Bool) (next : ℕ) (a c : List (ℕ × W)) → AreBelow next a → AreBelow next c → AreBelow next (cond b a c)
  below_if true next a c x y = x
  below_if false next a c x y = y

  pub below_remove : (test : ℕ → Bool) (next : ℕ) (line : List (ℕ × W)) → AreBelow next line → AreBelow next (remove_entry test line)
  below_remove test next [] below = tt
  below_remove test next (e ∷ es) below = below_if (test e.0) next es (e ∷ remove_entry test es) below.1 (below.0, below_remove test next es below.1)

  pub below_more : (next more : ℕ) (line : List (ℕ × W)) → next ≤ more → AreBelow next line → AreBelow more line
  below_more next more [] le below = tt
  below_more next more (e ∷ es) le below = (let b = below.0 in omega arith, below_more next more es le below.1)

  pub below_last : (seat : ℕ) (w : W) (line : List (ℕ × W)) → AreBelow seat line → AreBelow (seat + 1) (line ++ (seat, w) ∷ [])
  below_last seat w [] below = (omega arith, tt)
  below_last seat w (e ∷ es) below = (let b = below.0 in omega arith, below_last seat w es below.1)
