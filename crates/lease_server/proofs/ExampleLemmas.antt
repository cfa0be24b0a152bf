-- Examples, by computation.
use Rattle.std.proofs.Common.{◌≡◌, ℕ, zero, suc, ◌+◌, ◌<◌, ◌≤◌, ◌^◌, Bool, true, false, List, [], ◌∷◌, ◌++◌, map, length, Option, Some, None, codes, refl, sym, ap, subst, ◌∙◌, arith, append_assoc, lit<, get_or}
use Rattle.std.specs.Fmt.{decimal}
use Rattle.std.proofs.lemmas.Fmt.{decimal_digit}
use Rattle.mono_text.specs.Lines.{Line, lines}
use Rattle.mono_text.proofs.InputLineLemmas.{no_feed_number}
use Rattle.lease_core.specs.declared.requests.Call.{Call}
use Rattle.lease_core.specs.declared.requests.Call.TheVariants as call
use Rattle.lease_core.specs.declared.requests.Request.{Request}
use Rattle.lease_lines.specs.Lines.{call_text, SpellsNone}
use Rattle.lease_lines.specs.Parser.{call_at, token_call_at, mail_call_at, look_call_at}
use Rattle.lease_lines.proofs.SpellingLemmas.{none_line}
use Rattle.lease_lines.specs.Replies.{bad_text}
use Rattle.lease_server.specs.Routing.{Ask, HasNoFeed}
use Rattle.lease_server.specs.Examples.{spawn, opened, many, request_lines, SmallAsks, SmallRoutes, AsksNot, RoutesNot, ManyAsk}
use Rattle.lease_server.proofs.RoutingLemmas.{ended, line_cut}

never : {A : Type 0} → false ≡ true → A
never e = cc

spawn_text : (n : ℕ) → n < 10 → codes "spawn " ++ (48 + n) ∷ [] ≡ call_text n call.Spawn
spawn_text n lt = sym (ap (λ (d : List ℕ). codes "spawn " ++ d) (decimal_digit n lt))

open_text : codes "open 4 9" ≡ call_text 4 (call.Open 9)
open_text =
    sym (ap (λ (d : List ℕ). codes "open " ++ d ++ codes " " ++ decimal 9) (decimal_digit 4 (lit< tt)) ∙ ap (λ (d : List ℕ). codes "open " ++ 52 ∷ [] ++ codes " " ++ d) (decimal_digit 9 (lit< tt)))

pub bad_spells_none : SpellsNone (codes "bad")
unfolding call_at token_call_at mail_call_at look_call_at
bad_spells_none = none_line (codes "bad") refl

pub small_asks : SmallAsks
small_asks =
    ((refl, (refl, open_text)), ((λ e. bad_spells_none), ((refl, (refl, spawn_text 3 (lit< tt))), ((refl, (refl, spawn_text 5 (lit< tt))), ((λ e. never e), tt)))))

pub small_routes : SmallRoutes
small_routes = (
  refl,
  ap (λ (d : List ℕ). ((d ++ codes " bad") ++ 10 ∷ []) ++ ((bad_text 5 ++ 10 ∷ []) ++ [])) (decimal_digit 2 (lit< tt))
      ∙ ap (λ (d : List ℕ). ((50 ∷ [] ++ codes " bad") ++ 10 ∷ []) ++ (((d ++ codes " bad") ++ 10 ∷ []) ++ [])) (decimal_digit 5 (lit< tt)),
)

four_five : codes "spawn 4" ≡ call_text 5 call.Spawn → ⊥
four_five e =
    let at : ◌≡◌ {A = ℕ} 52 53 = ap (λ (l : List ℕ). get_or l 6 0) (e ∙ sym (spawn_text 5 (lit< tt))) in
    absurd (omega arith)

one_two : ◌≡◌ {A = ℕ} 1 2 → ⊥
one_two e = absurd (omega arith)

pub asks_not : AsksNot
asks_not = (
  (λ a. four_five a.0.1.1),
  (λ a. one_two a.1.0.1.0),
  (λ a. a.1),
  (λ a. a.0 refl 4 call.Spawn (lit< tt) tt (spawn_text 4 (lit< tt))),
  λ a. never a.0.0,
)

abbrev first_number : List Request → ℕ
first_number [] = 0
first_number (r ∷ rs) = r.number

one_four : ◌≡◌ {A = ℕ} 1 4 → ⊥
one_four e = absurd (omega arith)

pub routes_not : RoutesNot
routes_not = ((λ e. one_four (ap first_number e)), λ e. one_two (ap (λ (l : List Request). length l) e))

spawn_line : (n : ℕ) (rest : List ℕ) → n < 2 ^ 64 → lines ((call_text n call.Spawn ++ 10 ∷ []) ++ rest) ≡ ended (call_text n call.Spawn) ∷ lines rest
spawn_line n rest fits =
    let none : HasNoFeed (codes "spawn " ++ decimal n) = no_feed_number (codes "spawn ") n (refl, (refl, (refl, (refl, (refl, (refl, tt)))))) (omega arith) in
    ap lines (append_assoc (codes "spawn " ++ decimal n) (10 ∷ []) rest) ∙ line_cut (codes "spawn " ++ decimal n) rest none

ask_many : (m n : ℕ) → n + m < 2 ^ 64 → Ask n (lines (request_lines (many n m))) (map Some (many n m))
ask_many zero n fits = tt
ask_many (suc m) n fits =
    subst (λ (l : List Line). Ask n l (Some (spawn n n) ∷ map Some (many (n + 1) m))) (sym (spawn_line n (request_lines (many (n + 1) m)) (omega arith))) ((refl, (refl, refl)), ask_many m (n + 1) (omega arith))

pub many_ask : ManyAsk
many_ask = (ask_many 1000 1 (lit< tt), refl)
