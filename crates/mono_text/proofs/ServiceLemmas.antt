-- The answers so far, and the rest.
use Rattle.std.proofs.Common.{◌≡◌, ℕ, ◌+◌, ◌<◌, ◌≤◌, List, [], ◌∷◌, ◌++◌, length, flat_map, refl, sym, ap, subst, ◌∙◌, arith, append_assoc, length-append}
use Rattle.std.proofs.lemmas.List.{append-nil}
use Rattle.mono_text.specs.Lines.{Line, lines, AreLines, IsFirstWrong}
use Rattle.mono_text.specs.declared.services.Served.{Served}
use Rattle.mono_text.specs.declared.services.Served.TheVariants as served
use Rattle.mono_text.specs.Services.{HasNoFeed, Says, StartsWith, StartsWithNone, answer_line, AnswersAll, IsServed, Serves, AnswersAs}
use Rattle.mono_text.proofs.InputLineLemmas.{NoFeed, ended, lines_front, first_line, line_in}

no_feed : (text : List ℕ) → HasNoFeed text → NoFeed text
no_feed [] has = tt
no_feed (b ∷ bs) has = (has.0, no_feed bs has.1)

lines_more : {A : Type 0} (Form : A → Line → Type 0) (xs : List A) (ls : List Line) (x : A) (l : Line) → AreLines Form xs ls → Form x l → AreLines Form (xs ++ x ∷ []) (ls ++ l ∷ [])
lines_more Form [] [] x l p q = (q, tt)
lines_more Form [] (k ∷ ls) x l p q = absurd p
lines_more Form (y ∷ xs) [] x l p q = absurd p
lines_more Form (y ∷ xs) (k ∷ ls) x l p q = (p.0, lines_more Form xs ls x l p.1 q)

run_more : {S A : Type 0} (Answers : S → A → List ℕ → S → Type 0) (start : S) (calls : List A) (answers : List (List ℕ)) (mid : S) (call : A) (answer : List ℕ) (new : S)
    → AnswersAll Answers start calls answers mid → Answers mid call answer new → AnswersAll Answers start (calls ++ call ∷ []) (answers ++ answer ∷ []) new
run_more Answers start [] [] mid call answer new run one = (new, subst (λ m. Answers m call answer new) run one, refl)
run_more Answers start [] (a ∷ answers) mid call answer new run one = absurd run
run_more Answers start (c ∷ calls) [] mid call answer new run one = absurd run
run_more Answers start (c ∷ calls) (a ∷ answers) mid call answer new run one = (run.0, run.1, run_more Answers run.0 calls answers mid call answer new run.2 one)

text_more : (answers : List (List ℕ)) (answer : List ℕ) → flat_map answer_line (answers ++ answer ∷ []) ≡ flat_map answer_line answers ++ answer_line answer
text_more [] answer = append-nil (answer_line answer)
text_more (a ∷ answers) answer = ap (λ x. answer_line a ++ x) (text_more answers answer) ∙ sym (append_assoc (answer_line a) (flat_map answer_line answers) (answer_line answer))

module _ {S A : Type 0} (text : A → List ℕ) (Fits : A → Type 0) (Answers : S → A → List ℕ → S → Type 0) (start : S) (input : List ℕ) where
  -- this number of lines was read, and rest is left
  pub record Progress (count : ℕ) (service : S) (out rest : List ℕ) : Type 0 where
    pub calls : List A
    pub good : List Line
    pub answers : List (List ℕ)
    pub split : lines input ≡ good ++ lines rest
    pub each : AreLines (Says text Fits) calls good
    pub run : AnswersAll Answers start calls answers service
    pub out_is : out ≡ flat_map answer_line answers
    pub counted : count ≡ length good
    pub shorter : count + length rest ≤ length input

  pub started : (out : List ℕ) → out ≡ [] → Progress 0 start out input
  started out e = record { calls = []; good = []; answers = []; split = refl; each = tt; run = refl; out_is = e; counted = refl; shorter = omega arith }

  pub one_more : (count : ℕ) (service after : S) (out new rest behind : List ℕ) (call : A) → Progress count service out rest → StartsWith text Fits rest call behind
      → ((answer : List ℕ) × Answers service call answer after × (new ≡ out ++ answer_line answer)) → Progress (count + 1) after new behind
  one_more count service after out new rest behind call p b told =
      let l : lines rest ≡ ended (text call) ∷ lines behind = ap lines b.is ∙ lines_front (text call) behind (no_feed (text call) b.one_line) in
      let says : Says text Fits call (ended (text call)) = unfold ended in record { fits = b.fits; text_is = refl; is_ended = refl } in
      record {
        calls = p.calls ++ call ∷ [];
        good = p.good ++ ended (text call) ∷ [];
        answers = p.answers ++ told.0 ∷ [];
        split = p.split ∙ ap (λ x. p.good ++ x) l ∙ sym (append_assoc p.good (ended (text call) ∷ []) (lines behind));
        each = lines_more (Says text Fits) p.calls p.good call (ended (text call)) p.each says;
        run = run_more Answers start p.calls p.answers service call told.0 after p.run told.1;
        out_is = told.2 ∙ ap (λ x. x ++ answer_line told.0) p.out_is ∙ sym (text_more p.answers told.0);
        counted = omega (arith, p.counted, length-append p.good (ended (text call) ∷ []));
        shorter = omega (arith, p.shorter, ap length b.is, length-append (text call) (10 ∷ behind));
      }

  pub all_served : (count : ℕ) (service : S) (out rest : List ℕ) → Progress count service out rest → length rest ≡ 0 → IsServed text Fits Answers start input out
  all_served count service out [] p e =
      record { calls = p.calls; answers = p.answers; last = service; are_lines = subst (AreLines (Says text Fits) p.calls) (sym (p.split ∙ append-nil p.good)) p.each; run = p.run; output_is = p.out_is }
  all_served count service out (b ∷ rest) p e = absurd (omega (arith, e))

  no_call : (bytes : List ℕ) (l : Line) (ls : List Line) → lines bytes ≡ l ∷ ls → StartsWithNone text Fits bytes → (call : A) → Says text Fits call l → ⊥
  no_call bytes l ls is none call line =
      let k = line_in bytes l ls is line.is_ended in
      none call k.0 (k.1 ∙ ap (λ x. x ++ 10 ∷ k.0) line.text_is) line.fits

  pub first_wrong : (count : ℕ) (service : S) (out rest : List ℕ) → Progress count service out rest → 0 < length rest → StartsWithNone text Fits rest → IsFirstWrong (Says text Fits) (lines input) (count + 1)
  first_wrong count service out [] p some none = absurd (omega (arith, some))
  first_wrong count service out (b ∷ rest) p some none =
      let f = first_line b rest in
      (p.calls, p.good, f.0, f.1, p.split ∙ ap (λ x. p.good ++ x) f.2, p.each, omega (arith, p.counted), no_call (b ∷ rest) f.0 f.1 f.2 none)

-- ---- from a value to the model that it refines

module _ {S K A : Type 0} (Stands : S → K → Type 0) (Allowed : K → A → List ℕ → K → Type 0) where
  pub run_through : (old new : S) (model : K) (calls : List A) (answers : List (List ℕ)) → AnswersAll (AnswersAs Stands Allowed) old calls answers new → Stands old model
      → (last : K) × AnswersAll Allowed model calls answers last
  run_through old new model [] [] run stands = (model, refl)
  run_through old new model [] (a ∷ answers) run stands = absurd run
  run_through old new model (c ∷ calls) [] run stands = absurd run
  run_through old new model (c ∷ calls) (a ∷ answers) run stands =
      let k = run.1 model stands in
      let rest = run_through run.0 new k.0 calls answers run.2 k.2 in
      (rest.0, (k.0, k.1, rest.1))

  -- the model serves each call that the value serves
  pub serves_through : (text : A → List ℕ) (Fits : A → Type 0) (start : S) (first : K) (input : List ℕ) (r : Served) → Stands start first
      → Serves text Fits (AnswersAs Stands Allowed) start input r → Serves text Fits Allowed first input r
  serves_through text Fits start first input (served.BadLine n) stands s = s
  serves_through text Fits start first input (served.Output bytes) stands s =
      let run = run_through start s.last first s.calls s.answers s.run stands in
      record { calls = s.calls; answers = s.answers; last = run.0; are_lines = s.are_lines; run = run.1; output_is = s.output_is }
