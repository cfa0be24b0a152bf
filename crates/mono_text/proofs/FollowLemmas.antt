-- Lines that were answered in sequence, and the bytes read and written for them.
use Rattle.std.proofs.Common.{◌≡◌, ℕ, suc, ◌+◌, ◌<◌, List, [], ◌∷◌, ◌++◌, length, take, flat_map, Option, Some, None, refl, sym, ap, subst, ◌∙◌, arith, append_assoc, length-append}
use Rattle.std.proofs.lemmas.List.{append-nil, take_all}
use Rattle.mono_text.specs.Environment.{HasRead, HasReadAll, Reads, HasWritten, HasWrittenPrefix}
use Rattle.mono_text.specs.Services.{AnswersAll, AnswersAs, answer_line, HasNoFeed, StartsWith, StartsWithNone}
use Rattle.mono_text.specs.Follows.{call_line, AllFit, Follows, Advances, Answered, HasFollowed, end_of}
use Rattle.mono_text.specs.declared.followers.FollowEnd.{FollowEnd}
use Rattle.mono_text.specs.declared.followers.FollowEnd.TheVariants as end
use Rattle.mono_text.proofs.EnvironmentLemmas.{read_on, read_start, read_to_end}
use Rattle.mono_text.proofs.ServiceLemmas.{run_through}

texts_append : {A : Type 0} (f : A → List ℕ) (xs ys : List A) → flat_map f (xs ++ ys) ≡ flat_map f xs ++ flat_map f ys
texts_append f [] ys = refl
texts_append f (x ∷ xs) ys = ap (λ t. f x ++ t) (texts_append f xs ys) ∙ sym (append_assoc (f x) (flat_map f xs) (flat_map f ys))

fit_append : {A : Type 0} (Fits : A → Type 0) (xs ys : List A) → AllFit Fits xs → AllFit Fits ys → AllFit Fits (xs ++ ys)
fit_append Fits [] ys p q = q
fit_append Fits (x ∷ xs) ys p q = (p.0, fit_append Fits xs ys p.1 q)

run_append : {S A : Type 0} (Answers : S → A → List ℕ → S → Type 0) (start : S) (calls : List A) (answers : List (List ℕ)) (mid : S) (later : List A) (replies : List (List ℕ)) (new : S)
    → AnswersAll Answers start calls answers mid → AnswersAll Answers mid later replies new → AnswersAll Answers start (calls ++ later) (answers ++ replies) new
run_append Answers start [] [] mid later replies new run more = subst (λ m. AnswersAll Answers m later replies new) run more
run_append Answers start [] (a ∷ answers) mid later replies new run more = absurd run
run_append Answers start (c ∷ calls) [] mid later replies new run more = absurd run
run_append Answers start (c ∷ calls) (a ∷ answers) mid later replies new run more = (run.0, run.1, run_append Answers run.0 calls answers mid later replies new run.2 more)

module _ {S A : Type 0} (text : A → List ℕ) (Fits : A → Type 0) (Answers : S → A → List ℕ → S → Type 0) where
  pub none_yet : (start : S) → Follows text Fits Answers start [] [] start
  none_yet start = record { calls = []; answers = []; bytes_are = refl; fit = tt; run = refl; output_is = refl }

  pub both : (start mid new : S) (bytes output more written : List ℕ) → Follows text Fits Answers start bytes output mid → Follows text Fits Answers mid more written new
      → Follows text Fits Answers start (bytes ++ more) (output ++ written) new
  both start mid new bytes output more written p q = record {
    calls = p.calls ++ q.calls;
    answers = p.answers ++ q.answers;
    bytes_are = ap (λ x. x ++ more) p.bytes_are ∙ ap (λ x. flat_map (call_line text) p.calls ++ x) q.bytes_are ∙ sym (texts_append (call_line text) p.calls q.calls);
    fit = fit_append Fits p.calls q.calls p.fit q.fit;
    run = run_append Answers start p.calls p.answers mid q.calls q.answers new p.run q.run;
    output_is = ap (λ x. x ++ written) p.output_is ∙ ap (λ x. flat_map answer_line p.answers ++ x) q.output_is ∙ sym (texts_append answer_line p.answers q.answers);
  }

  pub one : (old new : S) (call : A) (answer : List ℕ) → Fits call → Answers old call answer new → Follows text Fits Answers old (call_line text call) (answer_line answer) new
  one old new call answer fits told = record {
    calls = call ∷ [];
    answers = answer ∷ [];
    bytes_are = sym (append-nil (call_line text call));
    fit = (fits, tt);
    run = (new, told, refl);
    output_is = sym (append-nil (answer_line answer));
  }

  pub not_advanced : (start : S) (bytes out : List ℕ) → Advances text Fits Answers start bytes out start bytes out
  not_advanced start bytes out = record { taken = []; output = []; split = refl; follows = none_yet start; out_is = sym (append-nil out) }

  pub advanced : (start mid new : S) (bytes before rest after behind out : List ℕ) (call : A) → Advances text Fits Answers start bytes before mid rest after → StartsWith text Fits rest call behind
      → ((answer : List ℕ) × Answers mid call answer new × (out ≡ after ++ answer_line answer)) → Advances text Fits Answers start bytes before new behind out
  advanced start mid new bytes before rest after behind out call p line told = record {
    taken = p.taken ++ call_line text call;
    output = p.output ++ answer_line told.0;
    split = p.split ∙ ap (λ x. p.taken ++ x) (line.is ∙ sym (append_assoc (text call) (10 ∷ []) behind)) ∙ sym (append_assoc p.taken (call_line text call) behind);
    follows = both start mid new p.taken p.output (call_line text call) (answer_line told.0) p.follows (one mid new call told.0 line.fits told.1);
    out_is = told.2 ∙ ap (λ x. x ++ answer_line told.0) p.out_is ∙ append_assoc before p.output (answer_line told.0);
  }

  pub from_empty : (start : S) (bytes before : List ℕ) (now : S) (rest after : List ℕ) → before ≡ [] → Advances text Fits Answers start bytes before now rest after → Advances text Fits Answers start bytes [] now rest after
  from_empty start bytes before now rest after e p = subst (λ x. Advances text Fits Answers start bytes x now rest after) e p

  -- the lines that were answered, and the bytes read after them
  pub record Standing (start now : S) (pending : List ℕ) (left mid before written : Option (List ℕ)) : Type 0 where
    pub taken : List ℕ
    pub output : List ℕ
    pub follows : Follows text Fits Answers start taken output now
    pub read : HasRead left (taken ++ pending) mid
    pub wrote : HasWritten before written output

  written_none : (before : Option (List ℕ)) → HasWritten before before []
  written_none None = refl
  written_none (Some w) = ap Some (sym (append-nil w))

  written_both : (before mid after : Option (List ℕ)) (one two : List ℕ) → HasWritten before mid one → HasWritten mid after two → HasWritten before after (one ++ two)
  written_both None mid after one two p q = rw p at q
  written_both (Some w) mid after one two p q =
      let k : after ≡ Some ((w ++ one) ++ two) = rw p at q in
      k ∙ ap Some (append_assoc w one two)

  pub all_written : (before after : Option (List ℕ)) (bytes : List ℕ) → HasWritten before after bytes → HasWrittenPrefix before after bytes
  all_written before after bytes p =
      let all : take (length bytes) bytes ≡ bytes = take_all (length bytes) bytes (omega arith) in
      (length bytes, omega arith, subst (λ x. HasWritten before after x) (sym all) p)

  take_behind : (xs ys : List ℕ) (n : ℕ) → take (length xs + n) (xs ++ ys) ≡ xs ++ take n ys
  take_behind [] ys n = ap (λ k. take k ys) (zero_plus n)
    where
      zero_plus : (n : ℕ) → 0 + n ≡ n
      zero_plus n = omega arith
  take_behind (x ∷ xs) ys n =
      let e : suc (length xs) + n ≡ suc (length xs + n) = omega arith in
      rw e (ap (λ t. x ∷ t) (take_behind xs ys n))

  pub prefix_behind : (before mid after : Option (List ℕ)) (one two : List ℕ) → HasWritten before mid one → HasWrittenPrefix mid after two → HasWrittenPrefix before after (one ++ two)
  prefix_behind before mid after one two p q =
      (length one + q.0, omega (arith, q.1, length-append one two), subst (λ x. HasWritten before after x) (sym (take_behind one two q.0)) (written_both before mid after one (take q.0 two) p q.2))

  pub standing : (start : S) (pending : List ℕ) (left before : Option (List ℕ)) → pending ≡ [] → Standing start start pending left left before before
  standing start pending left before e = record { taken = []; output = []; follows = none_yet start; read = read_start left pending e; wrote = written_none before }

  pub after_read : (start now : S) (pending : List ℕ) (left mid before written next : Option (List ℕ)) (buffer : List ℕ) (n : ℕ) → Standing start now pending left mid before written → Reads mid next buffer n
      → Standing start now (pending ++ take n buffer) left next before written
  after_read start now pending left mid before written next buffer n p r = record {
    taken = p.taken;
    output = p.output;
    follows = p.follows;
    read = subst (λ x. HasRead left x next) (append_assoc p.taken pending (take n buffer)) (read_on left (p.taken ++ pending) mid next buffer n p.read r);
    wrote = p.wrote;
  }

  pub grown : (start now : S) (pending more : List ℕ) (left mid before written next : Option (List ℕ)) (buffer : List ℕ) (n : ℕ) → Standing start now pending left mid before written → Reads mid next buffer n
      → more ≡ pending ++ take n buffer → Standing start now more left next before written
  grown start now pending more left mid before written next buffer n p r e =
      subst (λ x. Standing start now x left next before written) (sym e) (after_read start now pending left mid before written next buffer n p r)

  pub after_answers : (start now new : S) (pending rest out : List ℕ) (left mid before written after : Option (List ℕ)) → Standing start now pending left mid before written → Advances text Fits Answers now pending [] new rest out
      → HasWritten written after out → Standing start new rest left mid before after
  after_answers start now new pending rest out left mid before written after p a w = record {
    taken = p.taken ++ a.taken;
    output = p.output ++ out;
    follows = both start now new p.taken p.output a.taken out p.follows (subst (λ x. Follows text Fits Answers now a.taken x new) (sym a.out_is) a.follows);
    read = subst (λ x. HasRead left x mid) (ap (λ x. p.taken ++ x) a.split ∙ sym (append_assoc p.taken a.taken rest)) p.read;
    wrote = written_both before written after p.output out p.wrote w;
  }

  abbrev pub is_fault : FollowEnd → Type 0
  is_fault end.Done = ⊥
  is_fault end.BadLine = ⊥
  is_fault end.ReadFault = Unit {0}
  is_fault end.WriteFault = Unit {0}
  is_fault end.OutOfMemory = Unit {0}
  is_fault end.TooLong = Unit {0}

  no_done : (e : FollowEnd) → is_fault e → e ≡ end.Done → ⊥
  no_done e f is = subst is_fault is f

  no_bad : (e : FollowEnd) → is_fault e → e ≡ end.BadLine → ⊥
  no_bad e f is = subst is_fault is f

  -- a call failed before a write
  pub failed : (e : FollowEnd) → is_fault e → (start now : S) (pending rest : List ℕ) (left mid before written : Option (List ℕ)) → Standing start now pending left mid before written
      → HasFollowed text Fits Answers start e rest left mid before written
  failed e f start now pending rest left mid before written p = record {
    taken = p.taken;
    more = pending;
    output = p.output;
    last = now;
    follows = p.follows;
    read = p.read;
    wrote = all_written before written p.output p.wrote;
    done = λ is. absurd (no_done e f is);
    bad = λ is. absurd (no_bad e f is);
  }

  abbrev pub is_bad : FollowEnd → Type 0
  is_bad end.Done = ⊥
  is_bad end.BadLine = Unit {0}
  is_bad end.ReadFault = ⊥
  is_bad end.WriteFault = ⊥
  is_bad end.OutOfMemory = ⊥
  is_bad end.TooLong = ⊥

  abbrev pub is_done : FollowEnd → Type 0
  is_done end.Done = Unit {0}
  is_done end.BadLine = ⊥
  is_done end.ReadFault = ⊥
  is_done end.WriteFault = ⊥
  is_done end.OutOfMemory = ⊥
  is_done end.TooLong = ⊥

  -- a line says no call
  pub bad_line : (start now : S) (rest : List ℕ) (left mid before written : Option (List ℕ)) → Standing start now rest left mid before written → StartsWithNone text Fits rest
      → HasFollowed text Fits Answers start end.BadLine rest left mid before written
  bad_line start now rest left mid before written p none = record {
    taken = p.taken;
    more = rest;
    output = p.output;
    last = now;
    follows = p.follows;
    read = p.read;
    wrote = all_written before written p.output p.wrote;
    done = λ is. absurd (subst is_bad is tt);
    bad = λ _. (refl, p.wrote, none);
  }

  -- a line that has no end says no call
  feedless : (xs ys : List ℕ) → HasNoFeed (xs ++ 10 ∷ ys) → ⊥
  feedless [] ys h = cc h.0
  feedless (x ∷ xs) ys h = feedless xs ys h.1

  no_line : (bytes : List ℕ) → HasNoFeed bytes → StartsWithNone text Fits bytes
  no_line bytes whole call rest is fits = feedless (text call) rest (subst HasNoFeed is whole)

  -- the input ended
  pub at_end : (start now : S) (pending : List ℕ) (left mid next before written : Option (List ℕ)) (buffer : List ℕ) (n : ℕ) → Standing start now pending left mid before written → HasNoFeed pending
      → Reads mid next buffer n → n ≡ 0 → 0 < length buffer → HasFollowed text Fits Answers start (end_of pending) pending left next before written
  unfolding after_read
  at_end start now [] left mid next before written buffer n p whole r z some =
      let all : HasReadAll left (p.taken ++ []) next = read_to_end left (p.taken ++ []) mid next buffer n p.read r z some in
      let same : HasReadAll left p.taken next = subst (λ x. HasReadAll left x next) (append-nil p.taken) all in
      let on = after_read start now [] left mid before written next buffer n p r in
      record {
        taken = p.taken;
        more = take n buffer;
        output = p.output;
        last = now;
        follows = p.follows;
        read = on.read;
        wrote = all_written before written p.output p.wrote;
        done = λ _. (same, p.wrote);
        bad = λ is. absurd (subst is_done is tt);
      }
  at_end start now (b ∷ bs) left mid next before written buffer n p whole r z some =
      let none : take n buffer ≡ [] = rw z refl in
      let on : Standing start now (b ∷ bs) left next before written =
      subst (λ x. Standing start now x left next before written) (ap (λ x. (b ∷ bs) ++ x) none ∙ append-nil (b ∷ bs)) (after_read start now (b ∷ bs) left mid before written next buffer n p r) in
      bad_line start now (b ∷ bs) left next before written on (no_line (b ∷ bs) whole)

  -- the answers to a block ended the run
  pub ended_in : (e : FollowEnd) (start now new : S) (pending rest : List ℕ) (left mid before written after : Option (List ℕ)) → Standing start now pending left mid before written
      → Answered text Fits Answers now pending (Some e) new rest written after → HasFollowed text Fits Answers start e rest left mid before after
  ended_in end.Done start now new pending rest left mid before written after p a = absurd a
  ended_in end.ReadFault start now new pending rest left mid before written after p a = absurd a
  ended_in end.TooLong start now new pending rest left mid before written after p a = absurd a
  ended_in end.OutOfMemory start now new pending rest left mid before written after p a =
      subst (λ x. HasFollowed text Fits Answers start end.OutOfMemory rest left mid before x) (sym a) (failed end.OutOfMemory tt start now pending rest left mid before written p)
  ended_in end.BadLine start now new pending rest left mid before written after p a =
      bad_line start new rest left mid before after (after_answers start now new pending rest a.0.0 left mid before written after p a.0.1 a.0.2) a.1
  ended_in end.WriteFault start now new pending rest left mid before written after p a =
      let adv = a.2 in record {
        taken = p.taken ++ adv.taken;
        more = a.1;
        output = p.output ++ a.0;
        last = new;
        follows = both start now new p.taken p.output adv.taken a.0 p.follows (subst (λ x. Follows text Fits Answers now adv.taken x new) (sym adv.out_is) adv.follows);
        read = subst (λ x. HasRead left x mid) (ap (λ x. p.taken ++ x) adv.split ∙ sym (append_assoc p.taken adv.taken a.1)) p.read;
        wrote = prefix_behind before written after p.output a.0 p.wrote a.3;
        done = λ is. absurd (no_done end.WriteFault tt is);
        bad = λ is. absurd (no_bad end.WriteFault tt is);
      }

  -- the lines of a block were answered
  pub goes_on : (start now new : S) (pending rest : List ℕ) (left mid before written after : Option (List ℕ)) → Standing start now pending left mid before written
      → Answered text Fits Answers now pending None new rest written after → Standing start new rest left mid before after × HasNoFeed rest
  goes_on start now new pending rest left mid before written after p a =
      (after_answers start now new pending rest a.0.0 left mid before written after p a.0.1 a.0.2, a.1)

  -- without a line feed no line is answered
  pub nothing_ready : (now : S) (pending : List ℕ) (written : Option (List ℕ)) → HasNoFeed pending → Answered text Fits Answers now pending None now pending written written
  nothing_ready now pending written whole = (([], not_advanced now pending [], written_none written), whole)

  -- a read failed
  pub unread : (start now : S) (pending : List ℕ) (left mid next before written : Option (List ℕ)) → Standing start now pending left mid before written → next ≡ mid
      → HasFollowed text Fits Answers start end.ReadFault pending left next before written
  unread start now pending left mid next before written p is =
      subst (λ x. HasFollowed text Fits Answers start end.ReadFault pending left x before written) (sym is) (failed end.ReadFault tt start now pending pending left mid before written p)

-- ---- from a value to the model that it refines

module _ {S K A : Type 0} (Stands : S → K → Type 0) (Allowed : K → A → List ℕ → K → Type 0) where
  pub followed_through : (text : A → List ℕ) (Fits : A → Type 0) (start : S) (first : K) (e : FollowEnd) (rest : List ℕ) (left now before after : Option (List ℕ)) → Stands start first
      → HasFollowed text Fits (AnswersAs Stands Allowed) start e rest left now before after → HasFollowed text Fits Allowed first e rest left now before after
  followed_through text Fits start first e rest left now before after stands p =
      let run = run_through Stands Allowed start p.last first p.follows.calls p.follows.answers p.follows.run stands in
      record {
        taken = p.taken;
        more = p.more;
        output = p.output;
        last = run.0;
        follows = record { calls = p.follows.calls; answers = p.follows.answers; bytes_are = p.follows.bytes_are; fit = p.follows.fit; run = run.1; output_is = p.follows.output_is };
        read = p.read;
        wrote = p.wrote;
        done = p.done;
        bad = p.bad;
      }
