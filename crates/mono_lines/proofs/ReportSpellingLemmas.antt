-- Reports are read as they are spelled, and spelled as they are read.
use Rattle.std.proofs.Common.{◌≡◌, ℕ, zero, suc, ◌^◌, ◌++◌, List, [], ◌∷◌, length, Some, None, Option, ◌⊎◌, refl, sym, ap, subst, ◌∙◌, arith, inl, inr, append_assoc, codes, slice_index, ◌==◌, lit<, flat_map}
use Rattle.std.proofs.lemmas.List.{append-nil}
use Rattle.std.specs.Fmt.{decimal}
use Rattle.mono_model.specs.declared.Woke.TheVariants as woke
use Rattle.mono_model.specs.declared.Ended.{Ended}
use Rattle.mono_model.specs.declared.Ended.TheVariants as ended
use Rattle.mono_machine.specs.declared.events.Refusal.{Refusal}
use Rattle.mono_machine.specs.declared.events.Refusal.TheVariants as refusal
use Rattle.mono_machine.specs.declared.events.Reply.{Reply}
use Rattle.mono_machine.specs.declared.events.Reply.TheVariants as reply
use Rattle.mono_machine.specs.declared.events.Report.{Report}
use Rattle.mono_machine.specs.declared.events.Report.TheVariants as report
use Rattle.mono_text.specs.LineText.{refusal_text, number_text, reply_text, ended_text, reply_part, number_part, report_text}
use Rattle.mono_text.specs.Parser.{Read, mapped, then_read, word_at, number_at}
use Rattle.mono_text.proofs.PrefixLemmas.{word_is}
use Rattle.mono_text.proofs.DigitLemmas.{digits_found}
use Rattle.mono_text.proofs.SpellingLemmas.{when_cases, chosen, mapped_some, then_some, numbered_found, small}
use Rattle.mono_lines.specs.PrintableReports.{FitsAny, FitsReply, FitReplies, FitNumbers, FitsReport}
use Rattle.mono_lines.specs.ReportParser.{any_number_at, refusal_at, n_reply_at, e_reply_at, ready_with, r_reply_at, other_reply_at, reply_at, ended_at, mapped_or, replies_at, numbers_at, report_at}

-- ---- tools

-- A word that is the text of a value.
pub word_found : {A : Type 0} (word bytes r : List ℕ) (x y : A) (rest : List ℕ) → word_at word bytes ≡ Some r → ◌≡◌ {A = Read A} (Some (x, r)) (Some (y, rest)) → (x ≡ y) × (bytes ≡ word ++ rest)
word_found word bytes r x y rest w e =
    let k : (x ≡ y) × (r ≡ rest) = grind (arith, e) in
    (k.0, word_is word bytes r w ∙ ap (λ q. word ++ q) k.1)

pub any_number_found : (bytes : List ℕ) (o : Option ℕ) (rest : List ℕ) → any_number_at bytes ≡ Some (o, rest) → (bytes ≡ number_text o ++ rest) × FitsAny o
any_number_found bytes o rest e = elim (when_cases (word_at (codes " ") bytes) _ _ _ e) [
  | inl u ↦
      let k = numbered_found (2 ^ 64) (codes " ") Some bytes u.0 o rest (lit< tt) small u.1 u.2 in
      subst (λ x. (bytes ≡ number_text x ++ rest) × FitsAny x) k.1 (k.2, k.3)
  | inr u ↦
      let k : (None ≡ o) × (bytes ≡ rest) = grind (arith, u.1) in
      subst (λ x. (bytes ≡ number_text x ++ rest) × FitsAny x) k.0 (k.1, tt)
]

-- A word with a number after it, or without one.
pub with_any_found : {A : Type 0} (word : List ℕ) (make : Option ℕ → A) (bytes r : List ℕ) (y : A) (rest : List ℕ) → word_at word bytes ≡ Some r → mapped make (any_number_at r) ≡ Some (y, rest)
    → (o : Option ℕ) × (make o ≡ y) × (bytes ≡ word ++ number_text o ++ rest) × FitsAny o
with_any_found word make bytes r y rest w e =
    let k = mapped_some make (any_number_at r) y rest e in
    let d = any_number_found r k.0 rest k.1 in
    (k.0, k.2, word_is word bytes r w ∙ ap (λ x. word ++ x) d.0 ∙ sym (append_assoc word (number_text k.0) rest), d.1)

-- ---- what is read is spelled so

abbrev RefusalIs : List ℕ → List ℕ → Refusal → Type 0
RefusalIs bytes rest x = bytes ≡ refusal_text x ++ rest

refusal_found : (bytes : List ℕ) (x : Refusal) (rest : List ℕ) → refusal_at bytes ≡ Some (x, rest) → RefusalIs bytes rest x
unfolding refusal_at
refusal_found bytes x rest e = elim (when_cases (word_at (codes "idle") bytes) _ _ _ e) [
  | inl w ↦ let k = word_found (codes "idle") bytes w.0 refusal.Idle x rest w.1 w.2 in subst (RefusalIs bytes rest) k.0 k.1
  | inr o ↦ elim (when_cases (word_at (codes "no-task") bytes) _ _ _ o.1) [
    | inl w ↦ let k = word_found (codes "no-task") bytes w.0 refusal.NoTask x rest w.1 w.2 in subst (RefusalIs bytes rest) k.0 k.1
    | inr o ↦ elim (when_cases (word_at (codes "no-timer") bytes) _ _ _ o.1) [
      | inl w ↦ let k = word_found (codes "no-timer") bytes w.0 refusal.NoTimer x rest w.1 w.2 in subst (RefusalIs bytes rest) k.0 k.1
      | inr o ↦ elim (when_cases (word_at (codes "no-handle") bytes) _ _ _ o.1) [
        | inl w ↦ let k = word_found (codes "no-handle") bytes w.0 refusal.NoHandle x rest w.1 w.2 in subst (RefusalIs bytes rest) k.0 k.1
        | inr o ↦ elim (when_cases (word_at (codes "taken") bytes) _ _ _ o.1) [
          | inl w ↦ let k = word_found (codes "taken") bytes w.0 refusal.Taken x rest w.1 w.2 in subst (RefusalIs bytes rest) k.0 k.1
          | inr o ↦ elim (when_cases (word_at (codes "at-capacity") bytes) _ _ _ o.1) [
            | inl w ↦ let k = word_found (codes "at-capacity") bytes w.0 refusal.AtCapacity x rest w.1 w.2 in subst (RefusalIs bytes rest) k.0 k.1
            | inr o ↦ elim (when_cases (word_at (codes "invalid") bytes) _ _ _ o.1) [
              | inl w ↦ let k = word_found (codes "invalid") bytes w.0 refusal.Invalid x rest w.1 w.2 in subst (RefusalIs bytes rest) k.0 k.1
              | inr o ↦ elim (when_cases (word_at (codes "no-pool") bytes) _ _ _ o.1) [
                | inl w ↦ let k = word_found (codes "no-pool") bytes w.0 refusal.NoPool x rest w.1 w.2 in subst (RefusalIs bytes rest) k.0 k.1
                | inr o ↦ elim (when_cases (word_at (codes "ended") bytes) _ _ _ o.1) [
                  | inl w ↦ let k = word_found (codes "ended") bytes w.0 refusal.Ended x rest w.1 w.2 in subst (RefusalIs bytes rest) k.0 k.1
                  | inr o ↦ cc o.1
                ]
              ]
            ]
          ]
        ]
      ]
    ]
  ]
]

abbrev ReplyIs : List ℕ → List ℕ → Reply → Type 0
ReplyIs bytes rest x = (bytes ≡ reply_text x ++ rest) × FitsReply x

n_reply_found : (bytes : List ℕ) (x : Reply) (rest : List ℕ) → n_reply_at bytes ≡ Some (x, rest) → ReplyIs bytes rest x
unfolding n_reply_at
n_reply_found bytes x rest e = elim (when_cases (word_at (codes "noted") bytes) _ _ _ e) [
  | inl w ↦ let k = word_found (codes "noted") bytes w.0 (reply.Woke woke.Noted) x rest w.1 w.2 in subst (ReplyIs bytes rest) k.0 (k.1, tt)
  | inr o ↦ elim (when_cases (word_at (codes "nothing") bytes) _ _ _ o.1) [
    | inl w ↦ let k = word_found (codes "nothing") bytes w.0 (reply.Woke woke.Nothing) x rest w.1 w.2 in subst (ReplyIs bytes rest) k.0 (k.1, tt)
    | inr o ↦ elim (when_cases (word_at (codes "no") bytes) _ _ _ o.1) [
      | inl w ↦ let k = word_found (codes "no") bytes w.0 reply.No x rest w.1 w.2 in subst (ReplyIs bytes rest) k.0 (k.1, tt)
      | inr o ↦ cc o.1
    ]
  ]
]

e_reply_found : (bytes : List ℕ) (x : Reply) (rest : List ℕ) → e_reply_at bytes ≡ Some (x, rest) → ReplyIs bytes rest x
unfolding e_reply_at
e_reply_found bytes x rest e = elim (when_cases (word_at (codes "elapsed") bytes) _ _ _ e) [
  | inl w ↦ let k = word_found (codes "elapsed") bytes w.0 reply.Elapsed x rest w.1 w.2 in subst (ReplyIs bytes rest) k.0 (k.1, tt)
  | inr o ↦ elim (when_cases (word_at (codes "ended") bytes) _ _ _ o.1) [
    | inl w ↦ let k = with_any_found (codes "ended") reply.Ended bytes w.0 x rest w.1 w.2 in subst (ReplyIs bytes rest) k.1 (k.2, k.3)
    | inr o ↦ cc o.1
  ]
]

ready_is : (bytes rest : List ℕ) (o : Option ℕ) → bytes ≡ codes "ready" ++ number_text o ++ rest → FitsAny o → ReplyIs bytes rest (ready_with o)
ready_is bytes rest None e f = (e, tt)
ready_is bytes rest (Some o) e f = (e, f)

r_reply_found : (bytes : List ℕ) (x : Reply) (rest : List ℕ) → r_reply_at bytes ≡ Some (x, rest) → ReplyIs bytes rest x
unfolding r_reply_at
r_reply_found bytes x rest e = elim (when_cases (word_at (codes "ready") bytes) _ _ _ e) [
  | inl w ↦ let k = with_any_found (codes "ready") ready_with bytes w.0 x rest w.1 w.2 in subst (ReplyIs bytes rest) k.1 (ready_is bytes rest k.0 k.2 k.3)
  | inr o ↦ elim (when_cases (word_at (codes "refused ") bytes) _ _ _ o.1) [
    | inl w ↦
        let k = mapped_some reply.Refused (refusal_at w.0) x rest w.2 in
        let d = refusal_found w.0 k.0 rest k.1 in
        subst (ReplyIs bytes rest) k.2 (word_is (codes "refused ") bytes w.0 w.1 ∙ ap (λ q. codes "refused " ++ q) d, tt)
    | inr o ↦ cc o.1
  ]
]

other_reply_found : (bytes : List ℕ) (x : Reply) (rest : List ℕ) → other_reply_at bytes ≡ Some (x, rest) → ReplyIs bytes rest x
unfolding other_reply_at
other_reply_found bytes x rest e = elim (when_cases (word_at (codes "sleep ") bytes) _ _ _ e) [
  | inl w ↦ let k = numbered_found (2 ^ 64) (codes "sleep ") reply.Sleep bytes w.0 x rest (lit< tt) small w.1 w.2 in subst (ReplyIs bytes rest) k.1 (k.2, k.3)
  | inr o ↦ elim (when_cases (word_at (codes "pending") bytes) _ _ _ o.1) [
    | inl w ↦ let k = word_found (codes "pending") bytes w.0 reply.Pending x rest w.1 w.2 in subst (ReplyIs bytes rest) k.0 (k.1, tt)
    | inr o ↦ elim (when_cases (word_at (codes "task ") bytes) _ _ _ o.1) [
      | inl w ↦ let k = numbered_found (2 ^ 64) (codes "task ") reply.Task bytes w.0 x rest (lit< tt) small w.1 w.2 in subst (ReplyIs bytes rest) k.1 (k.2, k.3)
      | inr o ↦ elim (when_cases (word_at (codes "queued") bytes) _ _ _ o.1) [
        | inl w ↦ let k = word_found (codes "queued") bytes w.0 (reply.Woke woke.Queued) x rest w.1 w.2 in subst (ReplyIs bytes rest) k.0 (k.1, tt)
        | inr o ↦ elim (when_cases (word_at (codes "armed") bytes) _ _ _ o.1) [
          | inl w ↦ let k = word_found (codes "armed") bytes w.0 reply.Armed x rest w.1 w.2 in subst (ReplyIs bytes rest) k.0 (k.1, tt)
          | inr o ↦ elim (when_cases (word_at (codes "dropped") bytes) _ _ _ o.1) [
            | inl w ↦ let k = with_any_found (codes "dropped") reply.Dropped bytes w.0 x rest w.1 w.2 in subst (ReplyIs bytes rest) k.1 (k.2, k.3)
            | inr o ↦ elim (when_cases (word_at (codes "job ") bytes) _ _ _ o.1) [
              | inl w ↦ let k = numbered_found (2 ^ 64) (codes "job ") reply.Job bytes w.0 x rest (lit< tt) small w.1 w.2 in subst (ReplyIs bytes rest) k.1 (k.2, k.3)
              | inr o ↦ elim (when_cases (word_at (codes "yes") bytes) _ _ _ o.1) [
                | inl w ↦ let k = word_found (codes "yes") bytes w.0 reply.Yes x rest w.1 w.2 in subst (ReplyIs bytes rest) k.0 (k.1, tt)
                | inr o ↦ elim (when_cases (word_at (codes "canceled") bytes) _ _ _ o.1) [
                  | inl w ↦ let k = word_found (codes "canceled") bytes w.0 reply.Canceled x rest w.1 w.2 in subst (ReplyIs bytes rest) k.0 (k.1, tt)
                  | inr o ↦ cc o.1
                ]
              ]
            ]
          ]
        ]
      ]
    ]
  ]
]

reply_found : (bytes : List ℕ) (x : Reply) (rest : List ℕ) → reply_at bytes ≡ Some (x, rest) → ReplyIs bytes rest x
unfolding reply_at
reply_found bytes x rest e = elim (chosen (slice_index bytes 0 == 110) _ _ _ e) [
  | inl s ↦ n_reply_found bytes x rest s.1
  | inr v ↦ elim (chosen (slice_index bytes 0 == 101) _ _ _ v.1) [
    | inl s ↦ e_reply_found bytes x rest s.1
    | inr v ↦ elim (chosen (slice_index bytes 0 == 114) _ _ _ v.1) [
      | inl s ↦ r_reply_found bytes x rest s.1
      | inr v ↦ other_reply_found bytes x rest v.1
    ]
  ]
]

abbrev EndedIs : List ℕ → List ℕ → Ended → Type 0
EndedIs bytes rest x = bytes ≡ ended_text x ++ rest

ended_found : (bytes : List ℕ) (x : Ended) (rest : List ℕ) → ended_at bytes ≡ Some (x, rest) → EndedIs bytes rest x
unfolding ended_at
ended_found bytes x rest e = elim (when_cases (word_at (codes "idle") bytes) _ _ _ e) [
  | inl w ↦ let k = word_found (codes "idle") bytes w.0 ended.Idle x rest w.1 w.2 in subst (EndedIs bytes rest) k.0 k.1
  | inr o ↦ elim (when_cases (word_at (codes "again") bytes) _ _ _ o.1) [
    | inl w ↦ let k = word_found (codes "again") bytes w.0 ended.Again x rest w.1 w.2 in subst (EndedIs bytes rest) k.0 k.1
    | inr o ↦ elim (when_cases (word_at (codes "done") bytes) _ _ _ o.1) [
      | inl w ↦ let k = word_found (codes "done") bytes w.0 ended.Done x rest w.1 w.2 in subst (EndedIs bytes rest) k.0 k.1
      | inr o ↦ elim (when_cases (word_at (codes "gone") bytes) _ _ _ o.1) [
        | inl w ↦ let k = word_found (codes "gone") bytes w.0 ended.Gone x rest w.1 w.2 in subst (EndedIs bytes rest) k.0 k.1
        | inr o ↦ cc o.1
      ]
    ]
  ]
]

or_cases : (f : Ended → Report) (o : Read Ended) (other : Read Report) (y : Report) (rest : List ℕ) → mapped_or f o other ≡ Some (y, rest)
    → ((e : Ended) × (o ≡ Some (e, rest)) × (f e ≡ y)) ⊎ ((o ≡ None) × (other ≡ Some (y, rest)))
or_cases f None other y rest h = inr (refl, h)
or_cases f (Some o) other y rest h =
    let k : (f o.0 ≡ y) × (o.1 ≡ rest) = grind (arith, h) in
    inl (o.0, ap (λ r. Some (o.0, r)) k.1, k.0)

-- The parts of a turn's report, with the bytes after them.
abbrev pub turn_parts : List Reply → Ended → List ℕ → List ℕ
turn_parts replies e rest = flat_map reply_part replies ++ codes "; " ++ ended_text e ++ rest

pub regroup : (a f g e rest : List ℕ) → a ++ (f ++ g ++ e ++ rest) ≡ a ++ f ++ g ++ e ++ rest
regroup a f g e rest = grind (arith, append_assoc)

pub regroup_all : (a b f g e rest : List ℕ) → a ++ (b ++ (f ++ g ++ e ++ rest)) ≡ a ++ b ++ f ++ g ++ e ++ rest
regroup_all a b f g e rest = grind (arith, append_assoc)

record RepliesAre (t : ℕ) (front : List Reply) (bytes rest : List ℕ) (r : Report) : Type 0 where
  replies : List Reply
  last : Ended
  is : report.Turn t (front ++ replies) last ≡ r
  text : bytes ≡ turn_parts replies last rest
  fit : FitReplies replies

replies_found : (most t : ℕ) (front : List Reply) (bytes : List ℕ) (r : Report) (rest : List ℕ) → replies_at most t front bytes ≡ Some (r, rest) → RepliesAre t front bytes rest r
unfolding replies_at
replies_found zero t front bytes r rest h = cc h
replies_found (suc most) t front bytes r rest h = elim (when_cases (word_at (codes "; ") bytes) _ _ _ h) [
  | inr w ↦ cc w.1
  | inl w ↦
      let b : bytes ≡ codes "; " ++ w.0 = word_is (codes "; ") bytes w.0 w.1 in
      elim (or_cases (report.Turn t front) (ended_at w.0) _ r rest w.2) [
        | inl n ↦ record { replies = []; last = n.0; is = rw (append-nil front) n.2; text = b ∙ ap (λ q. codes "; " ++ q) (ended_found w.0 n.0 rest n.1); fit = tt }
        | inr n ↦
            let s = then_some (reply_at w.0) (λ x q. replies_at most t (front ++ x ∷ []) q) (r, rest) n.1 in
            let k = reply_found w.0 s.0 s.1 s.2 in
            let more = replies_found most t (front ++ s.0 ∷ []) s.1 r rest s.3 in
            record {
              replies = s.0 ∷ more.replies;
              last = more.last;
              is = ap (λ x. report.Turn t x more.last) (sym (append_assoc front (s.0 ∷ []) more.replies)) ∙ more.is;
              text = b ∙ ap (λ q. codes "; " ++ q) (k.0 ∙ ap (λ q. reply_text s.0 ++ q) more.text)
                  ∙ regroup (reply_part s.0) (flat_map reply_part more.replies) (codes "; ") (ended_text more.last) rest;
              fit = (k.1, more.fit);
            }
      ]
]

record NumbersAre (front bytes rest all : List ℕ) : Type 0 where
  numbers : List ℕ
  is : front ++ numbers ≡ all
  text : bytes ≡ flat_map number_part numbers ++ rest
  fit : FitNumbers numbers

numbers_found : (most : ℕ) (front bytes all rest : List ℕ) → numbers_at most front bytes ≡ Some (all, rest) → NumbersAre front bytes rest all
unfolding numbers_at
numbers_found zero front bytes all rest h =
    let k : (front ≡ all) × (bytes ≡ rest) = grind (arith, h) in
    record { numbers = []; is = append-nil front ∙ k.0; text = k.1; fit = tt }
numbers_found (suc most) front bytes all rest h = elim (when_cases (word_at (codes " ") bytes) _ _ _ h) [
  | inr w ↦
      let k : (front ≡ all) × (bytes ≡ rest) = grind (arith, w.1) in
      record { numbers = []; is = append-nil front ∙ k.0; text = k.1; fit = tt }
  | inl w ↦
      let s = then_some (number_at w.0) (λ n q. numbers_at most (front ++ n ∷ []) q) (all, rest) w.2 in
      let d = digits_found (2 ^ 64) w.0 s.0 s.1 (lit< tt) small s.2 in
      let more = numbers_found most (front ++ s.0 ∷ []) s.1 all rest s.3 in
      record {
        numbers = s.0 ∷ more.numbers;
        is = sym (append_assoc front (s.0 ∷ []) more.numbers) ∙ more.is;
        text = word_is (codes " ") bytes w.0 w.1 ∙ ap (λ q. codes " " ++ q) (d.0 ∙ ap (λ q. decimal s.0 ++ q) more.text ∙ sym (append_assoc (decimal s.0) (flat_map number_part more.numbers) rest))
            ∙ sym (ap (λ q. q ++ rest) (append_assoc (codes " ") (decimal s.0) (flat_map number_part more.numbers)));
        fit = (d.1, more.fit);
      }
]

abbrev pub ReportIs : List ℕ → List ℕ → Report → Type 0
ReportIs bytes rest r = (bytes ≡ report_text r ++ rest) × FitsReport r

turn_found : (bytes w : List ℕ) (r : Report) (rest : List ℕ) → word_at (codes "turn ") bytes ≡ Some w
    → then_read (number_at w) (λ t q. replies_at (length q) t [] q) ≡ Some (r, rest) → ReportIs bytes rest r
turn_found bytes w r rest h e =
    let s = then_some (number_at w) (λ t q. replies_at (length q) t [] q) (r, rest) e in
    let d = digits_found (2 ^ 64) w s.0 s.1 (lit< tt) small s.2 in
    let k = replies_found (length s.1) s.0 [] s.1 r rest s.3 in
    subst (ReportIs bytes rest) k.is (
      word_is (codes "turn ") bytes w h ∙ ap (λ q. codes "turn " ++ q) (d.0 ∙ ap (λ q. decimal s.0 ++ q) k.text)
          ∙ regroup_all (codes "turn ") (decimal s.0) (flat_map reply_part k.replies) (codes "; ") (ended_text k.last) rest,
      (d.1, k.fit),
    )

-- A word with a list of numbers after it.
listed_found : (word : List ℕ) (make : List ℕ → Report) (bytes w : List ℕ) (r : Report) (rest : List ℕ) → word_at word bytes ≡ Some w → mapped make (numbers_at (length w) [] w) ≡ Some (r, rest)
    → (ns : List ℕ) × (make ns ≡ r) × (bytes ≡ word ++ flat_map number_part ns ++ rest) × FitNumbers ns
listed_found word make bytes w r rest h e =
    let m = mapped_some make (numbers_at (length w) [] w) r rest e in
    let k = numbers_found (length w) [] w m.0 rest m.1 in
    (k.numbers, ap make k.is ∙ m.2, word_is word bytes w h ∙ ap (λ q. word ++ q) k.text ∙ sym (append_assoc word (flat_map number_part k.numbers) rest), k.fit)

pub report_found : (bytes : List ℕ) (r : Report) (rest : List ℕ) → report_at bytes ≡ Some (r, rest) → ReportIs bytes rest r
unfolding report_at
report_found bytes r rest e = elim (when_cases (word_at (codes "turn ") bytes) _ _ _ e) [
  | inl w ↦ turn_found bytes w.0 r rest w.1 w.2
  | inr o ↦ elim (when_cases (word_at (codes "fired") bytes) _ _ _ o.1) [
    | inl w ↦ let k = listed_found (codes "fired") report.Fired bytes w.0 r rest w.1 w.2 in subst (ReportIs bytes rest) k.1 (k.2, k.3)
    | inr o ↦ elim (when_cases (word_at (codes "drained") bytes) _ _ _ o.1) [
      | inl w ↦ let k = listed_found (codes "drained") report.Drained bytes w.0 r rest w.1 w.2 in subst (ReportIs bytes rest) k.1 (k.2, k.3)
      | inr o ↦ elim (when_cases (word_at (codes "listed") bytes) _ _ _ o.1) [
        | inl w ↦ let k = word_found (codes "listed") bytes w.0 report.Listed r rest w.1 w.2 in subst (ReportIs bytes rest) k.0 (k.1, tt)
        | inr o ↦ elim (when_cases (word_at (codes "unlisted") bytes) _ _ _ o.1) [
          | inl w ↦ let k = word_found (codes "unlisted") bytes w.0 report.Unlisted r rest w.1 w.2 in subst (ReportIs bytes rest) k.0 (k.1, tt)
          | inr o ↦
              let k = mapped_some report.Reply (reply_at bytes) r rest o.1 in
              subst (ReportIs bytes rest) k.2 (reply_found bytes k.0 rest k.1)
        ]
      ]
    ]
  ]
]
