-- What a printer wrote after one more text.
use Rattle.std.proofs.Common.{◌≡◌, ◌+◌, ◌≤◌, ◌⊎◌, inl, inr, ℕ, Bool, true, false, List, [], ◌∷◌, ◌++◌, length, take, Option, Some, None, Result, Ok, refl, sym, ap, subst, ◌∙◌, append_assoc, arith}
use Rattle.std.proofs.Math.Seq.{take-append-add, take-length}
use Rattle.std.proofs.lemmas.Grind.{flat_map-append}
use Rattle.std.proofs.lemmas.List.{append-nil, length-append}
use Rattle.std.specs.declared.alloc.AllocError.{AllocError}
use Rattle.mono_model.specs.declared.poll.Poll.{Poll}
use Rattle.mono_model.specs.declared.poll.Poll.TheVariants.{Ready}
use Rattle.mono_text.specs.Environment.{HasWritten, HasWrittenPrefix}
use Rattle.mono_channel.specs.Ends.{Ends, received_by, closed}
use Rattle.mono_channel.specs.Polls.{HasReceived, FindsNone, PollsToReceive}
use Rattle.lease_server.specs.Answers.{answer_line, answer_lines}
use Rattle.lease_server.specs.Texts.{said_by, said_by_all}
use Rattle.lease_server.specs.Outlets.{Keeps}
use Rattle.lease_server.specs.Printers.{bytes_of, WritesIf, FaultsIf, SaysWritten, Fits, Leads, HasWrittenTexts}
use Rattle.lease_server.specs.declared.texts.Text.{Text}
use Rattle.lease_server.specs.declared.writer.Printer.{Printer}
use Rattle.lease_server.specs.declared.writer.Wrote.{Wrote}

bytes_more : (texts : List Text) (text : Text) → bytes_of (texts ++ text ∷ []) ≡ bytes_of texts ++ answer_lines (said_by text)
bytes_more texts text =
    ap (λ a. answer_lines a) (flat_map-append said_by texts (text ∷ []) ∙ ap (λ l. said_by_all texts ++ l) (append-nil (said_by text))) ∙ flat_map-append answer_line (said_by_all texts) (said_by text)

written_on : (before mid after : Option (List ℕ)) (one two : List ℕ) → HasWritten before mid one → HasWritten mid after two → HasWritten before after (one ++ two)
written_on None mid after one two p q = subst (λ x. HasWritten x after two) p q
written_on (Some ws) mid after one two p q = subst (λ x. HasWritten x after two) p q ∙ ap Some (append_assoc ws one two)

prefix_on : (before mid after : Option (List ℕ)) (one two : List ℕ) → HasWritten before mid one → HasWrittenPrefix mid after two → HasWrittenPrefix before after (one ++ two)
prefix_on before mid after one two p q =
    (length one + q.0, omega (arith, q.1, length-append one two), subst (λ x. HasWritten before after x) (sym (take-append-add one two q.0)) (written_on before mid after one (take q.0 two) p q.2))

all_is_begun : (before after : Option (List ℕ)) (bytes : List ℕ) → HasWritten before after bytes → HasWrittenPrefix before after bytes
all_is_begun before after bytes p = (length bytes, omega arith, subst (λ x. HasWritten before after x) (sym (take-length bytes)) p)

writes_on : (failed : Bool) (before mid after : Option (List ℕ)) (one two : List ℕ) → HasWritten before mid one → WritesIf failed mid after two → WritesIf failed before after (one ++ two)
writes_on true before mid after one two p q = prefix_on before mid after one two p q
writes_on false before mid after one two p q = written_on before mid after one two p q

begun_if : (failed : Bool) (before after : Option (List ℕ)) (bytes : List ℕ) → WritesIf failed before after bytes → HasWrittenPrefix before after bytes
begun_if true before after bytes p = p
begun_if false before after bytes p = all_is_begun before after bytes p

pub written_none : (before : Option (List ℕ)) → HasWritten before before []
written_none None = refl
written_none (Some ws) = ap Some (sym (append-nil ws))

pub came : (old new : Ends Text) (a : Result (Option Text) AllocError) (o : Option Text) (text : Text) → a ≡ Ok o → o ≡ Some text → PollsToReceive old (Ready a) new → HasReceived old text new
came old new a o text e f p = subst (λ x. PollsToReceive old (Ready (Ok x)) new) f (subst (λ x. PollsToReceive old (Ready x) new) e p)

says_going : (status before now : ℕ) → (status ≡ 0) ⊎ (status ≡ 6) → now ≡ before → SaysWritten status before now
says_going status before now (inl done) same = inl (done, same)
says_going status before now (inr memory) same = inr (inr (memory, same))

-- what the status says, by whether a write failed
says_by : (failed : Bool) (status before now : ℕ) → (failed ≡ true → status ≡ 5) → (failed ≡ false → (status ≡ 0) ⊎ (status ≡ 6)) → FaultsIf failed before now → SaysWritten status before now
says_by true status before now write other faults = inr (inl (write refl, faults))
says_by false status before now write other faults = says_going status before now (other refl) faults

none_failed : (failed : Bool) (status : ℕ) → (failed ≡ true → status ≡ 5) → status ≡ 0 → failed ≡ false
none_failed true status write done = absurd (omega (arith, write refl, done))
none_failed false status write done = refl

module _ {K : Type 0} (written : K → Option (List ℕ)) (faults : K → ℕ) where
  -- nothing came
  pub printed_none : (a b : Printer K) → FindsNone a.texts b.texts → b.sink ≡ a.sink → b.has_failed ≡ a.has_failed → Leads written faults a b
  printed_none a b none sink failed = (
    (none.0, none.2, none.4),
    (λ before f.
        subst (λ t. WritesIf b.has_failed before (written b.sink) (bytes_of t)) (sym none.1) (subst (λ s. WritesIf b.has_failed before (written s) (bytes_of (received_by a.texts))) (sym sink) (subst (λ h. WritesIf h before (written a.sink) (bytes_of (received_by a.texts))) (sym failed) f))),
    λ before f. subst (λ h. FaultsIf h before (faults b.sink)) (sym failed) (subst (λ s. FaultsIf a.has_failed before (faults s)) (sym sink) f),
  )

  -- a text came, and was written
  pub printed : (a b : Printer K) (mid : Ends Text) (text : Text) → a.has_failed ≡ false → HasReceived a.texts text mid → b.texts ≡ mid → WritesIf b.has_failed (written a.sink) (written b.sink) (answer_lines (said_by text))
      → FaultsIf b.has_failed (faults a.sink) (faults b.sink) → Leads written faults a b
  printed a b mid text going got texts wrote counted = (
    subst (λ e. Keeps a.texts e) (sym texts) (got.0, got.2, got.3),
    (λ before f.
        let was = received_by a.texts in
        let all : bytes_of (received_by b.texts) ≡ bytes_of was ++ answer_lines (said_by text) = ap (λ e. bytes_of (received_by e)) texts ∙ ap (λ l. bytes_of l) got.1 ∙ bytes_more was text in
        let whole : HasWritten before (written a.sink) (bytes_of was) = subst (λ h. WritesIf h before (written a.sink) (bytes_of was)) going f in
        subst (λ l. WritesIf b.has_failed before (written b.sink) l) (sym all) (writes_on b.has_failed before (written a.sink) (written b.sink) (bytes_of was) (answer_lines (said_by text)) whole wrote)),
    λ before f. subst (λ n. FaultsIf b.has_failed n (faults b.sink)) (subst (λ h. FaultsIf h before (faults a.sink)) going f) counted,
  )

  -- all that a writer's thread did
  pub has_written : (texts : Ends Text) (sink : K) (a b : Printer K) (wrote : Wrote K) → a ≡ record { texts = texts; sink = sink; has_failed = false } → Leads written faults a b → wrote.texts ≡ closed b.texts → wrote.sink ≡ b.sink
      → (b.has_failed ≡ true → wrote.status ≡ 5) → (b.has_failed ≡ false → (wrote.status ≡ 0) ⊎ (wrote.status ≡ 6)) → HasWrittenTexts written faults texts sink wrote
  has_written texts sink a b wrote start led same_texts same_sink write other =
      let first : Printer K = record { texts = texts; sink = sink; has_failed = false } in
      let leads : Leads written faults first b = subst (λ x. Leads written faults x b) start led in
      let fits : received_by texts ≡ [] → WritesIf b.has_failed (written sink) (written b.sink) (bytes_of (received_by b.texts)) =
      λ none. leads.1 (written sink) (subst (λ l. HasWritten (written sink) (written sink) (bytes_of l)) (sym none) (written_none (written sink))) in
      let here : (P : Option (List ℕ) → List ℕ → Type 0) → P (written b.sink) (bytes_of (received_by b.texts)) → P (written wrote.sink) (bytes_of (received_by wrote.texts)) =
      λ P p. subst (λ s. P (written s) (bytes_of (received_by wrote.texts))) (sym same_sink) (subst (λ e. P (written b.sink) (bytes_of (received_by e))) (sym same_texts) p) in
      record {
        same = subst (λ e. Keeps texts e) (sym same_texts) leads.0;
        whole = λ none done. here (λ now bytes. HasWritten (written sink) now bytes) (subst (λ h. WritesIf h (written sink) (written b.sink) (bytes_of (received_by b.texts))) (none_failed b.has_failed wrote.status write done) (fits none));
        begun = λ none. here (λ now bytes. HasWrittenPrefix (written sink) now bytes) (begun_if b.has_failed (written sink) (written b.sink) (bytes_of (received_by b.texts)) (fits none));
        says = subst (λ s. SaysWritten wrote.status (faults sink) (faults s)) (sym same_sink) (says_by b.has_failed wrote.status (faults sink) (faults b.sink) write other (leads.2 (faults sink) refl));
      }
