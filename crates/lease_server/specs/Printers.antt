-- What a printer wrote of the texts that it received.
use Rattle.std.specs.Prelude.{◌≡◌, ◌⊎◌, ℕ, Bool, true, false, List, [], Option, refl}
use Rattle.std.proofs.Common.{◌∙◌}
use Rattle.mono_text.specs.Environment.{HasRisen, HasWritten, HasWrittenPrefix}
use Rattle.mono_channel.specs.Ends.{Ends, received_by}
use Rattle.lease_server.specs.Answers.{answer_lines}
use Rattle.lease_server.specs.Texts.{said_by_all}
use Rattle.lease_server.specs.Outlets.{Keeps}
use Rattle.lease_server.specs.declared.texts.Text.{Text}
use Rattle.lease_server.specs.declared.writer.Printer.{Printer}
use Rattle.lease_server.specs.declared.writer.Wrote.{Wrote}

-- The lines of all answers of these texts, in order.
abbrev pub bytes_of : List Text → List ℕ
bytes_of texts = answer_lines (said_by_all texts)

-- The bytes were written, or only a beginning of them if a write failed.
abbrev pub WritesIf : Bool → Option (List ℕ) → Option (List ℕ) → List ℕ → Type 0
WritesIf true before now bytes = HasWrittenPrefix before now bytes
WritesIf false before now bytes = HasWritten before now bytes

-- The sink's count of faults, before and now. It rose if and only if a write failed.
abbrev pub FaultsIf : Bool → ℕ → ℕ → Type 0
FaultsIf true before now = HasRisen before now
FaultsIf false before now = now ≡ before

-- What the status of a writer says: 5 that a write failed, and 0 and 6 that none did.
abbrev pub SaysWritten : ℕ → ℕ → ℕ → Type 0
SaysWritten status before now = ((status ≡ 0) × (now ≡ before)) ⊎ ((status ≡ 5) × HasRisen before now) ⊎ ((status ≡ 6) × (now ≡ before))

module _ {K : Type 0} (written : K → Option (List ℕ)) (faults : K → ℕ) where
  -- The bytes of all texts that were received were written, or a beginning of them if a write failed.
  abbrev pub Fits : Option (List ℕ) → Printer K → Type 0
  Fits before printer = WritesIf printer.has_failed before (written printer.sink) (bytes_of (received_by printer.texts))

  -- The receiver stays one of its channel. If what was received was written before, it is so afterwards. A write that failed
  -- shows.
  abbrev pub Leads : Printer K → Printer K → Type 0
  Leads old new = Keeps old.texts new.texts × ((before : Option (List ℕ)) → Fits before old → Fits before new) × ((before : ℕ) → FaultsIf old.has_failed before (faults old.sink) → FaultsIf new.has_failed before (faults new.sink))

  -- The receiver and the sink come back. The bytes of the texts that were received were written; a beginning of them if the
  -- status is not 0. The status says whether a write failed.
  pub record HasWrittenTexts (texts : Ends Text) (sink : K) (wrote : Wrote K) : Type 0 where
    pub same : Keeps texts wrote.texts
    pub whole : received_by texts ≡ [] → wrote.status ≡ 0 → HasWritten (written sink) (written wrote.sink) (bytes_of (received_by wrote.texts))
    pub begun : received_by texts ≡ [] → HasWrittenPrefix (written sink) (written wrote.sink) (bytes_of (received_by wrote.texts))
    pub says : SaysWritten wrote.status (faults sink) (faults wrote.sink)

  pub leads_itself : (a : Printer K) → Leads a a
  leads_itself a = ((refl, refl, refl), (λ before h. h), λ before f. f)

  pub leads_on : (a b c : Printer K) → Leads a b → Leads b c → Leads a c
  leads_on a b c p q = ((q.0.0 ∙ p.0.0, q.0.1 ∙ p.0.1, q.0.2 ∙ p.0.2), (λ before h. q.1 before (p.1 before h)), λ before f. q.2 before (p.2 before f))
