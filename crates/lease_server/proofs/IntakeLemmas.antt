-- One read after another, and all that an intake did.
use Rattle.std.proofs.Common.{◌≡◌, ℕ, List, [], ◌∷◌, ◌++◌, Option, Some, None, refl, sym, ap, subst, ◌∙◌, append_assoc}
use Rattle.std.proofs.lemmas.List.{append-nil}
use Rattle.mono_text.specs.Environment.{HasRead}
use Rattle.lease_core.specs.declared.requests.Request.{Request}
use Rattle.lease_server.specs.Blocks.{rest_of, IsAtEnd}
use Rattle.lease_server.specs.Routing.{HasNoFeed}
use Rattle.lease_server.specs.Dispatch.{Holds, HasSentAll, Answers, Sends}
use Rattle.lease_server.specs.Splits.{Stands, HasSplit}
use Rattle.mono_model.specs.declared.poll.Poll.{Poll}
use Rattle.mono_model.specs.declared.poll.Poll.TheVariants.{Ready, Pending}
use Rattle.lease_server.specs.Intakes.{Fits, FitsIn, IsOverIn, Leads, Polls, SendsIn}
pub use Rattle.lease_server.specs.Routers.{leads_itself, leads_on}
use Rattle.lease_server.specs.declared.dispatchers.Dispatcher.{Dispatcher}
use Rattle.lease_server.specs.declared.splitters.Splitter.{Splitter}
use Rattle.lease_server.specs.declared.intakes.Phase.{Phase}
use Rattle.lease_server.specs.declared.intakes.Phase.TheVariants as phase
use Rattle.lease_server.specs.declared.intakes.Intake.{Intake}
use Rattle.lease_server.proofs.RoutingLemmas.{both_feedless}
use Rattle.lease_server.proofs.SplitLemmas.{read_none, stands_same}
use Rattle.lease_server.proofs.DispatchLemmas.{sends}

answers_same : (text : List ℕ) (a b : Dispatcher) → ((asked : List (Option Request)) → Holds asked a → Holds asked b) → Answers text a → Answers text b
answers_same text a b holds s = record { asked = s.asked; asks = s.asks; holds = holds s.asked s.holds }

flushed : (is : Phase) (text : List ℕ) (left : Option (List ℕ)) (a b : Splitter) → b.block ≡ a.block → b.is_long ≡ a.is_long → ((asked : List (Option Request)) → Holds asked a.dispatcher → Holds asked b.dispatcher) → FitsIn is text left a → FitsIn is text left b
flushed phase.Reading text left a b block long holds f = stands_same text a b (ap rest_of block) long holds f
flushed phase.Failed text left a b block long holds f = stands_same text a b (ap rest_of block) long holds f
flushed phase.Ended text left a b block long holds f = (f.0, answers_same text a.dispatcher b.dispatcher holds f.1)

module _ {S : Type 0} (left : S → Option (List ℕ)) where
  pub fits_reading : (a : Intake S) (text : List ℕ) → a.phase ≡ phase.Reading → Stands text a.splitter → Fits left text a
  fits_reading a text is s = subst (λ p. FitsIn p text (left a.source) a.splitter) (sym is) s

  -- a read, and what followed it
  pub led_by : (a b : Intake S) (mid : Splitter) → a.phase ≡ phase.Reading → HasSplit (left a.source) a.splitter (left b.source) mid → ((text : List ℕ) → Stands text mid → Fits left text b) → Leads left a b
  led_by a b mid is split fits = (split.0, split.1, λ text f. fits (text ++ split.0) (split.2 text (subst (λ p. FitsIn p text (left a.source) a.splitter) is f)))

  -- the dispatcher sent, and nothing was read
  pub led_flush : (a b : Intake S) → b.source ≡ a.source → b.phase ≡ a.phase → b.splitter.block ≡ a.splitter.block → b.splitter.is_long ≡ a.splitter.is_long
      → ((asked : List (Option Request)) → Holds asked a.splitter.dispatcher → Holds asked b.splitter.dispatcher) → Leads left a b
  led_flush a b source is block long holds = (
    [],
    subst (λ s. HasRead (left a.source) [] (left s)) (sym source) (read_none (left a.source)),
    λ text f. subst (λ t. Fits left t b) (sym (append-nil text)) (subst (λ p. FitsIn p text (left b.source) b.splitter) (sym is) (subst (λ s. FitsIn a.phase text (left s) b.splitter) (sym source) (flushed a.phase text (left a.source) a.splitter b.splitter block long holds f))),
  )

-- all input was sent, by the phase
sends_in : (is : Phase) (text bytes rest : List ℕ) (left : Option (List ℕ)) (s : Splitter) → IsOverIn is s → HasRead (Some rest) bytes left → FitsIn is (text ++ bytes) left s → HasSentAll s.dispatcher
    → SendsIn is (text ++ rest) left s.dispatcher
sends_in phase.Reading text bytes rest left s over read f sent = absurd over
sends_in phase.Ended text bytes rest None s over read f sent = absurd read
sends_in phase.Failed text bytes rest None s over read f sent = absurd read
sends_in phase.Ended text bytes rest (Some others) s over read f sent =
    let all : rest ≡ bytes = read ∙ ap (λ l. bytes ++ l) f.0 ∙ append-nil bytes in
    subst (λ r. Sends (text ++ r) s.dispatcher) (sym all) (sends (text ++ bytes) s.dispatcher f.1 sent)
sends_in phase.Failed text bytes rest (Some others) s over read f sent =
    let st = f in
    let begun : List ℕ = st.dropped ++ rest_of s.block in
    let input : text ++ rest ≡ st.taken ++ (begun ++ others) =
    ap (λ r. text ++ r) read ∙ sym (append_assoc text bytes others) ∙ ap (λ l. l ++ others) st.bytes ∙ append_assoc st.taken begun others in
    (st.taken, begun, others, input, refl, st.ends, both_feedless st.dropped (rest_of s.block) st.begun over, sends st.taken s.dispatcher (record { asked = st.asked; asks = st.asks; holds = st.holds }) sent)

module _ {S : Type 0} (left : S → Option (List ℕ)) where
  pub done : (a b : Intake S) → IsOverIn b.phase b.splitter → Leads left a b → HasSentAll b.splitter.dispatcher → (text rest : List ℕ) → Fits left text a → left a.source ≡ Some rest
      → SendsIn b.phase (text ++ rest) (left b.source) b.splitter.dispatcher
  done a b over led sent text rest f is =
      sends_in b.phase text led.0 rest (left b.source) b.splitter over (subst (λ o. HasRead o led.0 (left b.source)) is led.1) (led.2 text f) sent

read_rest : (after : Option (List ℕ)) (bytes rest : List ℕ) → HasRead (Some rest) bytes after → (others : List ℕ) × (after ≡ Some others) × (rest ≡ bytes ++ others)
read_rest None bytes rest read = absurd read
read_rest (Some others) bytes rest read = (others, refl, read)

module _ {S : Type 0} (left : S → Option (List ℕ)) where
  -- a poll, after calls that led to its intake
  pub polls_after : (a b c : Intake S) (answer : Poll ℕ) → Leads left a b → Polls left b answer c → Polls left a answer c
  polls_after a b c Pending one two = leads_on left a b c one two
  polls_after a b c (Ready status) one two = (
    leads_on left a b c one two.0,
    λ other. (
      (two.1 other).0,
      λ text rest f is.
          let more = read_rest (left b.source) one.0 rest (subst (λ o. HasRead o one.0 (left b.source)) is one.1) in
          let all : (text ++ one.0) ++ more.0 ≡ text ++ rest = append_assoc text one.0 more.0 ∙ ap (λ l. text ++ l) (sym more.2) in
          subst (λ l. SendsIn c.phase l (left c.source) c.splitter.dispatcher) all ((two.1 other).1 (text ++ one.0) more.0 (one.2 text f) more.1),
    ),
  )
