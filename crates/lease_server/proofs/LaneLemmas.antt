-- What a lane and the refusals were given.
use Rattle.std.proofs.Common.{◌≡◌, ℕ, List, [], ◌∷◌, ◌++◌, Option, Some, None, refl, sym, ap, subst, ◌∙◌, append_assoc}
use Rattle.std.specs.Global.{Vec}
use Rattle.std.proofs.lemmas.List.{append-nil}
use Rattle.std.proofs.lemmas.List.Concat.{flat_map-append}
use Rattle.mono_channel.specs.Ends.{sent_by}
use Rattle.lease_core.specs.declared.requests.Request.{Request}
use Rattle.lease_server.specs.Outlets.{kept, passed}
use Rattle.lease_server.specs.Lanes.{joined, given, sent_over, answers_given, answers_sent}
use Rattle.lease_server.specs.declared.answers.Answer.{Answer}
use Rattle.lease_server.specs.declared.texts.Text.{Text}
use Rattle.lease_server.specs.Answers.{refusals_of}
use Rattle.lease_server.specs.Texts.{said_by, said_by_all}
use Rattle.lease_server.specs.OutletViews.{Outlet}
use Rattle.lease_server.specs.declared.lanes.Lane.{Lane}
use Rattle.lease_server.specs.declared.refusals.Refusals.{Refusals}
use Rattle.lease_server.proofs.AnswerLemmas.{refusals_join}

module _ {A : Type 0} where
  -- the elements of the messages, with those of one more
  pub one_more : (messages : List (Vec A)) (message : Vec A) → joined (messages ++ message ∷ []) ≡ joined messages ++ message.items
  one_more messages message = flat_map-append (λ (m : Vec A). m.items) messages (message ∷ []) ∙ ap (λ l. joined messages ++ l) (append-nil message.items)

  -- without a message that was not sent, all were sent
  pub all_sent : (outlet : Outlet (Vec A)) (xs : List A) → outlet.message ≡ None → xs ≡ [] → joined (sent_by outlet.sender) ≡ joined (passed outlet) ++ xs
  all_sent outlet xs none empty =
      let sent = sent_by outlet.sender in
      sym (ap (λ l. joined (passed outlet) ++ l) empty ∙ append-nil (joined (passed outlet)) ∙ ap (λ o. joined (sent ++ kept o)) none ∙ ap (λ l. joined l) (append-nil sent))

-- ---- a lane

pub given_same : (a b : Lane) → passed b.outlet ≡ passed a.outlet → b.requests ≡ a.requests → given b ≡ given a
given_same a b outlet requests = ap (λ l. joined l ++ b.requests.items) outlet ∙ ap (λ (v : Vec Request). joined (passed a.outlet) ++ v.items) requests

pub given_wrapped : (a b : Lane) → passed b.outlet ≡ passed a.outlet ++ a.requests ∷ [] → b.requests.items ≡ [] → given b ≡ given a
given_wrapped a b outlet none = ap (λ l. joined (passed b.outlet) ++ l) none ∙ append-nil (joined (passed b.outlet)) ∙ ap (λ l. joined l) outlet ∙ one_more (passed a.outlet) a.requests

pub given_more : (a b : Lane) (request : Request) → b.outlet ≡ a.outlet → b.requests.items ≡ a.requests.items ++ request ∷ [] → given b ≡ given a ++ request ∷ []
given_more a b request outlet requests =
    ap (λ (o : Outlet (Vec Request)). joined (passed o) ++ b.requests.items) outlet ∙ ap (λ l. joined (passed a.outlet) ++ l) requests ∙ sym (append_assoc (joined (passed a.outlet)) a.requests.items (request ∷ []))

-- ---- the refusals

-- The answers of the texts, with those of one more.
pub said_more : (texts : List Text) (text : Text) → said_by_all (texts ++ text ∷ []) ≡ said_by_all texts ++ said_by text
said_more texts text = flat_map-append said_by texts (text ∷ []) ∙ ap (λ l. said_by_all texts ++ l) (append-nil (said_by text))

-- without a text that was not sent, all were sent
pub all_said : (outlet : Outlet Text) (xs : List Answer) → outlet.message ≡ None → xs ≡ [] → said_by_all (sent_by outlet.sender) ≡ said_by_all (passed outlet) ++ xs
all_said outlet xs none empty =
    let sent = sent_by outlet.sender in
    sym (ap (λ l. said_by_all (passed outlet) ++ l) empty ∙ append-nil (said_by_all (passed outlet)) ∙ ap (λ o. said_by_all (sent ++ kept o)) none ∙ ap (λ l. said_by_all l) (append-nil sent))

pub text_same : (a b : Refusals) → passed b.outlet ≡ passed a.outlet → b.numbers.items ≡ a.numbers.items → answers_given b ≡ answers_given a
text_same a b outlet numbers = ap (λ l. said_by_all l ++ refusals_of b.numbers.items) outlet ∙ ap (λ l. said_by_all (passed a.outlet) ++ refusals_of l) numbers

pub text_wrapped : (a b : Refusals) (text : Text) → passed b.outlet ≡ passed a.outlet ++ text ∷ [] → said_by text ≡ refusals_of a.numbers.items → b.numbers.items ≡ [] → answers_given b ≡ answers_given a
text_wrapped a b text outlet is none =
    ap (λ l. said_by_all (passed b.outlet) ++ refusals_of l) none ∙ append-nil (said_by_all (passed b.outlet)) ∙ ap (λ l. said_by_all l) outlet ∙ said_more (passed a.outlet) text ∙ ap (λ l. said_by_all (passed a.outlet) ++ l) is

pub text_more : (a b : Refusals) (number : ℕ) → b.outlet ≡ a.outlet → b.numbers.items ≡ a.numbers.items ++ number ∷ [] → answers_given b ≡ answers_given a ++ refusals_of (number ∷ [])
text_more a b number outlet numbers =
    ap (λ (o : Outlet Text). said_by_all (passed o) ++ refusals_of b.numbers.items) outlet
    ∙ ap (λ l. said_by_all (passed a.outlet) ++ l) (ap refusals_of numbers ∙ refusals_join a.numbers.items (number ∷ []))
    ∙ sym (append_assoc (said_by_all (passed a.outlet)) (refusals_of a.numbers.items) (refusals_of (number ∷ [])))
