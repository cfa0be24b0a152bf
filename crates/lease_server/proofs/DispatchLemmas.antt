-- What a dispatcher holds after one more line.
use Rattle.std.proofs.Common.{◌≡◌, ℕ, ◌+◌, ◌<◌, ◌≤◌, List, [], ◌∷◌, ◌++◌, map, length, get_or, set, take, Option, Some, None, refl, sym, ap, subst, ◌∙◌, arith, append_assoc}
use Rattle.std.specs.List.{range_with_len}
use Rattle.std.proofs.lemmas.List.{length-set, length-map, length-append, map-set, map-append, map_push, set-get_or, get_or-map, get_or_default, take_more, take_more_set, take_all, append-nil}
use Rattle.std.proofs.lemmas.List.FromFn.{map-range_with_len_more}
use Rattle.lease_core.specs.declared.requests.Request.{Request}
use Rattle.lease_core.specs.Routes.{core_of}
use Rattle.lease_server.specs.Routing.{routed, all_routed, refused}
use Rattle.lease_server.specs.Answers.{refusals_of}
use Rattle.lease_server.specs.Lanes.{given, sent_over, answers_given, answers_sent}
use Rattle.lease_server.specs.Dispatch.{AreRouted, Holds, HasSentAll, Answers, Sends}
use Rattle.lease_server.specs.declared.lanes.Lane.{Lane}
use Rattle.lease_server.specs.declared.dispatchers.Dispatcher.{Dispatcher}
use Rattle.lease_server.proofs.RoutingLemmas.{all_none, all_some, as_many, refused_none, refused_some}
use Rattle.lease_server.proofs.AnswerLemmas.{refusals_join}

-- ---- one lane among many

-- the lane at place i changed, and was given this
pub given_at : (lanes : List Lane) (i : ℕ) (lane : Lane) (now : List Request) → i < length lanes → given lane ≡ now → map given (set lanes i lane) ≡ set (map given lanes) i now
given_at lanes i lane now lt is = map-set given lanes i lane ∙ ap (λ x. set (map given lanes) i x) is

pub same_given : (lanes : List Lane) (i : ℕ) (d lane : Lane) → i < length lanes → given lane ≡ given (get_or lanes i d) → map given (set lanes i lane) ≡ map given lanes
same_given lanes i d lane lt same =
    given_at lanes i lane (get_or (map given lanes) i []) lt (same ∙ sym (get_or-map given lanes i d [] lt)) ∙ set-get_or (map given lanes) i []

-- one more lane has sent all
pub sent_more : (lanes : List Lane) (i : ℕ) (lane : Lane) → i < length lanes → sent_over lane ≡ given lane → map sent_over (take i lanes) ≡ map given (take i lanes)
    → map sent_over (take (i + 1) (set lanes i lane)) ≡ map given (take (i + 1) (set lanes i lane))
sent_more lanes i lane lt sent before =
    ap (λ l. map sent_over l) (take_more_set lanes i lane lt) ∙ map_push sent_over (take i lanes) lane ∙ ap (λ l. l ++ sent_over lane ∷ []) before ∙ ap (λ x. map given (take i lanes) ++ x ∷ []) sent
    ∙ sym (ap (λ l. map given l) (take_more_set lanes i lane lt) ∙ map_push given (take i lanes) lane)

pub sent_all : (lanes : List Lane) (i : ℕ) → length lanes ≤ i → map sent_over (take i lanes) ≡ map given (take i lanes) → map sent_over lanes ≡ map given lanes
sent_all lanes i le sent = subst (λ l. map sent_over l ≡ map given l) (take_all i lanes le) sent

pub gave : (lanes : List Lane) (i : ℕ) (d lane : Lane) (request : Request) → i < length lanes → i ≡ core_of request.key (length lanes) → given lane ≡ given (get_or lanes i d) ++ request ∷ []
    → (asked : List (Option Request)) → AreRouted asked lanes → AreRouted (asked ++ Some request ∷ []) (set lanes i lane)
gave lanes i d lane request lt core more asked routed =
    let n : ℕ = length lanes in
    let all = all_routed n asked in
    let here : given (get_or lanes i d) ≡ get_or all i [] = sym (get_or-map given lanes i d [] lt) ∙ ap (λ l. get_or l i []) routed in
    given_at lanes i lane (get_or all i [] ++ request ∷ []) lt (more ∙ ap (λ l. l ++ request ∷ []) here) ∙ ap (λ l. set l i (get_or all i [] ++ request ∷ [])) routed
    ∙ all_some n i asked request (sym core) lt ∙ ap (λ k. all_routed k (asked ++ Some request ∷ [])) (sym (length-set lanes i lane))

-- ---- the whole dispatcher

as_long : (xs ys : List Lane) → map given ys ≡ map given xs → length ys ≡ length xs
as_long xs ys e = sym (length-map ys given) ∙ ap length e ∙ length-map xs given

pub routed_same : (xs ys : List Lane) → map given ys ≡ map given xs → (asked : List (Option Request)) → AreRouted asked xs → AreRouted asked ys
routed_same xs ys e asked routed = e ∙ routed ∙ ap (λ k. all_routed k asked) (sym (as_long xs ys e))

pub holds_same : (a b : Dispatcher) → b.last ≡ a.last → map given b.lanes.items ≡ map given a.lanes.items → answers_given b.refusals ≡ answers_given a.refusals → (asked : List (Option Request)) → Holds asked a → Holds asked b
holds_same a b last lanes refusals asked h = record {
  number = last ∙ h.number;
  lanes = routed_same a.lanes.items b.lanes.items lanes asked h.lanes;
  refusals = refusals ∙ h.refusals;
}

pub holds_none : (a b : Dispatcher) (number : ℕ) → number ≡ a.last + 1 → b.last ≡ number → map given b.lanes.items ≡ map given a.lanes.items → answers_given b.refusals ≡ answers_given a.refusals ++ refusals_of (number ∷ [])
    → (asked : List (Option Request)) → Holds asked a → Holds (asked ++ None ∷ []) b
holds_none a b number is last lanes refusals asked h =
    let n : ℕ = length b.lanes.items in
    let long : length (asked ++ None ∷ []) ≡ length asked + 1 = length-append asked (None ∷ []) in
    let nth : number ≡ 1 + length asked = let k = h.number in omega arith in
    record {
      number = let k = h.number in omega arith;
      lanes = routed_same a.lanes.items b.lanes.items lanes asked h.lanes ∙ all_none n asked;
      refusals = refusals ∙ ap (λ l. l ++ refusals_of (number ∷ [])) h.refusals ∙ sym (refusals_join (refused 1 asked) (number ∷ []))
          ∙ ap (λ k. refusals_of (refused 1 asked ++ k ∷ [])) nth ∙ ap refusals_of (sym (refused_none 1 asked));
    }

pub holds_some : (a b : Dispatcher) (number : ℕ) (request : Request) → number ≡ a.last + 1 → b.last ≡ number → answers_given b.refusals ≡ answers_given a.refusals
    → ((asked : List (Option Request)) → AreRouted asked a.lanes.items → AreRouted (asked ++ Some request ∷ []) b.lanes.items) → (asked : List (Option Request)) → Holds asked a → Holds (asked ++ Some request ∷ []) b
holds_some a b number request is last refusals lanes asked h =
    let long : length (asked ++ Some request ∷ []) ≡ length asked + 1 = length-append asked (Some request ∷ []) in
    record {
      number = let k = h.number in omega arith;
      lanes = lanes asked h.lanes;
      refusals = refusals ∙ h.refusals ∙ ap refusals_of (sym (refused_some 1 asked request));
    }

-- a lane was added before the first line
pub holds_lane : (a b : Dispatcher) (lane : Lane) → b.last ≡ a.last → b.lanes.items ≡ a.lanes.items ++ lane ∷ [] → b.refusals ≡ a.refusals → given lane ≡ [] → Holds [] a → Holds [] b
holds_lane a b lane last lanes refusals none h =
    let n : ℕ = length a.lanes.items in
    let long : length b.lanes.items ≡ n + 1 = ap length lanes ∙ length-append a.lanes.items (lane ∷ []) in
    record {
      number = last ∙ h.number;
      lanes = ap (λ l. map given l) lanes ∙ map_push given a.lanes.items lane ∙ ap (λ l. l ++ given lane ∷ []) h.lanes ∙ ap (λ x. all_routed n [] ++ x ∷ []) none
          ∙ sym (map-range_with_len_more (λ k. routed k (n + 1) []) 0 n n (omega arith)) ∙ ap (λ k. all_routed k []) (sym long);
      refusals = ap answers_given refusals ∙ h.refusals;
    }

-- what was answered was sent
pub sends : (text : List ℕ) (d : Dispatcher) → Answers text d → HasSentAll d → Sends text d
sends text d a s = record { asked = a.asked; asks = a.asks; lanes = s.lanes ∙ a.holds.lanes; refusals = s.refusals ∙ a.holds.refusals }
