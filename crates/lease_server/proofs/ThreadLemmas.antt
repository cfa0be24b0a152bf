-- The threads of the cores and the lanes to them: started, routed over, and settled.
use Rattle.std.proofs.Common.{◌≡◌, ◌<◌, ◌≤◌, ◌+◌, ◌⊎◌, inl, inr, ℕ, suc, Bool, true, List, [], ◌∷◌, ◌++◌, length, refl, sym, ap, subst, ◌∙◌, append_assoc, arith}
use Rattle.std.specs.Global.{Vec}
use Rattle.std.proofs.lemmas.List.{append-nil, length-append}
use Rattle.std.proofs.lemmas.List.Concat.{flat_map-append}
use Rattle.mono_channel.specs.Beginnings.{Begun}
use Rattle.mono_channel.specs.Delivery.{Interleaves, all_shares, shares_kept, shares_given}
use Rattle.mono_channel.specs.Ends.{Ends, sent_by, closed, received_by, settled_by, shares_of, IsPair}
use Rattle.mono_channel.proofs.Interleaving.{alone, interleaved}
use Rattle.lease_core.specs.declared.requests.Request.{Request}
use Rattle.lease_core.specs.declared.sizes.Sizes.{Sizes}
use Rattle.lease_server.specs.Lanes.{joined}
use Rattle.lease_server.specs.Outlets.{Stays}
use Rattle.lease_server.specs.Texts.{said_by_all}
use Rattle.lease_server.specs.Dispatch.{HaveSameWays}
use Rattle.lease_server.specs.EndToEnd.{RunsThrough, RunsPart, requests_in}
use Rattle.lease_server.specs.CoreEnds.{HasEnded}
use Rattle.lease_server.specs.Threads.{IsFresh, Promises, IsStarted, ArePaired, AreNumbered, Adds, Same, Starts, HasAnswered, HaveAnswered, HasBegun, HaveBegun, HasCollected, HasSettled}
use Rattle.lease_server.specs.declared.answers.Answer.{Answer}
use Rattle.lease_server.specs.declared.refusals.Refusals.{Refusals}
use Rattle.lease_server.specs.declared.dispatchers.Dispatcher.{Dispatcher}
use Rattle.lease_server.specs.declared.threads.CoreThread.{CoreThread}
use Rattle.lease_server.specs.declared.texts.Text.{Text}
use Rattle.lease_server.specs.declared.lanes.Lane.{Lane}
use Rattle.lease_server.specs.declared.core_threads.CoreEnd.{CoreEnd}
use Rattle.lease_server.specs.declared.servers.Routed.{Routed}
use Rattle.lease_server.specs.declared.writer.Wrote.{Wrote}

-- ---- started

-- a thread with its lane after the others
pub pairs_more : (channel : Ends Text) (ts : List CoreThread) (ls : List Lane) (t : CoreThread) (l : Lane) → ArePaired channel ts ls → IsStarted channel t l → ArePaired channel (ts ++ t ∷ []) (ls ++ l ∷ [])
pairs_more channel [] [] t l p s = (s, tt)
pairs_more channel [] (y ∷ ls) t l p s = absurd p
pairs_more channel (x ∷ ts) [] t l p s = absurd p
pairs_more channel (x ∷ ts) (y ∷ ls) t l p s = (p.0, pairs_more channel ts ls t l p.1 s)

pub numbers_more : (k : ℕ) (sizes : Sizes) (ts : List CoreThread) (t : CoreThread) → AreNumbered k sizes ts → t.promise.value.number ≡ k + length ts → t.promise.value.sizes ≡ sizes → AreNumbered k sizes (ts ++ t ∷ [])
numbers_more k sizes [] t p is same = (omega arith, same, tt)
numbers_more k sizes (x ∷ ts) t p is same = (p.0, p.1, numbers_more (k + 1) sizes ts t p.2 (omega arith) same)

-- another end of the same channel of texts
pub started_by : (a b : Ends Text) (t : CoreThread) (l : Lane) → IsPair b a → IsStarted a t l → IsStarted b t l
started_by a b t l pair s = record { way = s.way; whole = s.whole; fresh = s.fresh; texts = s.texts ∙ sym pair; none = s.none; share = s.share; kept = s.kept }

pub pairs_by : (a b : Ends Text) (ts : List CoreThread) (ls : List Lane) → IsPair b a → ArePaired a ts ls → ArePaired b ts ls
pairs_by a b [] [] pair p = tt
pairs_by a b [] (y ∷ ls) pair p = absurd p
pairs_by a b (x ∷ ts) [] pair p = absurd p
pairs_by a b (x ∷ ts) (y ∷ ls) pair p = (started_by a b x y pair p.0, pairs_by a b ts ls pair p.1)

-- one more core was started
pub cores_more : (number : ℕ) (sizes : Sizes) (first : Ends Text) (before after : List CoreThread) (old new : Dispatcher) → Adds number sizes before old after new → IsPair old.refusals.outlet.sender first
    → ArePaired first before old.lanes.items → AreNumbered 0 sizes before → length before ≡ number → ArePaired first after new.lanes.items × AreNumbered 0 sizes after × (length after ≡ number + 1)
cores_more number sizes first before after old new a pair paired numbered count =
    let is : a.thread.promise.value.number ≡ 0 + length before = let n = a.number_is in omega arith in (
      subst (λ ts. ArePaired first ts new.lanes.items) (sym a.threads)
          (subst (λ ls. ArePaired first (before ++ a.thread ∷ []) ls) (sym a.lanes) (pairs_more first before old.lanes.items a.thread a.lane paired (started_by old.refusals.outlet.sender first a.thread a.lane (sym pair) a.started))),
      subst (λ ts. AreNumbered 0 sizes ts) (sym a.threads) (numbers_more 0 sizes before a.thread numbered is a.sizes_are),
      ap (λ ts. length ts) a.threads ∙ length-append before (a.thread ∷ []) ∙ ap (λ n. n + 1) count,
    )

-- ---- routed over

started_way : (channel : Ends Text) (t : CoreThread) (a b : Lane) → Stays a.outlet.sender b.outlet.sender → IsStarted channel t a → IsStarted channel t b
started_way channel t a b stays s = record { way = stays.0 ∙ s.way; whole = stays.1 ∙ s.whole; fresh = s.fresh; texts = s.texts; none = s.none; share = s.share; kept = s.kept }

other_ways : (x y : Lane) (xs ys : List Lane) → HaveSameWays (x ∷ xs) (y ∷ ys) → HaveSameWays xs ys
other_ways x y xs ys w = record { count = let c = w.count in omega arith; each = λ k lane lt. w.each (suc k) lane (omega arith) }

-- the lanes have the channels that they had
pub pairs_ways : (channel : Ends Text) (ts : List CoreThread) (xs ys : List Lane) → HaveSameWays xs ys → ArePaired channel ts xs → ArePaired channel ts ys
pairs_ways channel [] [] [] w p = tt
pairs_ways channel [] [] (y ∷ ys) w p = let c = w.count in absurd (omega arith)
pairs_ways channel [] (x ∷ xs) ys w p = absurd p
pairs_ways channel (t ∷ ts) [] ys w p = absurd p
pairs_ways channel (t ∷ ts) (x ∷ xs) [] w p = let c = w.count in absurd (omega arith)
pairs_ways channel (t ∷ ts) (x ∷ xs) (y ∷ ys) w p = (started_way channel t x y (w.each 0 x (omega arith)) p.0, pairs_ways channel ts xs ys (other_ways x y xs ys w) p.1)

-- ---- settled

-- A core received all that its lane sent.
pub answered : (channel : Ends Text) (t : CoreThread) (l : Lane) (end : CoreEnd) (r : Ends (Vec Request)) (empty : Bool) → IsStarted channel t l
    → HasEnded t.promise.value.number t.promise.value.sizes t.promise.value.requests.value t.promise.value.texts.value end
    → settled_by r ≡ settled_by end.requests ++ sent_by l.outlet.sender ∷ [] → shares_of r ≡ shares_of end.requests + shares_of l.outlet.sender → received_by r ≡ received_by end.requests
    → (empty ≡ true → shares_of r ≡ all_shares → Interleaves (settled_by r) (received_by r)) → empty ≡ true → end.status ≡ 0 → HasAnswered t l (sent_by end.texts)
answered channel t l end r empty s e settled shares received interleave is done =
    let sent = sent_by l.outlet.sender in
    let whole : shares_of r ≡ all_shares = let a = e.received.2 in let b = s.fresh.2 in let c = s.whole in omega arith in
    let parts : settled_by r ≡ sent ∷ [] = settled ∙ ap (λ x. x ++ sent ∷ []) (e.received.1 ∙ s.fresh.1) in
    let same : received_by end.requests ≡ sent = sym received ∙ alone sent (received_by r) (subst (λ x. Interleaves x (received_by r)) parts (interleave is whole)) in
    let d = e.done s.fresh.0 s.none done in
    (d.0, subst (λ x. RunsThrough t.promise.value.sizes x d.0) (ap (λ x. joined x) same) d.1, d.2)

-- More requests came after those of a run.
pub part_more : (number : ℕ) (sizes : Sizes) (requests more : List Request) (said : List Answer) → RunsPart number sizes requests said → RunsPart number sizes (requests ++ more) said
part_more number sizes requests more said r = record {
  events = r.events;
  replies = r.replies;
  last = r.last;
  run = r.run;
  unasked = r.unasked ++ more;
  asked = ap (λ l. l ++ more) r.asked ∙ append_assoc (requests_in r.events) r.unasked more;
  unsaid = r.unsaid;
  answered = r.answered;
}

-- A core received a beginning of what its lane sent.
pub has_begun : (channel : Ends Text) (t : CoreThread) (l : Lane) (end : CoreEnd) (r : Ends (Vec Request)) → IsStarted channel t l
    → HasEnded t.promise.value.number t.promise.value.sizes t.promise.value.requests.value t.promise.value.texts.value end
    → settled_by r ≡ settled_by end.requests ++ sent_by l.outlet.sender ∷ [] → shares_of r ≡ shares_of end.requests + shares_of l.outlet.sender → received_by r ≡ received_by end.requests
    → Begun (shares_of r) (received_by r) (settled_by r) → HasBegun t l (sent_by end.texts)
has_begun channel t l end r s e settled shares received (queued, arrived) =
    let sent = sent_by l.outlet.sender in
    let had = received_by end.requests in
    let said = said_by_all (sent_by end.texts) in
    let whole : shares_of r ≡ all_shares = let a = e.received.2 in let b = s.fresh.2 in let c = s.whole in omega arith in
    let parts : settled_by r ≡ sent ∷ [] = settled ∙ ap (λ x. x ++ sent ∷ []) (e.received.1 ∙ s.fresh.1) in
    let all : received_by r ++ queued ≡ sent = alone sent (received_by r ++ queued) (subst (λ x. Interleaves x (received_by r ++ queued)) parts (interleaved (shares_of r) (received_by r ++ queued) (settled_by r) arrived whole)) in
    let is : joined had ++ joined queued ≡ joined sent = sym (flat_map-append (λ (m : Vec Request). m.items) had queued) ∙ ap (λ x. joined (x ++ queued)) (sym received) ∙ ap (λ x. joined x) all in
    subst (λ x. RunsPart t.promise.value.number t.promise.value.sizes x said) is (part_more t.promise.value.number t.promise.value.sizes (joined had) (joined queued) said (e.begun s.fresh.0 s.none))

-- What the cores that have ended sent, with what the others did, is what all did.
abbrev pub Left : List (List Text) → List CoreThread → List Lane → List (List Text) → List CoreThread → List Lane → Bool → Type 0
Left first all lanes was ts ls done =
    (others : List (List Text)) → HaveBegun ts ls others → (sent : List (List Text)) × (was ++ others ≡ first ++ sent) × HaveBegun all lanes sent × (done ≡ true → HaveAnswered ts ls others → HaveAnswered all lanes sent)

-- none has ended
pub left_first : (first : List (List Text)) (all : List CoreThread) (lanes : List Lane) (done : Bool) → Left first all lanes first all lanes done
left_first first all lanes done others h = (others, refl, h, λ yes a. a)

-- one more core has ended
pub left_next : (first was now : List (List Text)) (all : List CoreThread) (lanes : List Lane) (t : CoreThread) (ts : List CoreThread) (l : Lane) (ls : List Lane) (sent : List Text) (core done next : Bool)
    → now ≡ was ++ sent ∷ [] → HasBegun t l sent → (core ≡ true → HasAnswered t l sent) → (next ≡ true → (core ≡ true) × (done ≡ true))
    → Left first all lanes was (t ∷ ts) (l ∷ ls) done → Left first all lanes now ts ls next
left_next first was now all lanes t ts l ls sent core done next is begun answered both left others h =
    let one = left (sent ∷ others) (begun, h) in
    (one.0, ap (λ x. x ++ others) is ∙ append_assoc was (sent ∷ []) others ∙ one.1, one.2, λ yes a. let b = both yes in one.3 b.1 (answered b.0, a))

-- all have ended
pub left_none : (first was : List (List Text)) (all : List CoreThread) (lanes : List Lane) (done : Bool) → Left first all lanes was [] [] done
    → (sent : List (List Text)) × (was ≡ first ++ sent) × HaveBegun all lanes sent × (done ≡ true → HaveAnswered all lanes sent)
left_none first was all lanes done left = let one = left [] tt in (one.0, sym (append-nil was) ∙ one.1, one.2, λ yes. one.3 yes tt)

-- ---- all texts

module _ {S K : Type 0} (routed : Routed S) (wrote : Wrote K) (first last sender : Ends Text) (sent : List (List Text)) where
  whole_shares : sender ≡ routed.dispatcher.refusals.outlet.sender → shares_of first ≡ shares_of wrote.texts + shares_of sender → shares_of last ≡ shares_of first + length routed.threads.items
      → shares_of wrote.texts + (shares_of routed.dispatcher.refusals.outlet.sender + length routed.threads.items) ≡ all_shares → shares_of last ≡ all_shares
  whole_shares same one more sum = let own = ap (λ e. shares_of e) same in omega arith

  all_parts : sender ≡ routed.dispatcher.refusals.outlet.sender → settled_by first ≡ settled_by wrote.texts ++ sent_by sender ∷ [] → settled_by last ≡ settled_by first ++ sent → settled_by wrote.texts ≡ []
      → settled_by last ≡ sent_by routed.dispatcher.refusals.outlet.sender ∷ sent
  all_parts same one more none = more ∙ ap (λ x. x ++ sent) (one ∙ ap (λ x. x ++ sent_by sender ∷ []) none) ∙ ap (λ e. sent_by e ∷ sent) same

  -- all senders were settled, and the receiver looked at what arrives
  pub collects : sender ≡ routed.dispatcher.refusals.outlet.sender → settled_by first ≡ settled_by wrote.texts ++ sent_by sender ∷ [] → shares_of first ≡ shares_of wrote.texts + shares_of sender → received_by first ≡ received_by wrote.texts
      → settled_by last ≡ settled_by first ++ sent → shares_of last ≡ shares_of first + length routed.threads.items → received_by last ≡ received_by first
      → HaveBegun routed.threads.items routed.dispatcher.lanes.items sent → Begun (shares_of last) (received_by last) (settled_by last) → HasCollected routed wrote
  collects same settled shares received more others kept begun (queued, arrived) = record {
    sent = sent;
    answered = begun;
    begun = λ none sum.
        let whole = whole_shares same shares others sum in
        let parts = all_parts same settled more none in
        let all = interleaved (shares_of last) (received_by last ++ queued) (settled_by last) arrived whole in
        (queued, subst (λ x. Interleaves x (received_by wrote.texts ++ queued)) parts (subst (λ x. Interleaves (settled_by last) (x ++ queued)) (kept ∙ received) all));
  }

  -- none was left
  pub settles : sender ≡ routed.dispatcher.refusals.outlet.sender → settled_by first ≡ settled_by wrote.texts ++ sent_by sender ∷ [] → shares_of first ≡ shares_of wrote.texts + shares_of sender → received_by first ≡ received_by wrote.texts
      → settled_by last ≡ settled_by first ++ sent → shares_of last ≡ shares_of first + length routed.threads.items → received_by last ≡ received_by first
      → HaveAnswered routed.threads.items routed.dispatcher.lanes.items sent → (shares_of last ≡ all_shares → Interleaves (settled_by last) (received_by last)) → HasSettled routed wrote
  settles same settled shares received more others kept answered interleave = record {
    sent = sent;
    answered = answered;
    interleave = λ none sum.
        let whole = whole_shares same shares others sum in
        let parts = all_parts same settled more none in
        subst (λ x. Interleaves x (received_by wrote.texts)) parts (subst (λ x. Interleaves (settled_by last) x) (kept ∙ received) (interleave whole));
  }

-- ---- one start

-- A core was started with new ends of the lane's channel and of the channel of the texts.
pub adds : (number : ℕ) (sizes : Sizes) (before after : List CoreThread) (old mid further new : Dispatcher) (t : CoreThread) (sender requests : Ends (Vec Request)) (texts : Ends Text) (lane : Lane)
    → Promises number sizes requests texts t
    → IsPair sender requests → shares_of sender ≡ all_shares → IsFresh requests
    → IsPair texts mid.refusals.outlet.sender → sent_by texts ≡ [] → shares_of further.refusals.outlet.sender ≡ shares_kept (shares_of mid.refusals.outlet.sender)
    → shares_of texts ≡ shares_given (shares_of mid.refusals.outlet.sender) → 1 < shares_of old.refusals.outlet.sender
    → mid.refusals ≡ old.refusals → new.refusals ≡ further.refusals → lane.outlet.sender ≡ closed sender → after ≡ before ++ t ∷ [] → new.lanes.items ≡ old.lanes.items ++ lane ∷ []
    → Adds number sizes before old after new
adds number sizes before after old mid further new t sender requests texts lane promised pair whole fresh way none kept gave some was is own threads lanes =
    let n : shares_of mid.refusals.outlet.sender ≡ shares_of old.refusals.outlet.sender = ap (λ (r : Refusals). shares_of r.outlet.sender) was in
    let m : shares_of new.refusals.outlet.sender ≡ shares_of further.refusals.outlet.sender = ap (λ (r : Refusals). shares_of r.outlet.sender) is in
    let one : shares_given (shares_of mid.refusals.outlet.sender) ≡ 1 = omega arith in
    let req = promised.from in
    let txt = promised.to in
    record {
      thread = t;
      lane = lane;
      threads = threads;
      lanes = lanes;
      started = record {
        way = subst (λ e. IsPair e t.promise.value.requests.value) (sym own) (subst (λ e. IsPair sender e) (sym req) pair);
        whole = ap (λ e. shares_of e) own ∙ whole;
        fresh = subst (λ e. IsFresh e) (sym req) fresh;
        texts = subst (λ e. IsPair e old.refusals.outlet.sender) (sym txt) (subst (λ (r : Refusals). IsPair texts r.outlet.sender) was way);
        none = ap (λ e. sent_by e) txt ∙ none;
        share = ap (λ e. shares_of e) txt ∙ (gave ∙ one);
        kept = promised.kept;
      };
      number_is = promised.number_is;
      sizes_are = promised.sizes_are;
      shares = omega arith;
    }

-- The cores that were started, and their lanes.
pub record Stand (first : Ends Text) (sizes : Sizes) (cores : ℕ) (ts : List CoreThread) (d : Dispatcher) : Type 0 where
  pub paired : ArePaired first ts d.lanes.items
  pub numbered : AreNumbered 0 sizes ts
  pub most : length ts ≤ cores
  pub shares : shares_of d.refusals.outlet.sender + length ts ≡ all_shares

-- one more
pub stand_more : (number : ℕ) (sizes : Sizes) (cores : ℕ) (first : Ends Text) (before after : List CoreThread) (old new : Dispatcher) → Adds number sizes before old after new → IsPair old.refusals.outlet.sender first
    → ArePaired first before old.lanes.items → AreNumbered 0 sizes before → length before ≡ number → number < cores → shares_of old.refusals.outlet.sender + length before ≡ all_shares
    → Stand first sizes cores after new × (length after ≡ number + 1)
stand_more number sizes cores first before after old new a pair paired numbered count below shares =
    let more = cores_more number sizes first before after old new a pair paired numbered count in (
      record {
        paired = more.0;
        numbered = more.1;
        most = let n = more.2 in omega arith;
        shares = let n = more.2 in let m = a.shares in omega arith;
      },
      more.2,
    )

-- none
stand_same : (number : ℕ) (sizes : Sizes) (cores : ℕ) (first : Ends Text) (before after : List CoreThread) (old new : Dispatcher) → Same before old after new
    → ArePaired first before old.lanes.items → AreNumbered 0 sizes before → length before ≡ number → number < cores → shares_of old.refusals.outlet.sender + length before ≡ all_shares → Stand first sizes cores after new
stand_same number sizes cores first before after old new a paired numbered count below shares =
    record {
      paired = subst (λ x. ArePaired first x new.lanes.items) (sym a.threads) (subst (λ x. ArePaired first before x) (sym a.lanes) paired);
      numbered = subst (λ x. AreNumbered 0 sizes x) (sym a.threads) numbered;
      most = let n = ap (λ x. length x) a.threads in omega arith;
      shares = let n = ap (λ x. length x) a.threads in let m = a.shares in omega arith;
    }

-- one or none
pub stand_next : (status number : ℕ) (sizes : Sizes) (cores : ℕ) (first : Ends Text) (before after : List CoreThread) (old new : Dispatcher) → Starts status number sizes before old after new → IsPair old.refusals.outlet.sender first
    → ArePaired first before old.lanes.items → AreNumbered 0 sizes before → length before ≡ number → number < cores → shares_of old.refusals.outlet.sender + length before ≡ all_shares → Stand first sizes cores after new
stand_next status number sizes cores first before after old new (inl (is, a)) pair paired numbered count below shares = (stand_more number sizes cores first before after old new a pair paired numbered count below shares).0
stand_next status number sizes cores first before after old new (inr (is, a)) pair paired numbered count below shares = stand_same number sizes cores first before after old new a paired numbered count below shares

-- with status 0 it is one more
pub starts_one : (status number : ℕ) (sizes : Sizes) (before after : List CoreThread) (old new : Dispatcher) → Starts status number sizes before old after new → status ≡ 0 → Adds number sizes before old after new
starts_one status number sizes before after old new (inl (is, a)) done = a
starts_one status number sizes before after old new (inr (is, a)) done = absurd (omega (arith, is, done))

-- which statuses there are
pub starts_with : (status number : ℕ) (sizes : Sizes) (before after : List CoreThread) (old new : Dispatcher) → Starts status number sizes before old after new → (status ≡ 0) ⊎ (status ≡ 6) ⊎ (status ≡ 7)
starts_with status number sizes before after old new (inl (inl is, a)) = inl is
starts_with status number sizes before after old new (inl (inr is, a)) = inr (inr is)
starts_with status number sizes before after old new (inr (is, a)) = inr (inl is)

-- without a thread there is no lane
pub ends_with : (channel : Ends Text) (ls : List Lane) → ArePaired channel [] ls → ls ≡ []
ends_with channel [] p = refl
ends_with channel (l ∷ ls) p = absurd p

pub no_items : {A : Type 0} (xs : List A) → length xs ≡ 0 → xs ≡ []
no_items [] e = refl
no_items (x ∷ xs) e = absurd (omega (arith, e))
