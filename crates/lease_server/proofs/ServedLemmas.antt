-- One step of a core after another, with the lines of their replies.
use Rattle.std.proofs.Common.{◌≡◌, ◌+◌, ◌<◌, ◌≤◌, ℕ, List, [], ◌∷◌, ◌++◌, length, drop, get_or, Option, Some, None, Result, Ok, Err, OnOk, refl, ap, sym, subst, ◌∙◌, append_assoc}
use Rattle.std.specs.Global.{Vec}
use Rattle.mono_channel.specs.Ends.{Ends, received_by}
use Rattle.std.specs.declared.alloc.AllocError.{AllocError}
use Rattle.mono_model.specs.declared.poll.Poll.{Poll}
use Rattle.mono_model.specs.declared.poll.Poll.TheVariants.{Ready, Pending}
use Rattle.mono_channel.specs.Polls.{HasReceived, FindsNone, PollsToReceive}
use Rattle.std.proofs.lemmas.List.Concat.{flat_map-append}
use Rattle.std.proofs.lemmas.List.{append-nil, map-append, drop_more, drop_all}
use Rattle.lease_core.specs.declared.cores.Core.{Core}
use Rattle.lease_core.specs.declared.requests.Request.{Request}
use Rattle.lease_core.specs.declared.requests.Reply.{Reply}
use Rattle.lease_core.specs.Cores.{CoreState}
use Rattle.lease_core.specs.Steps.{Event, Advance, Handle, Finish, Step, Run}
use Rattle.lease_core.specs.Refinement.{Refines}
use Rattle.lease_server.specs.declared.answers.Answer.{Answer}
use Rattle.lease_server.specs.declared.answers.Answer.TheVariants.{By}
use Rattle.lease_server.specs.Answers.{by_core}
use Rattle.lease_server.specs.Outlets.{Keeps}
use Rattle.lease_server.specs.Pasts.{events_of, replies_of}
use Rattle.lease_server.specs.Desks.{Did, did_none, did_on, Leads, HasRun}
use Rattle.lease_server.specs.declared.desks.Desk.{Desk}
use Rattle.lease_server.specs.declared.batches.Came.{Came}
use Rattle.lease_server.specs.declared.batches.Came.TheVariants as came
use Rattle.lease_server.specs.Lanes.{joined}
use Rattle.lease_server.specs.EndToEnd.{requests_in}
use Rattle.lease_server.specs.Served.{Begins, Performs, PerformsSome, Takes, Serves, ServesNext, ServesAt, handled}

pub ok_so : {A E P Q : Type 0} (r : Result A E) → (P → Q) → OnOk r P → OnOk r Q
ok_so (Ok x) f p = f p
ok_so (Err e) f p = tt

pub answers_on : (number : ℕ) (xs ys : List Reply) → by_core number (xs ++ ys) ≡ by_core number xs ++ by_core number ys
answers_on number xs ys = map-append (λ (reply : Reply). By number reply) xs ys

-- ---- one step

-- A step for each state that the core refined.
abbrev Steps : Core → Event → Core → Type 0
Steps old e new = (s : CoreState) → Refines old s → (t : CoreState) × Step s e new.replies.items t × Refines new t

-- The core performed one step, and its past grew by it.
pub did_one : (old new : Desk) (e : Event) → new.number ≡ old.number → events_of new.past ≡ events_of old.past ++ e ∷ [] → replies_of new.past ≡ replies_of old.past ++ new.core.replies.items → Steps old.core e new.core
    → Did old (e ∷ []) new.core.replies.items new
did_one old new e number asked replied steps = record {
  number = number;
  asked = asked;
  replied = replied;
  run = λ s r. let one = steps s r in (one.0, (new.core.replies.items, [], one.0, one.1, (refl, refl), sym (append-nil new.core.replies.items)), one.2);
}

-- The core's past is as before, and it refines each state that it refined.
kept : (old new : Desk) → new.number ≡ old.number → new.past ≡ old.past → ((s : CoreState) → Refines old.core s → Refines new.core s) → Did old [] [] new
kept old new number past keeps = record {
  number = number;
  asked = ap events_of past ∙ sym (append-nil (events_of old.past));
  replied = ap replies_of past ∙ sym (append-nil (replies_of old.past));
  run = λ s r. (s, (refl, refl), keeps s r);
}

led_by : (old new : Desk) (events : List Event) (replies : List Reply) → Did old events replies new → Leads old new
led_by old new events replies did = record { events = events; replies = replies; did = did }

-- The lines of the step's replies, as they were shown.
pub served_by : (old new : Desk) (number : ℕ) (events : List Event) (replies shown : List Reply) (out end : List Answer) → Did old events replies new → shown ≡ replies → end ≡ out ++ by_core number shown → Serves old number events out new end
served_by old new number events replies shown out end did show put = (replies, did, put ∙ ap (λ xs. out ++ by_core number xs) show)

-- ---- one run after another

-- Nothing was performed.
pub serves_none : (desk : Desk) (number : ℕ) (out : List Answer) → Serves desk number [] out desk out
serves_none desk number out = ([], did_none desk, sym (append-nil out))

pub serves_on : (old mid new : Desk) (number : ℕ) (xs ys : List Event) (out between end : List Answer) → Serves old number xs out mid between → Serves mid number ys between new end → Serves old number (xs ++ ys) out new end
serves_on old mid new number xs ys out between end one two =
    let all : end ≡ out ++ by_core number (one.0 ++ two.0) =
    two.2 ∙ ap (λ x. x ++ by_core number two.0) one.2 ∙ append_assoc out (by_core number one.0) (by_core number two.0) ∙ ap (λ x. out ++ x) (sym (answers_on number one.0 two.0)) in
    (one.0 ++ two.0, did_on old mid new xs ys one.0 two.0 one.1 two.1, all)

-- ---- the requests of a run

pub requests_on : (xs ys : List Event) → requests_in (xs ++ ys) ≡ requests_in xs ++ requests_in ys
requests_on [] ys = refl
requests_on (Advance n ∷ xs) ys = requests_on xs ys
requests_on (Handle request ∷ xs) ys = ap (λ l. request ∷ l) (requests_on xs ys)
requests_on (Finish ∷ xs) ys = requests_on xs ys

pub requests_handled : (requests : List Request) → requests_in (handled requests) ≡ requests
requests_handled [] = refl
requests_handled (request ∷ requests) = ap (λ l. request ∷ l) (requests_handled requests)

pub performs_by : (old new : Desk) (events : List Event) (replies : List Reply) → Did old events replies new → Performs old (requests_in events) new
performs_by old new events replies did = (events, replies, did, refl)

pub performs_none : (old new : Desk) → new.number ≡ old.number → new.past ≡ old.past → ((s : CoreState) → Refines old.core s → Refines new.core s) → Performs old [] new
performs_none old new number past keeps = ([], [], kept old new number past keeps, refl)

pub performs_on : (old mid new : Desk) (xs ys : List Request) → Performs old xs mid → Performs mid ys new → Performs old (xs ++ ys) new
performs_on old mid new xs ys (one, first, did, are) (two, second, next, these) =
    (one ++ two, first ++ second, did_on old mid new one two first second did next, requests_on one two ∙ ap (λ l. l ++ requests_in two) are ∙ ap (λ l. xs ++ l) these)

-- ---- the requests of a batch

-- The first requests were served, and those from one place on are left.
pub record Part (old : Desk) (number : ℕ) (all left : List Request) (before : List Answer) (desk : Desk) (out : List Answer) : Type 0 where
  pub events : List Event
  pub are : events ++ handled left ≡ handled all
  pub served : Serves old number events before desk out

pub part_first : (desk : Desk) (number : ℕ) (all : List Request) (out : List Answer) → Part desk number all all out desk out
part_first desk number all out = record { events = []; are = refl; served = serves_none desk number out }

pub part_next : (old mid new : Desk) (number i : ℕ) (all : List Request) (d : Request) (before out end : List Answer) → i < length all → Part old number all (drop i all) before mid out → Serves mid number (Handle (get_or all i d) ∷ []) out new end
    → Part old number all (drop (i + 1) all) before new end
part_next old mid new number i all d before out end lt part served = record {
  events = part.events ++ Handle (get_or all i d) ∷ [];
  are = append_assoc part.events (Handle (get_or all i d) ∷ []) (handled (drop (i + 1) all)) ∙ ap (λ xs. part.events ++ handled xs) (sym (drop_more all i d lt)) ∙ part.are;
  served = serves_on old mid new number part.events (Handle (get_or all i d) ∷ []) before out end part.served served;
}

-- The requests of this part are those before the ones that are left.
part_asked : (old desk : Desk) (number : ℕ) (all left : List Request) (before out : List Answer) (part : Part old number all left before desk out) → all ≡ requests_in part.events ++ left
part_asked old desk number all left before out part =
    sym (requests_handled all) ∙ ap requests_in (sym part.are) ∙ requests_on part.events (handled left) ∙ ap (λ l. requests_in part.events ++ l) (requests_handled left)

part_performs : (old desk : Desk) (number : ℕ) (all left : List Request) (before out : List Answer) (part : Part old number all left before desk out) → Performs old (requests_in part.events) desk
part_performs old desk number all left before out part = (part.events, part.served.0, part.served.1, refl)

pub part_performed : (old desk : Desk) (number : ℕ) (all left : List Request) (before out : List Answer) → Part old number all left before desk out → PerformsSome old all desk
part_performed old desk number all left before out part =
    (requests_in part.events, (left, part_asked old desk number all left before out part), part_performs old desk number all left before out part)

-- The next request was performed, and its reply is in no text.
pub part_failed : (old mid new : Desk) (number i : ℕ) (all : List Request) (d : Request) (before out : List Answer) → i < length all → Part old number all (drop i all) before mid out → Performs mid (get_or all i d ∷ []) new
    → PerformsSome old all new
part_failed old mid new number i all d before out lt part next =
    let had = requests_in part.events in
    let request = get_or all i d in
    let asked : all ≡ (had ++ request ∷ []) ++ drop (i + 1) all =
    part_asked old mid number all (drop i all) before out part ∙ ap (λ l. had ++ l) (drop_more all i d lt) ∙ sym (append_assoc had (request ∷ []) (drop (i + 1) all)) in
    (had ++ request ∷ [], (drop (i + 1) all, asked), performs_on old mid new had (request ∷ []) (part_performs old mid number all (drop i all) before out part) next)

pub all_served : (old desk : Desk) (number i : ℕ) (all : List Request) (before out : List Answer) → length all ≤ i → Part old number all (drop i all) before desk out → Serves old number (handled all) before desk out
all_served old desk number i all before out le part =
    let none : part.events ≡ handled all =
    sym (append-nil part.events) ∙ ap (λ xs. part.events ++ handled xs) (sym (drop_all i all le)) ∙ part.are in
    subst (λ xs. Serves old number xs before desk out) none part.served

-- ---- what came

-- A poll keeps the receiver's channel.
pub polls_keep : {M : Type 0} (old : Ends M) (answer : Poll (Result (Option M) AllocError)) (new : Ends M) → PollsToReceive old answer new → Keeps old new
polls_keep old (Ready (Ok (Some x))) new p = (p.0, p.2, p.3)
polls_keep old (Ready (Ok None)) new p = (p.0, p.2, p.4)
polls_keep old (Ready (Err e)) new p = (p.0, p.2, p.4)
polls_keep old Pending new p = (p.0, p.2, p.4)

pub came_batch : (old new : Ends (Vec Request)) (a : Result (Option (Vec Request)) AllocError) (o : Option (Vec Request)) (batch : Vec Request) → a ≡ Ok o → o ≡ Some batch
    → PollsToReceive old (Ready a) new → HasReceived old batch new
came_batch old new a o batch e f p = subst (λ x. PollsToReceive old (Ready (Ok x)) new) f (subst (λ x. PollsToReceive old (Ready x) new) e p)

pub came_none : (old new : Ends (Vec Request)) (a : Result (Option (Vec Request)) AllocError) (o : Option (Vec Request)) → a ≡ Ok o → o ≡ None → PollsToReceive old (Ready a) new
    → FindsNone old new
came_none old new a o e f p = subst (λ x. PollsToReceive old (Ready (Ok x)) new) f (subst (λ x. PollsToReceive old (Ready x) new) e p)

pub came_err : (old new : Ends (Vec Request)) (a : Result (Option (Vec Request)) AllocError) (e : AllocError) → a ≡ Err e → PollsToReceive old (Ready a) new → FindsNone old new
came_err old new a e is p = subst (λ x. PollsToReceive old (Ready x) new) is p

pub takes_none : (desk : Desk) (from to : Ends (Vec Request)) → FindsNone from to → Takes desk from desk to
takes_none desk from to found = record { more = []; received = ap joined found.1 ∙ sym (append-nil (joined (received_by from))); performed = ([], ([], refl), ([], [], did_none desk, refl)) }

pub takes_batch : (old new : Desk) (from to : Ends (Vec Request)) (batch : Vec Request) (shown : List Request) → HasReceived from batch to → shown ≡ batch.items → PerformsSome old shown new → Takes old from new to
takes_batch old new from to batch shown received show some = record {
  more = shown;
  received = ap joined received.1 ∙ flat_map-append (λ (m : Vec Request). m.items) (received_by from) (batch ∷ []) ∙ ap (λ l. joined (received_by from) ++ l) (append-nil batch.items ∙ sym show);
  performed = some;
}

pub takes_end : (old new : Desk) (from to : Ends (Vec Request)) → FindsNone from to → Performs old [] new → Takes old from new to
takes_end old new from to found one = record { more = []; received = ap joined found.1 ∙ sym (append-nil (joined (received_by from))); performed = ([], ([], refl), one) }

pub takes_shown : (old new : Desk) (from : Ends (Vec Request)) → Performs old [] new → Takes old from new from
takes_shown old new from one = record { more = []; received = sym (append-nil (joined (received_by from))); performed = ([], ([], refl), one) }

some_after : (old mid new : Desk) (all : List Request) → Performs old [] mid → PerformsSome mid all new → PerformsSome old all new
some_after old mid new all one (done, begins, next) = (done, begins, performs_on old mid new [] done one next)

some_leads : (old new : Desk) (all : List Request) → PerformsSome old all new → Leads old new
some_leads old new all (done, begins, (events, replies, did, asked)) = led_by old new events replies did

pub takes_after : (old mid new : Desk) (from to : Ends (Vec Request)) → Performs old [] mid → Takes mid from new to → Takes old from new to
takes_after old mid new from to one t = record { more = t.more; received = t.received; performed = some_after old mid new t.more one t.performed }

pub takes_leads : (old new : Desk) (from to : Ends (Vec Request)) → Takes old from new to → Leads old new
takes_leads old new from to t = some_leads old new t.more t.performed

pub next_none : (old : Desk) (number : ℕ) (from to : Ends (Vec Request)) (out : List Answer) → FindsNone from to → ServesNext came.Nothing old number from out old to out
next_none old number from to out none = ([], (refl, none), serves_none old number out)

pub next_batch : (old new : Desk) (number : ℕ) (from to : Ends (Vec Request)) (batch : Vec Request) (shown : List Request) (out end : List Answer) → HasReceived from batch to → shown ≡ batch.items
    → Serves old number (handled shown) out new end → ServesNext came.Requests old number from out new to end
next_batch old new number from to batch shown out end received show serves = (handled shown, (batch, ap handled show, received), serves)

pub next_end : (old new : Desk) (number : ℕ) (from to : Ends (Vec Request)) (out end : List Answer) → FindsNone from to → Serves old number (Finish ∷ []) out new end
    → ServesNext came.End old number from out new to end
next_end old new number from to out end none serves = (Finish ∷ [], (refl, none), serves)

pub served_at : (what : Came) (old mid new : Desk) (number n : ℕ) (from to : Ends (Vec Request)) (empty between text : List Answer) → empty ≡ [] → number ≡ old.number → Serves old old.number (Advance n ∷ []) empty mid between
    → ServesNext what mid number from between new to text → ServesAt what old n from new to text
served_at what old mid new number n from to empty between text none same one (events, comes, next) =
    let all = serves_on old mid new old.number (Advance n ∷ []) events empty between text one (subst (λ x. Serves mid x events between new text) same next) in
    (events, comes, subst (λ out. Serves old old.number (Advance n ∷ events) out new text) none all)

-- ---- a whole run

-- All that was done since nothing had been done.
pub has_run : (core : Core) (number : ℕ) (first : CoreState) (start left : Desk) → Refines core first → start.core ≡ core → start.number ≡ number → events_of start.past ≡ [] → replies_of start.past ≡ [] → Leads start left → HasRun number first left
has_run core number first start left refines same numbered none silent leads =
    let did = leads.did in
    let one = did.run first (subst (λ c. Refines c first) (sym same) refines) in
    let asked : leads.events ≡ events_of left.past =
    sym (did.asked ∙ ap (λ xs. xs ++ leads.events) none) in
    let replied : leads.replies ≡ replies_of left.past =
    sym (did.replied ∙ ap (λ xs. xs ++ leads.replies) silent) in
    record {
      last = one.0;
      run = subst (λ xs. Run first xs (replies_of left.past) one.0) asked (subst (λ xs. Run first leads.events xs one.0) replied one.1);
      refines = one.2;
      number_is = did.number ∙ numbered;
    }
