-- The sources of a stream.
use Rattle.std.specs.Prelude.{◌≡◌, Option, Some, None}
use Rattle.std.specs.Fn.{Mut}
use Rattle.std.proofs.Common.{sym, subst}
use Rattle.mono_model.specs.declared.poll.Poll.{Poll}
use Rattle.mono_model.specs.declared.poll.Poll.TheVariants.{Ready, Pending}
use Rattle.mono_task.specs.Members.{FutureOf}
use Rattle.mono_stream.specs.Members.{StreamOf}
use Rattle.mono_stream.specs.Iterators.{IterPolls}
use Rattle.mono_stream.specs.Maps.{Answers, MapPolls}
use Rattle.mono_stream.specs.Chains.{HeldCancels, AfterPoll, Finishes, AfterNext, ByMade, ThenPolls, ThenCancels}
use Rattle.mono_stream.specs.declared.maps.Map.{Map}
use Rattle.mono_stream.specs.declared.chains.Then.{Then}
use Rattle.mono_wait.specs.Sources.{Source}
use Rattle.mono_wait.specs.Frames.{Frame, Part, Needs, CoversIn, same_reached, covers_after}

-- What `StreamWaits` asks of a stream under another.
pub record Flow {S C X : Type 0} (w : Frame C) (stream : StreamOf S C X) : Type 1 where
  pub reach : (s : S) (c : C) (r : Poll (Option X)) (t : S) (d : C) → stream.polls s c r t d → w.reaches c d
  pub left : (s : S) (c d : C) → stream.cancels s c d → w.reaches c d
  pub needs : S → Source → Type 0
  pub covers : (s : S) (c : C) (t : S) (d : C) → stream.polls s c Pending t d → CoversIn w c d (needs t)

module _ {S C X : Type 0} (w : Frame C) (stream : StreamOf S C X) where
  abbrev pub flow_of : ((s : S) (c : C) (r : Poll (Option X)) (t : S) (d : C) → stream.polls s c r t d → w.reaches c d)
      → ((s : S) (c d : C) → stream.cancels s c d → w.reaches c d)
      → (needs : S → Source → Type 0)
      → ((s : S) (c : C) (t : S) (d : C) → stream.polls s c Pending t d → CoversIn w c d (needs t)) → Flow w stream
  flow_of reach left needs covers = record { reach = reach; left = left; needs = needs; covers = covers }

-- those of the future that was made, or else of the stream
abbrev pub HeldNeeds : {S Fut : Type 0} → Needs S → Needs Fut → S → Option Fut → Source → Type 0
HeldNeeds stream future s (Some g) x = future g x
HeldNeeds stream future s None x = stream s x

abbrev pub ThenNeeds : {S F Fut : Type 0} → Needs S → Needs Fut → Then S F Fut → Source → Type 0
ThenNeeds stream future t x = HeldNeeds stream future t.stream t.made x

no_answer : {Z : Type 0} (z : Z) → Pending ≡ Ready z → ⊥
no_answer z e = cc

module _ {I C X : Type 0} (w : Frame C) (next_gives : I → Option X → I → Type 0) where
  pub iter_reached : (i : I) (c : C) (r : Poll (Option X)) (j : I) (d : C) → IterPolls next_gives i c r j d → w.reaches c d
  iter_reached i c r j d q = same_reached w c d q.3

  pub iters_cover : (i : I) (c : C) (j : I) (d : C) → IterPolls next_gives i c Pending j d → CoversIn w c d (λ x. ⊥)
  iters_cover i c j d q = absurd (no_answer q.0 q.2)

module _ {S F C X Y : Type 0} (w : Frame C) (stream : StreamOf S C X) (flow : Flow w stream) (call : Mut F (X × Unit {0}) Y) where
  pub map_reached : (m : Map S F) (c : C) (r : Poll (Option Y)) (n : Map S F) (d : C) → MapPolls stream call m c r n d → w.reaches c d
  map_reached m c r n d q = flow.reach m.stream c q.answer n.stream d q.polled

  map_waits : (s : S) (c : C) (answer : Poll (Option X)) (t : S) (d : C) (f g : F) → stream.polls s c answer t d → Answers call answer f Pending g → CoversIn w c d (flow.needs t)
  map_waits s c (Ready (Some x)) t d f g polled rest = absurd (no_answer (Some rest.0) rest.2)
  map_waits s c (Ready None) t d f g polled rest = absurd (no_answer None rest.0)
  map_waits s c Pending t d f g polled rest = flow.covers s c t d polled

  pub maps_cover : (m : Map S F) (c : C) (n : Map S F) (d : C) → MapPolls stream call m c Pending n d → CoversIn w c d (flow.needs n.stream)
  maps_cover m c n d q = map_waits m.stream c q.answer n.stream d m.f n.f q.polled q.answers

module _ {S F Fut C X Y : Type 0} (w : Frame C) (stream : StreamOf S C X) (future : FutureOf Fut C Y) (flow : Flow w stream) (part : Part w future) (call : Mut F (X × Unit {0}) Fut) where
  held_left : (made : Option Fut) (c d : C) → HeldCancels future made c d → w.reaches c d
  held_left None c d q = same_reached w c d q
  held_left (Some g) c d q = part.left g c d q

  pub then_left : (t : Then S F Fut) (c d : C) → ThenCancels stream future call t c d → w.reaches c d
  then_left t c d q = w.on c q.0 d (held_left t.made c q.0 q.1) (flow.left t.stream q.0 d q.2)

  after_poll : (answer : Poll Y) (left : Fut) (c : C) (r : Poll (Option Y)) (made : Option Fut) (d : C) → AfterPoll future answer left c r made d → w.reaches c d
  after_poll (Ready y) left c r made d q = part.left left c d q.0
  after_poll Pending left c r made d q = same_reached w c d q.2

  finish_reached : (g : Fut) (c : C) (r : Poll (Option Y)) (made : Option Fut) (d : C) → Finishes future g c r made d → w.reaches c d
  finish_reached g c r made d q = w.on c q.middle d (part.reach g c q.answer q.left q.middle q.polled) (after_poll q.answer q.left q.middle r made d q.rest)

  after_next : (answer : Poll (Option X)) (f : F) (c : C) (r : Poll (Option Y)) (f' : F) (made : Option Fut) (d : C) → AfterNext future call answer f c r f' made d → w.reaches c d
  after_next (Ready (Some x)) f c r f' made d q = finish_reached q.0 c r made d q.2
  after_next (Ready None) f c r f' made d q = same_reached w c d q.3
  after_next Pending f c r f' made d q = same_reached w c d q.3

  by_made : (made : Option Fut) (t : Then S F Fut) (c : C) (r : Poll (Option Y)) (u : Then S F Fut) (d : C) → ByMade stream future call made t c r u d → w.reaches c d
  by_made (Some g) t c r u d q = finish_reached g c r u.made d q.0
  by_made None t c r u d q = w.on c q.middle d (flow.reach t.stream c q.answer u.stream q.middle q.polled) (after_next q.answer t.f q.middle r u.f u.made d q.rest)

  pub then_reached : (t : Then S F Fut) (c : C) (r : Poll (Option Y)) (u : Then S F Fut) (d : C) → ThenPolls stream future call t c r u d → w.reaches c d
  then_reached t c r u d q = by_made t.made t c r u d q

  abbrev Held : C → C → S → Option Fut → Type 0
  Held c d s made = CoversIn w c d (HeldNeeds flow.needs part.needs s made)

  poll_waits : (g : Fut) (c : C) (answer : Poll Y) (left : Fut) (m : C) (made : Option Fut) (d : C) (s : S) → future.polls g c answer left m → AfterPoll future answer left m Pending made d → Held c d s made
  poll_waits g c (Ready y) left m made d s polled rest = absurd (no_answer (Some y) rest.1)
  poll_waits g c Pending left m made d s polled rest = subst (Held c d s) (sym rest.1) (subst (λ e. CoversIn w c e (part.needs left)) (sym rest.2) (part.covers g c left m polled))

  finish_waits : (g : Fut) (c : C) (made : Option Fut) (d : C) (s : S) → Finishes future g c Pending made d → Held c d s made
  finish_waits g c made d s q = poll_waits g c q.answer q.left q.middle made d s q.polled q.rest

  next_waits : (s : S) (c : C) (answer : Poll (Option X)) (t : S) (m : C) (f f' : F) (made : Option Fut) (d : C) → stream.polls s c answer t m → AfterNext future call answer f m Pending f' made d → Held c d t made
  next_waits s c (Ready (Some x)) t m f f' made d polled rest =
      covers_after w c m d (HeldNeeds flow.needs part.needs t made) (flow.reach s c (Ready (Some x)) t m polled) (finish_waits rest.0 m made d t rest.2)
  next_waits s c (Ready None) t m f f' made d polled rest = absurd (no_answer None rest.0)
  next_waits s c Pending t m f f' made d polled rest = subst (Held c d t) (sym rest.2) (subst (λ e. CoversIn w c e (flow.needs t)) (sym rest.3) (flow.covers s c t m polled))

  made_waits : (made : Option Fut) (t : Then S F Fut) (c : C) (u : Then S F Fut) (d : C) → ByMade stream future call made t c Pending u d → CoversIn w c d (ThenNeeds flow.needs part.needs u)
  made_waits (Some g) t c u d q = finish_waits g c u.made d u.stream q.0
  made_waits None t c u d q = next_waits t.stream c q.answer u.stream q.middle t.f u.f u.made d q.polled q.rest

  pub thens_cover : (t : Then S F Fut) (c : C) (u : Then S F Fut) (d : C) → ThenPolls stream future call t c Pending u d → CoversIn w c d (ThenNeeds flow.needs part.needs u)
  thens_cover t c u d q = made_waits t.made t c u d q
