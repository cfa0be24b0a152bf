-- What the router's polls lead to.
use Rattle.std.specs.Prelude.{◌≡◌, ◌<◌, ℕ, List, [], ◌++◌, length, slice_index_or, Option, Some, None, refl}
use Rattle.std.proofs.Common.{sym, ap, subst, ◌∙◌, append_assoc}
use Rattle.std.proofs.lemmas.List.{append-nil}
use Rattle.mono_text.specs.Environment.{HasRead}
use Rattle.mono_channel.specs.Ends.{Ends}
use Rattle.lease_server.specs.Outlets.{Stays}
use Rattle.lease_server.specs.Dispatch.{HaveSameWays, KeepsWays}
use Rattle.lease_server.specs.Intakes.{Fits, Leads, LeadsFaults}
use Rattle.lease_server.specs.declared.lanes.Lane.{Lane}
use Rattle.lease_server.specs.declared.dispatchers.Dispatcher.{Dispatcher}
use Rattle.lease_server.specs.declared.intakes.Intake.{Intake}

module _ {S : Type 0} (left : S → Option (List ℕ)) (faults : S → ℕ) where
  -- Bytes were read, and what was read and what was given agree. The channels stay, and reads that failed show in the phase.
  abbrev pub LeadsOn : Intake S → Intake S → Type 0
  LeadsOn old new = Leads left old new × KeepsWays old.splitter.dispatcher new.splitter.dispatcher × LeadsFaults faults old new

pub stays : {M : Type 0} (a : Ends M) → Stays a a
stays a = (refl, refl)

pub stays_on : {M : Type 0} (a b c : Ends M) → Stays a b → Stays b c → Stays a c
stays_on a b c p q = (q.0 ∙ p.0, q.1 ∙ p.1)

pub same_ways : (xs : List Lane) → HaveSameWays xs xs
same_ways xs = record { count = refl; each = λ k lane lt. (refl, refl) }

pub ways_on : (xs ys zs : List Lane) → HaveSameWays xs ys → HaveSameWays ys zs → HaveSameWays xs zs
ways_on xs ys zs p q = record {
  count = q.count ∙ p.count;
  each = λ k lane lt. stays_on (slice_index_or xs k lane).outlet.sender (slice_index_or ys k lane).outlet.sender (slice_index_or zs k lane).outlet.sender (p.each k lane lt) (q.each k lane (subst (λ n. k < n) (sym p.count) lt));
}

pub keeps_itself : (d : Dispatcher) → KeepsWays d d
keeps_itself d = record { lanes = same_ways d.lanes.items; refusals = (refl, refl) }

pub keeps_on : (a b c : Dispatcher) → KeepsWays a b → KeepsWays b c → KeepsWays a c
keeps_on a b c p q = record {
  lanes = ways_on a.lanes.items b.lanes.items c.lanes.items p.lanes q.lanes;
  refusals = stays_on a.refusals.outlet.sender b.refusals.outlet.sender c.refusals.outlet.sender p.refusals q.refusals;
}

read_none : (left : Option (List ℕ)) → HasRead left [] left
read_none None = refl
read_none (Some l) = refl

read_on : (a b c : Option (List ℕ)) (xs ys : List ℕ) → HasRead a xs b → HasRead b ys c → HasRead a (xs ++ ys) c
read_on None b c xs ys one two = subst (λ o. HasRead o ys c) one two
read_on (Some l) None c xs ys one two = absurd one
read_on (Some l) (Some m) None xs ys one two = absurd two
read_on (Some l) (Some m) (Some n) xs ys one two = one ∙ ap (λ r. xs ++ r) two ∙ sym (append_assoc xs ys n)

module _ {S : Type 0} (left : S → Option (List ℕ)) where
  pub leads_itself : (a : Intake S) → Leads left a a
  leads_itself a = ([], read_none (left a.source), λ text f. subst (λ t. Fits left t a) (sym (append-nil text)) f)

  pub leads_on : (a b c : Intake S) → Leads left a b → Leads left b c → Leads left a c
  leads_on a b c p q =
      (p.0 ++ q.0, read_on (left a.source) (left b.source) (left c.source) p.0 q.0 p.1 q.1, λ text f. subst (λ t. Fits left t c) (append_assoc text p.0 q.0) (q.2 (text ++ p.0) (p.2 text f)))

module _ {S : Type 0} (left : S → Option (List ℕ)) (faults : S → ℕ) where
  pub itself : (a : Intake S) → LeadsOn left faults a a
  itself a = (leads_itself left a, keeps_itself a.splitter.dispatcher, λ before f. f)

  pub on : (a b c : Intake S) → LeadsOn left faults a b → LeadsOn left faults b c → LeadsOn left faults a c
  on a b c p q = (leads_on left a b c p.0 q.0, keeps_on a.splitter.dispatcher b.splitter.dispatcher c.splitter.dispatcher p.1 q.1, λ before f. q.2 before (p.2 before f))
