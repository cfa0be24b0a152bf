use Rattle.std.proofs.Common.{refl}
use Rattle.mono_serve.proofs.MailWaits.{handed_leads}
use Rattle.mono_serve.proofs.mailboxes.MailboxesSharedState.next_owed.Goals as goal

pub returns-clause-leads : goal.returns-clause-leads
returns-clause-leads g c = handed_leads _ _ c.in-Some.first refl refl c.in-Some.ensures.items refl refl
