use Rattle.std.proofs.Common.{refl}
use Rattle.mono_serve.proofs.BucketWaits.{handed_leads}
use Rattle.mono_serve.proofs.buckets.BucketsSharedState.next_owed.Goals as goal

pub returns-clause-leads : goal.returns-clause-leads
returns-clause-leads c = handed_leads _ _ c.in-Some.first refl c.in-Some.ensures.items refl refl
