use Rattle.mono_serve.proofs.BucketLemmas.{rate}
use Rattle.mono_serve.proofs.laws.rate_is_kept.Goals as goal

pub returns : goal.returns
returns c = rate
