use Rattle.mono_serve.proofs.BucketOwedLemmas.{first_is_owed}
use Rattle.mono_serve.proofs.laws.first_is_owed.Goals as goal

pub returns : goal.returns
returns c = first_is_owed
