use Rattle.mono_sync.specs.Runs.{leads_itself}
use Rattle.mono_serve.specs.BucketCalls.{Step}
use Rattle.example_services.proofs.takes.takers.push_note.Goals as goal

pub returns-clause-leads : goal.returns-clause-leads
returns-clause-leads c = leads_itself Step c.args.shelf.now.buckets
