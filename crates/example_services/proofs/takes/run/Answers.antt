use Rattle.example_services.specs.Rates.{keeps_rates}
use Rattle.example_services.proofs.takes.run.Goals as goal

pub returns-clause-rates : goal.returns-clause-rates
returns-clause-rates g c = keeps_rates c.rate_is_kept.ensures _ _ c.block_on.ensures.shared
