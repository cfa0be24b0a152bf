use Rattle.lease_server.specs.Blocks.{rest_of}
use Rattle.lease_server.proofs.SplitLemmas.{feed_found, none_found}
use Rattle.lease_server.proofs.splitters.Splitter.line_length.Goals as goal

pub returns-clause-found : goal.returns-clause-found
returns-clause-found c = feed_found (rest_of c.args.self.now.block) c.rest.result.now c.memchr.result c.rest.ensures c.memchr.ensures

pub returns-clause-none : goal.returns-clause-none
returns-clause-none c = none_found (rest_of c.args.self.now.block) c.rest.result.now c.memchr.result c.rest.ensures c.memchr.ensures
