use Rattle.lease_core.proofs.cores.Core.perform.Goals as goal

pub returns-in-Open : goal.returns-in-Open
returns-in-Open c = rw c.in-Open.is (c.open.ensures c.args.key)

pub returns-in-Beat : goal.returns-in-Beat
returns-in-Beat c = rw c.in-Beat.is (c.beat.ensures c.args.key)

pub returns-in-Close : goal.returns-in-Close
returns-in-Close c = rw c.in-Close.is (c.close.ensures c.args.key)

pub returns-in-Acquire : goal.returns-in-Acquire
returns-in-Acquire c = rw c.in-Acquire.is c.acquire.ensures

pub returns-in-Release : goal.returns-in-Release
returns-in-Release c = rw c.in-Release.is c.release.ensures

pub returns-in-Try : goal.returns-in-Try
returns-in-Try c = rw c.in-Try.is c.attempt.ensures

pub returns-in-Owner : goal.returns-in-Owner
returns-in-Owner c = rw c.in-Owner.is c.owner.ensures

pub returns-in-Count : goal.returns-in-Count
returns-in-Count c = rw c.in-Count.is (c.count.ensures c.args.key)

pub returns-in-Bucket : goal.returns-in-Bucket
returns-in-Bucket c = rw c.in-Bucket.is (c.bucket.ensures c.args.key)

pub returns-in-Take : goal.returns-in-Take
returns-in-Take c = rw c.in-Take.is (c.take.ensures c.args.key)

pub returns-in-Spawn : goal.returns-in-Spawn
returns-in-Spawn c = rw c.in-Spawn.is (c.spawn.ensures c.args.key)

pub returns-in-Send : goal.returns-in-Send
returns-in-Send c = rw c.in-Send.is (c.send.ensures c.args.key)

pub returns-in-Receive : goal.returns-in-Receive
returns-in-Receive c = rw c.in-Receive.is (c.receive.ensures c.args.key)
