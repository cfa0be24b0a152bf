use Rattle.mono_rt.proofs.runtimes.Runtime.new.Goals as goal

pub returns-clause-stands : goal.returns-clause-stands
returns-clause-stands g c = c.make.ensures.stands

pub returns-clause-pool : goal.returns-clause-pool
returns-clause-pool g c = c.make.ensures.pool

pub returns-clause-timers : goal.returns-clause-timers
returns-clause-timers g c = c.make.ensures.timers

pub returns-clause-driver : goal.returns-clause-driver
returns-clause-driver g c = c.make.ensures.driver

pub returns-clause-rests : goal.returns-clause-rests
returns-clause-rests g c = c.make.ensures.rests

pub returns-clause-journal : goal.returns-clause-journal
returns-clause-journal g c = c.make.ensures.entries

pub returns-clause-futures : goal.returns-clause-futures
returns-clause-futures g c = c.make.ensures.futures

pub returns-clause-unfull : goal.returns-clause-unfull
returns-clause-unfull g c = c.make.ensures.full

pub returns-clause-registered : goal.returns-clause-registered
returns-clause-registered g c = c.make.ensures.registered

pub returns-clause-shared : goal.returns-clause-shared
returns-clause-shared g c = c.make.ensures.shared

pub returns-clause-history : goal.returns-clause-history
returns-clause-history g c = c.make.ensures.history

pub returns-clause-ended : goal.returns-clause-ended
returns-clause-ended g c = c.make.ensures.ended
