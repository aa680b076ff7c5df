-- The source at the place is the one that stopped the tape.
use Rattle.daily_tape.proofs.Reporting.{last_of_stop, fault_of_stop}
use Rattle.daily_tape.proofs.tape.append_last.Goals as goal

pub returns-in-Stopped-clause-last : goal.returns-in-Stopped-clause-last
returns-in-Stopped-clause-last g c =
    last_of_stop c.args.sources.now c.args.ending c.in-Stopped.place c.in-Stopped.is c.requires.stopped c.index-sources-place.result c.index-sources-place.is
    c.args.page.now c.append_stop.new.page c.append_stop.result c.append_stop.ensures.last

pub returns-in-Stopped-clause-fault : goal.returns-in-Stopped-clause-fault
returns-in-Stopped-clause-fault g c =
    fault_of_stop c.args.sources.now c.args.ending c.in-Stopped.place c.in-Stopped.is c.requires.stopped c.index-sources-place.result c.index-sources-place.is
    g.H.Hand.is_open g.H.Hand.faults c.append_stop.result c.requires.sound c.append_stop.ensures.fault
