use Rattle.session_tape.proofs.tape.walk_feeds.Goals as goal

pub returns-in-Ok-clause-stands : goal.returns-in-Ok-clause-stands
returns-in-Ok-clause-stands g c before stand =
    let (feeds, opened, (taken, heads)) = c.in-Ok.ensures.stands before stand in
    let (now, stands_now, faulted, earlier, walked) = c.walk.ensures.stands before feeds opened taken in
    (now, stands_now, faulted, λ lists f hours are follow. walked lists f hours are follow (heads lists f hours are (earlier lists follow)))
