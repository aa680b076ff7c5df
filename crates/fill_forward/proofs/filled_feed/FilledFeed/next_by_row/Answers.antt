use Rattle.row_feed.specs.Feed.{key_of, window_of, hours_of, Leaves}
use Rattle.fill_forward.proofs.FeedLemmas.{row_gives, before_gives}
use Rattle.fill_forward.proofs.filled_feed.FilledFeed.next_by_row.Goals as goal

pub returns-in-Some-clause-gives : goal.returns-in-Some-clause-gives
returns-in-Some-clause-gives g c =
    let rows = c.args.self.now.rows in
    λ list l. before_gives (Leaves g.H.Hand.files g.H.Hand.rest g.H.Hand.is_open rows) (hours_of rows) (window_of rows) (key_of rows) c.args.resolution c.requires.grid c.args.row _ _ _ _ list c.requires.ahead c.in-Some.ensures.again l

pub returns-in-None-clause-gives : goal.returns-in-None-clause-gives
returns-in-None-clause-gives g c =
    let rows = c.args.self.now.rows in
    λ list l. row_gives (Leaves g.H.Hand.files g.H.Hand.rest g.H.Hand.is_open rows) (hours_of rows) (window_of rows) (key_of rows) c.args.resolution c.requires.grid c.args.row _ _ _ list c.requires.ahead c.in-None.ensures.again l
