-- The book handled one more command, or it was not to be handled.
use Rattle.std.proofs.Common.{rules}
use Rattle.order_desk.proofs.ServingLemmas.{live-more, left-taken}
use Rattle.order_desk.proofs.server.Server.take.Goals as goal

pub returns-then-not-may_handle-clause-ended : goal.returns-then-not-may_handle-clause-ended
returns-then-not-may_handle-clause-ended g c =
    record { lanes = search rules; left = λ s live. left-taken _ _ _ _ _ _ c.in-Some.command s c.in-Some.ensures.taken c.requires live }

pub returns-in-Ok-clause-ran : goal.returns-in-Ok-clause-ran
returns-in-Ok-clause-ran g c =
    let said = c.in-Ok.ensures in
    record {
      lanes = search rules;
      live = λ s live. live-more _ _ _ _ _ _ _ c.in-Some.command s c.in-Some.ensures.taken said.stands said.replies said.grows live;
    }

pub returns-in-Err-clause-ended : goal.returns-in-Err-clause-ended
returns-in-Err-clause-ended g c =
    record { lanes = search rules; left = λ s live. left-taken _ _ _ _ _ _ c.in-Some.command s c.in-Some.ensures.taken c.requires live }
