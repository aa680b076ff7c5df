-- What was taken follows the lists, now that the pool is finished.
use Rattle.std.proofs.Common.{◌++◌, Ok, subst, ◌∙◌}
use Rattle.report_pages.specs.Printed.{IsFront}
use Rattle.report_pages.proofs.PrintedLemmas.{on_err-map}
use Rattle.session_tape.specs.Session.{session_sources, session, session_text}
use Rattle.session_tape.specs.Walked.{HasFaulted, IfFaulted, IsWalked}
use Rattle.session_tape.proofs.EndLemmas.{if_ok, cut_short}
use Rattle.session_tape.proofs.tape.print_on.Goals as goal

pub returns-in-Ok-clause-told : goal.returns-in-Ok-clause-told
returns-in-Ok-clause-told g c =
    let told0 = g.S.Sink.told c.args.out.now in
    let told = g.S.Sink.told c.walk_feeds-walked.new.out in
    if_ok c.end.result _ _ (λ ended tells before lists f hours stand is are.
    (let (now, stands_now, faulted, walks) = c.in-Ok.ensures.stands before stand in
    let follow = c.finish.ensures.follow before now stands_now lists (c.in-Ok.ensures.stays.keyed ∙ is) in
    let sources = session_sources f hours c.args.resolution c.args.window c.args.symbols.now in
    let walked = subst (λ page. IsWalked sources c.args.window told0 told page c.walk_feeds-walked.new.page c.in-Ok.ending) c.requires.empty (walks lists f hours are follow) in
    tells told0 sources c.args.window walked)) c.end.ensures.told

pub returns-in-Ok-clause-front : goal.returns-in-Ok-clause-front
returns-in-Ok-clause-front g c =
    let told0 = g.S.Sink.told c.args.out.now in
    let told = g.S.Sink.told c.walk_feeds-walked.new.out in
    on_err-map c.end.result _ _ (λ tells before lists f hours stand is are.
    (let (now, stands_now, faulted, walks) = c.in-Ok.ensures.stands before stand in
    let follow = c.finish.ensures.follow before now stands_now lists (c.in-Ok.ensures.stays.keyed ∙ is) in
    let sources = session_sources f hours c.args.resolution c.args.window c.args.symbols.now in
    let walked = subst (λ page. IsWalked sources c.args.window told0 told page c.walk_feeds-walked.new.page c.in-Ok.ending) c.requires.empty (walks lists f hours are follow) in
    tells told0 sources c.args.window walked)) c.end.ensures.front

pub returns-in-Ok-clause-fault : goal.returns-in-Ok-clause-fault
returns-in-Ok-clause-fault g c =
    if_ok c.end.result _ _ (λ ended was before stand fault.
    (let (now, stands_now, faulted, walks) = c.in-Ok.ensures.stands before stand in
    let (n, taken, at, has) : HasFaulted now = subst (λ ending. IfFaulted (Ok ending) (HasFaulted now)) (was fault) faulted in
    c.finish.ensures.rose before now stands_now n taken at has)) c.end.ensures.fault

pub returns-in-Err-clause-front : goal.returns-in-Err-clause-front
returns-in-Err-clause-front g c before lists f hours stand is are =
    let told0 = g.S.Sink.told c.args.out.now in
    let told = g.S.Sink.told c.walk_feeds-walked.new.out in
    let (now, stands_now, faulted, walks) = c.in-Err.ensures.stands before stand in
    let follow = c.finish.ensures.follow before now stands_now lists (c.in-Err.ensures.stays.keyed ∙ is) in
    let sources = session_sources f hours c.args.resolution c.args.window c.args.symbols.now in
    cut_short c.args.resolution c.args.window sources told0 told
    (subst (λ page. IsFront told0 told (page ++ session_text (session sources c.args.window).lines)) c.requires.empty (walks lists f hours are follow))

pub returns-in-Ok-clause-hands : goal.returns-in-Ok-clause-hands
returns-in-Ok-clause-hands g c before stand =
    let (now, stands_now, faulted, walks) = c.in-Ok.ensures.stands before stand in
    c.finish.ensures.hands before now stands_now

pub returns-in-Err-clause-hands : goal.returns-in-Err-clause-hands
returns-in-Err-clause-hands g c before stand =
    let (now, stands_now, faulted, walks) = c.in-Err.ensures.stands before stand in
    c.finish.ensures.hands before now stands_now
