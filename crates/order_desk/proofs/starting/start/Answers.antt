-- A thread was started, or its book came back.
use Rattle.std.proofs.Common.{rules, ◌≡◌, sym, ◌∙◌, subst}
use Rattle.order_desk.specs.Serving.{IsLive, Ended}
use Rattle.order_desk.proofs.BeginLemmas.{links-new, live-new, back-stands, same-orders}
use Rattle.order_desk.proofs.starting.start.Goals as goal

pub new-requires : goal.new-requires
new-requires g c =
    let stood = c.requires.stands in
    record {
      stands = (stood.0, back-stands c.args.server c.spawn_with-server.result c.args.ends _ stood.0 c.requires.begins (search rules) c.settle-commands.ensures.rest stood.1);
    }

pub returns-in-Ok : goal.returns-in-Ok
returns-in-Ok g c =
    let begun : c.in-Ok.child.promise.0.value ≡ c.args.server = search rules in
    record {
      stands = λ s stands. record {
        begun = subst (λ v. IsLive v s) (sym begun) (live-new c.args.server c.args.ends s c.requires.begins stands);
        links = links-new c.args.server.book _ _ _ _ s stands c.orders.ensures.count c.requires.begins.asked c.requires.begins.heard c.requires.begins.queue;
      };
      fed = search rules;
      submitted = search rules;
      orders = c.orders.ensures.count;
      answered = search rules;
      told = search rules;
      room = search rules;
    }

pub returns-in-Err : goal.returns-in-Err
returns-in-Err g c =
    let v = c.args.server in
    let w = c.spawn_with-server.result in
    let ended : Ended v w = search rules in
    let stood = c.requires.stands in
    let said = c.new.ensures in
    record {
      stands = λ s stands. said.stands s (back-stands v w c.args.ends _ s c.requires.begins ended c.settle-commands.ensures.rest stands);
      fed = said.fed;
      submitted = said.submitted;
      orders = said.orders ∙ same-orders v.book w.book stood.0 stood.1
          (back-stands v w c.args.ends _ stood.0 c.requires.begins ended c.settle-commands.ensures.rest stood.1);
      answered = said.answered;
      told = said.told;
      room = said.room;
    }
