-- One more command was submitted.
use Rattle.std.proofs.Common.{◌≡◌, [], ◌∷◌, ◌++◌, length, sym, ap, subst, ◌∙◌, append_assoc, length-append, arith}
use Rattle.std.specs.Vec.Iter.{into_iter_items}
use Rattle.desk_tests.proofs.CallLemmas.{room-next, orders-push}
use Rattle.desk_tests.proofs.serving.submit_all.Goals as goal

pub submit-requires-clause-room : goal.submit-requires-clause-room
submit-requires-clause-room g c =
    let at = c.loop-command in
    let rest = into_iter_items c.next.new.self in
    let steps : into_iter_items at.command-iterator ≡ c.in-Some.command ∷ rest = c.in-Some.ensures.steps.0 in
    let split : at.yielded ++ c.in-Some.command ∷ rest ≡ c.args.commands.items = ap (λ l. at.yielded ++ l) (sym steps) ∙ at.invariant.split in
    rw at.invariant.orders (room-next c.args.commands.items at.yielded rest c.in-Some.command _ split c.requires.orders)

pub loop-command-preserved : goal.loop-command-preserved
loop-command-preserved g c =
    let at = c.loop-command in
    let said = c.in-Ok.ensures in
    let rest = into_iter_items c.next.new.self in
    let steps : into_iter_items at.command-iterator ≡ c.in-Some.command ∷ rest = c.in-Some.ensures.steps.0 in
    let split : at.yielded ++ c.in-Some.command ∷ rest ≡ c.args.commands.items = ap (λ l. at.yielded ++ l) (sym steps) ∙ at.invariant.split in
    record {
      split = append_assoc at.yielded (c.in-Some.command ∷ []) rest ∙ split;
      count = (let was = at.invariant.count in let gone = c.in-Some.ensures.steps.1 in let short = ap length steps in omega arith);
      fed = said.starved;
      submitted = omega (arith, said.submitted, at.invariant.submitted, length-append at.yielded (c.in-Some.command ∷ []));
      orders = omega (arith, said.orders, at.invariant.orders, orders-push at.yielded c.in-Some.command);
      answered = said.answered ∙ at.invariant.answered;
      stands = λ s cs rs h. subst (λ x. g.D.Desk.stands c.submit.new.self s x rs) (append_assoc cs at.yielded (c.in-Some.command ∷ []))
          (said.stands s (cs ++ at.yielded) rs (at.invariant.stands s cs rs h));
    }
