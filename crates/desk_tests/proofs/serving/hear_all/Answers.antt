-- One more reply was heard.
use Rattle.std.proofs.Common.{◌≡◌, false, ◌||◌, [], ◌∷◌, ◌++◌, subst, ◌∙◌, append_assoc}
use Rattle.desk_tests.specs.Calls.{replies_of}
use Rattle.desk_tests.proofs.CallLemmas.{replies-push, ticketed-push, answered-push, keeps}
use Rattle.desk_tests.proofs.serving.hear_all.Goals as goal

pub replies-preserved : goal.replies-preserved
replies-preserved g c =
    let at = c.replies in
    let said = c.in-Ok-Some.ensures in
    let reply = c.in-Ok-Some.reply in
    let heard = at.heard.items in
    let kept = λ (lost : at.lost || c.is_err-lost.result ≡ false). keeps at.lost c.is_err-lost.result _ heard c.push.new.self.items reply lost c.is_err-lost.ensures.negation c.push.ensures.items in
    record {
      fed = said.starved;
      submitted = said.submitted ∙ at.invariant.submitted;
      orders = said.orders ∙ at.invariant.orders;
      answered = λ lost. rw (kept lost).items (answered-push _ _ _ heard reply (at.invariant.answered (kept lost).before) (rw c.in-Ok-Some.field-0-is at said.answered));
      tickets = λ lost. (let due = (rw c.in-Ok-Some.field-0-is at said.due) in
          rw (kept lost).items (ticketed-push _ _ heard reply (at.invariant.tickets (kept lost).before) (at.invariant.answered (kept lost).before) due.0));
      stands = λ lost s cs rs h. (let now = (rw c.in-Ok-Some.field-0-is at said.stands) s cs (rs ++ replies_of heard) (at.invariant.stands (kept lost).before s cs rs h) in
          rw ((kept lost).items, replies-push heard reply)
          (subst (λ x. g.D.Desk.stands c.hear.new.self s cs x) (append_assoc rs (replies_of heard) (reply.reply ∷ [])) now));
    }
