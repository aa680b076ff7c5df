use Rattle.std.proofs.Common.{◌≡◌, ◌<◌, ◌≤◌, length, take, drop, arith, length-drop, ◌∙◌, Some, None, subst, true, rules}
use Rattle.line_source.specs.Raw.{FindsLf}
use Rattle.line_source.specs.Written.{has_no_lf}
use Rattle.line_source.specs.Reader.{ahead_of}
use Rattle.line_source.proofs.RawLemmas.{at-end, found-read, none-read, none-ahead}
use Rattle.line_source.proofs.BufferLemmas.{ahead-kept, ahead-grown, length-ahead, piece}
use Rattle.line_source.proofs.reader.Lines.read_line.Goals as goal

pub returns-in-Ok-eq0-clause-gives : goal.returns-in-Ok-eq0-clause-gives
returns-in-Ok-eq0-clause-gives g c = λ f e.
    let s = c.reads.self in
    let after = c.read_behind.new.buffer in
    let room : 0 < length (drop s.to after) = omega (arith, length-drop s.to after, c.reads-test.true) in
    let kept = ahead-kept s.buffer after s.from s.to s.order c.in-Ok-eq0.ensures.front in
    rw c.last_line.ensures.hand
    (at-end _ (ahead_of s) _ (ahead_of c.last_line.new.self) _ _ (drop s.to after) _ c.last_line.result c.in-Ok-eq0.field-0
    (c.reads.invariant.left f e) kept c.in-Ok-eq0.field-0-test room
    (c.in-Ok-eq0.ensures.told f (c.reads.invariant.kept ∙ e)) c.last_line.ensures.gives)

pub returns-in-Some-clause-gives : goal.returns-in-Some-clause-gives
returns-in-Some-clause-gives g c = λ f e.
    let s = c.reads.self in
    let after = c.read_behind.new.buffer in
    let grown = ahead-grown s.buffer after s.from s.to c.in-Ok.n s.order c.in-Ok.ensures.front in
    let whole : s.to ≤ length s.buffer = omega arith in
    let long : length (ahead_of s) ≡ s.to = omega (arith, length-ahead s.buffer s.from s.to whole, c.reads.invariant.front) in
    let found = subst (λ xs. FindsLf xs (Some c.in-Some.place)) (piece after s.to c.in-Ok.n) c.in-Some.ensures in
    rw (c.cut.ensures.text, c.cut.ensures.ahead, c.cut.ensures.hand)
    (found-read _ (ahead_of s) _ _ _ (drop s.to after) s.to c.in-Ok.n c.in-Some.place (c.reads.invariant.left f e) long
    c.reads.invariant.whole (c.in-Ok.ensures.told f (c.reads.invariant.kept ∙ e)) grown found)

pub reads-preserved : goal.reads-preserved
reads-preserved g c =
    let s = c.reads.self in
    let after = c.read_behind.new.buffer in
    let grown = ahead-grown s.buffer after s.from s.to c.in-Ok.n s.order c.in-Ok.ensures.front in
    let none : has_no_lf (take c.in-Ok.n (drop s.to after)) ≡ true = subst (λ xs. FindsLf xs None) (piece after s.to c.in-Ok.n) c.in-None.ensures in
    record {
      opened = search rules;
      front = c.reads.invariant.front;
      whole = none-ahead (ahead_of s) _ _ c.reads.invariant.whole none grown;
      left = λ f e. none-read _ (ahead_of s) _ _ _ (drop s.to after) c.in-Ok.n (c.reads.invariant.left f e)
          (c.in-Ok.ensures.told f (c.reads.invariant.kept ∙ e)) grown;
      number = c.reads.invariant.number;
      kept = c.in-Ok.ensures.kept ∙ c.reads.invariant.kept;
      grows = search rules;
    }
