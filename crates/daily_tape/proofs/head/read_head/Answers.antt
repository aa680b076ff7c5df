-- What the next line that is not blank says is the head of the sheet.
use Rattle.std.proofs.Common.{◌≡◌, ◌∷◌}
use Rattle.line_source.specs.Lines.{TextLine, LongLine, ManyLine, past_blank}
use Rattle.line_source.specs.Reader.{lines_left}
use Rattle.daily_tape.specs.Head.{plain}
use Rattle.daily_tape.proofs.HeadLemmas.{head_of_text, head_of_long, head_of_many, head_of_end}
use Rattle.daily_tape.proofs.head.read_head.Goals as goal

pub returns-in-Text-clause-told : goal.returns-in-Text-clause-told
returns-in-Text-clause-told g c f told =
    let first : past_blank (lines_left g.H.Hand.rest c.args.lines.now) ≡ (c.number.result, TextLine c.text.result.now) ∷ lines_left g.H.Hand.rest c.next.new.self
    = rw (c.number.ensures, c.text.ensures) (c.in-Text.ensures.gives f told) in
    head_of_text (plain c.args.before) c.number.result c.text.result.now (lines_left g.H.Hand.rest c.args.lines.now) (lines_left g.H.Hand.rest c.next.new.self) c.read_text.result first c.read_text.ensures.said

pub returns-in-Long-clause-told : goal.returns-in-Long-clause-told
returns-in-Long-clause-told g c f told =
    let gives = c.in-Long.ensures.gives f told in
    let first : past_blank (lines_left g.H.Hand.rest c.args.lines.now) ≡ (c.number-in-Long.result, LongLine) ∷ gives.0
    = rw c.number-in-Long.ensures gives.1 in
    head_of_long (plain c.args.before) c.number-in-Long.result (lines_left g.H.Hand.rest c.args.lines.now) gives.0 (lines_left g.H.Hand.rest c.next.new.self) c.bad_head.result first c.bad_head.ensures

pub returns-in-Many-clause-told : goal.returns-in-Many-clause-told
returns-in-Many-clause-told g c f told =
    let gives = c.in-Many.ensures.gives f told in
    let first : past_blank (lines_left g.H.Hand.rest c.args.lines.now) ≡ (c.number-in-Many.result, ManyLine) ∷ gives.0
    = rw c.number-in-Many.ensures gives.1 in
    head_of_many (plain c.args.before) c.number-in-Many.result (lines_left g.H.Hand.rest c.args.lines.now) gives.0 (lines_left g.H.Hand.rest c.next.new.self) c.bad_head-in-Many.result first c.bad_head-in-Many.ensures

pub returns-in-End-clause-told : goal.returns-in-End-clause-told
returns-in-End-clause-told g c f told = head_of_end (plain c.args.before) (lines_left g.H.Hand.rest c.args.lines.now) (c.in-End.ensures.gives f told)
