use Rattle.line_source.specs.Reader.{ahead_of}
use Rattle.line_source.proofs.RawLemmas.{found-line}
use Rattle.line_source.proofs.reader.Lines.raw_line.Goals as goal

pub returns-in-Some-clause-gives : goal.returns-in-Some-clause-gives
returns-in-Some-clause-gives g c = λ f e.
    rw (c.cut.ensures.text, c.cut.ensures.ahead, c.cut.ensures.hand)
    (found-line (ahead_of c.args.self.now) _ c.in-Some.place c.in-Some.ensures)
