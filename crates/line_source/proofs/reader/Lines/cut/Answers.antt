use Rattle.line_source.proofs.BufferLemmas.{ahead-later}
use Rattle.line_source.proofs.reader.Lines.cut.Goals as goal

pub returns-clause-ahead : goal.returns-clause-ahead
returns-clause-ahead g c = ahead-later c.args.self.now.buffer c.args.self.now.from c.args.self.now.to c.args.place c.requires
