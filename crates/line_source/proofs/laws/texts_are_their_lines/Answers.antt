use Rattle.line_source.proofs.LawLemmas.{raw_lines-written, lines-written}
use Rattle.line_source.proofs.laws.texts_are_their_lines.Goals as goal

pub returns : goal.returns
returns c = record { raw = raw_lines-written; numbered = lines-written }
