use Rattle.line_source.proofs.RawLemmas.{finds_lf}
use Rattle.line_source.proofs.bytes.find_lf.Goals as goal

pub returns : goal.returns
returns c = finds_lf c.args.bytes.now c.memchr.result c.memchr.ensures
