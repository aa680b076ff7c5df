-- A short key is shown whole.
use Rattle.std.proofs.Common.{sym, arith}
use Rattle.std.proofs.lemmas.List.{take_all}
use Rattle.lean_top.proofs.fault_text.front_of.Goals as goal

pub returns-then-key-lt-SHOWN : goal.returns-then-key-lt-SHOWN
returns-then-key-lt-SHOWN c = sym (take_all 64 c.args.key.now (omega (arith, c.if-key-lt-SHOWN.true)))
