use Rattle.std.proofs.Common.{rules}
use Rattle.lean_fixed.proofs.SymbolLemmas.{IsPadded-from_symbol}
use Rattle.lean_fixed.proofs.symbol.Symbol.read.Goals as goal

pub invariant_of-result : goal.invariant_of-result
invariant_of-result c =
    rw c.copy_from_slice.ensures.after (IsPadded-from_symbol c.args.bytes.now (search rules))
