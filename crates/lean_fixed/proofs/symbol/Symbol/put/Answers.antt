use Rattle.std.proofs.Common.{◌+◌, ◌-◌, arith}
use Rattle.std.proofs.lemmas.Slice.{drop-put_mid}
use Rattle.lean_fixed.proofs.SymbolLemmas.{written-symbol}
use Rattle.lean_fixed.proofs.symbol.Symbol.put.Goals as goal

pub returns-clause-written : goal.returns-clause-written
returns-clause-written c =
    let kept = c.self.invariant in
    rw (c.copy_from_slice.ensures.after, ← c.self.view_is) (written-symbol c.self.inside.padded c.args.buffer.now c.self.inside.len c.args.place kept.size kept.within c.requires.room)

pub returns-clause-rest : goal.returns-clause-rest
returns-clause-rest c =
    let kept = c.self.invariant in
    rw c.copy_from_slice.ensures.after (drop-put_mid c.args.place (c.args.place + 12 - c.args.place) c.args.buffer.now c.self.inside.padded (c.args.place + 12) (omega arith) (omega (arith, c.requires.room)) (omega (arith, kept.size)))
