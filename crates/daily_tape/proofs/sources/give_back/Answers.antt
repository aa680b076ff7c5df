-- One more hand is given back.
use Rattle.std.proofs.Common.{◌≡◌, ◌∙◌, ◌++◌, ◌∷◌, [], ap, arith, rules, length, length-append}
use Rattle.lean_io.specs.Counts.{raised}
use Rattle.line_source.specs.Reader.{hand_of}
use Rattle.daily_tape.proofs.SourceLemmas.{given-more}
use Rattle.daily_tape.proofs.sources.give_back.Goals as goal

pub sources-preserved : goal.sources-preserved
sources-preserved g c =
    let is : c.sources.left.items ≡ c.pop.new.self.items ++ c.in-Some.source ∷ [] = search rules in
    let count = length-append c.pop.new.self.items (c.in-Some.source ∷ []) in
    let counted : g.F.Folder.faults c.take_back.new.self ≡ raised (g.F.Folder.faults c.sources.folder) (g.F.H.Hand.faults (hand_of c.in-Some.source.lines)) = search rules in (
      given-more g.F.H.Hand.faults c.args.sources.items c.sources.left.items c.pop.new.self.items c.in-Some.source (g.F.Folder.faults c.args.folder.now) (g.F.Folder.faults c.sources.folder) (g.F.Folder.faults c.take_back.new.self)
          is c.sources.invariant.1 c.take_back.ensures.grows counted c.sources.invariant.0,
      omega (arith, c.sources.invariant.1, c.take_back.ensures.grows),
      c.take_back.ensures.kept ∙ c.sources.invariant.2,
      omega (arith, ap length is, count, c.sources.invariant.3),
      omega (arith, ap length is, count, c.sources.invariant.3, c.sources.invariant.4, c.take_back.ensures.back),
    )
