use Rattle.std.proofs.Common.{◌++◌, ap, sym, ◌∙◌, flat_map}
use Rattle.std.specs.Map.Iter.{deref}
use Rattle.std.proofs.lemmas.List.{append-nil, append_assoc}
use Rattle.std.proofs.lemmas.Map.Iter.{rest_more, rest_all}
use Rattle.report_stats.specs.Pieces.{line_of}
use Rattle.report_stats.proofs.summary.append_holdings.Goals as goal

pub loop-symbol-preserved : goal.loop-symbol-preserved
loop-symbol-preserved c = λ start fills marks stands.
    let f = line_of fills marks in
    let more = rest_more deref c.loop-symbol.symbol-iterator c.next.new.self c.next.result c.in-Some.symbol c.in-Some.is c.next.ensures.steps in
    ap (λ items. items ++ flat_map f c.next.new.self) (c.in_ok-append_held.ensures start fills marks stands)
    ∙ (append_assoc c.loop-symbol.out.items (f c.in-Some.symbol.now) (flat_map f c.next.new.self)
    ∙ (ap (λ keys. c.loop-symbol.out.items ++ flat_map f keys) (sym more)
    ∙ c.loop-symbol.invariant start fills marks stands))

pub returns : goal.returns
returns c = λ start fills marks stands.
    let f = line_of fills marks in
    let all = rest_all deref c.loop-symbol.symbol-iterator c.next.new.self c.next.result c.in-None.is c.next.ensures.steps in
    sym (append-nil c.loop-symbol.out.items)
    ∙ (ap (λ keys. c.loop-symbol.out.items ++ flat_map f keys) (sym all)
    ∙ c.loop-symbol.invariant start fills marks stands)
