-- One more security is opened behind the others.
use Rattle.std.proofs.Common.{◌≡◌, ◌+◌, ◌≤◌, ◌∙◌, ◌++◌, ◌∷◌, [], ap, sym, subst, arith, rules, take, length, length-append}
use Rattle.std.specs.Prelude.{vec_capacity}
use Rattle.std.specs.List.{AllZip}
use Rattle.std.proofs.lemmas.List.{take_more, take_all, map-append}
use Rattle.daily_tape.specs.DailyTape.{security, securities}
use Rattle.daily_tape.specs.Head.{StandsPast}
use Rattle.daily_tape.specs.Source.{IsSound, Follows}
use Rattle.daily_tape.proofs.NextLemmas.{all-append}
use Rattle.daily_tape.proofs.SourceLemmas.{zip_push}
use Rattle.daily_tape.proofs.sources.open_sources.Goals as goal

pub loop-symbol-preserved : goal.loop-symbol-preserved
loop-symbol-preserved g c =
    let items : c.push.new.self.items ≡ c.loop-symbol.sources.items ++ c.in_ok-source.source ∷ [] = search rules in
    let room : length c.args.symbols.now ≤ vec_capacity c.push.new.self = search (rules, c.loop-symbol.invariant.6) in
    let more : take (c.loop-symbol.symbol-index + 1) c.args.symbols.now ≡ take c.loop-symbol.symbol-index c.args.symbols.now ++ c.symbol-item.result ∷ []
    = take_more c.args.symbols.now c.loop-symbol.symbol-index c.symbol-item.result c.loop-symbol-test.true ∙ ap (λ s. take c.loop-symbol.symbol-index c.args.symbols.now ++ s ∷ []) (sym c.symbol-item.is) in (
      λ f files. (let told = c.in_ok-source.ensures.told f (c.loop-symbol.invariant.4 ∙ files) in
          let zip = zip_push (Follows g.F.H.Hand.files g.F.H.Hand.rest f 0) (securities f (take c.loop-symbol.symbol-index c.args.symbols.now)) c.loop-symbol.sources.items (security f c.symbol-item.result) c.in_ok-source.source
          (c.loop-symbol.invariant.0 f files) told in
          let all : securities f (take (c.loop-symbol.symbol-index + 1) c.args.symbols.now) ≡ securities f (take c.loop-symbol.symbol-index c.args.symbols.now) ++ security f c.symbol-item.result ∷ []
          = ap (securities f) more ∙ map-append (security f) (take c.loop-symbol.symbol-index c.args.symbols.now) (c.symbol-item.result ∷ []) in
          rw (all, items) zip),
      rw items (all-append (IsSound g.F.H.Hand.is_open g.F.H.Hand.faults) c.loop-symbol.sources.items (c.in_ok-source.source ∷ []) c.loop-symbol.invariant.1 (c.in_ok-source.ensures.sound, tt)),
      rw items (all-append (λ source. StandsPast 0 source.head) c.loop-symbol.sources.items (c.in_ok-source.source ∷ []) c.loop-symbol.invariant.2 (c.in_ok-source.ensures.past, tt)),
      omega (arith, ap length items, length-append c.loop-symbol.sources.items (c.in_ok-source.source ∷ []), c.loop-symbol.invariant.3),
      c.in_ok-source.ensures.kept ∙ c.loop-symbol.invariant.4,
      c.in_ok-source.ensures.same ∙ c.loop-symbol.invariant.5,
      room,
      omega (arith, ap length items, length-append c.loop-symbol.sources.items (c.in_ok-source.source ∷ []), c.in_ok-source.ensures.out, c.loop-symbol.invariant.7),
    )

pub returns-clause-told : goal.returns-clause-told
returns-clause-told g c f files =
    let all : take c.loop-symbol.symbol-index c.args.symbols.now ≡ c.args.symbols.now = take_all c.loop-symbol.symbol-index c.args.symbols.now c.loop-symbol-test.false in
    subst (λ symbols. AllZip (Follows g.F.H.Hand.files g.F.H.Hand.rest f 0) (securities f symbols) c.loop-symbol.sources.items) all (c.loop-symbol.invariant.0 f files)
