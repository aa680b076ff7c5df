use Rattle.std.proofs.Common.{[], ◌∷◌, ◌++◌, cond, sym, ap, ◌∙◌}
use Rattle.portfolio.specs.Symbols.{same_symbol}
use Rattle.order_book.specs.Waiting.{places_of}
use Rattle.order_book.proofs.PlaceLemmas.{places_set, places_self, places_kept}
use Rattle.order_book.proofs.ServesLemmas.{on_ok, on_err}
use Rattle.order_book.proofs.places.add_place.Goals as goal

pub returns-in-Some-clause-ok : goal.returns-in-Some-clause-ok
returns-in-Some-clause-ok c =
    on_ok c.push.result
    (λ is s. ap (λ entries. places_of entries s) (c.get_mut.follows.holds c.push.new.self).0
    ∙ places_set c.args.waiting.now.entries c.args.symbol s c.in-Some.places.now c.push.new.self (sym c.in-Some.ensures.value)
    ∙ ap (λ ps. cond (same_symbol c.args.symbol s) ps (places_of c.args.waiting.now.entries s)) is
    ∙ places_self c.args.waiting.now.entries c.args.symbol s c.in-Some.places.now (λ ps. ps ++ c.args.place ∷ []) (sym c.in-Some.ensures.value))
    c.push.ensures.ok

pub returns-in-Some-clause-err : goal.returns-in-Some-clause-err
returns-in-Some-clause-err c =
    on_err c.push.result
    (λ is s. ap (λ entries. places_of entries s) (c.get_mut.follows.holds c.push.new.self).0
    ∙ places_set c.args.waiting.now.entries c.args.symbol s c.in-Some.places.now c.push.new.self (sym c.in-Some.ensures.value)
    ∙ ap (λ ps. cond (same_symbol c.args.symbol s) ps (places_of c.args.waiting.now.entries s)) is
    ∙ places_kept c.args.waiting.now.entries c.args.symbol s c.in-Some.places.now (sym c.in-Some.ensures.value))
    c.push.ensures.err
