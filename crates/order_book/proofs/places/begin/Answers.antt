use Rattle.std.proofs.Common.{[], ◌∷◌, ◌++◌, cond, ap, ◌∙◌}
use Rattle.std.specs.Prelude.{unwrap_or}
use Rattle.std.specs.Map.{lookup}
use Rattle.portfolio.specs.Symbols.{same_symbol}
use Rattle.order_book.specs.Waiting.{places_of}
use Rattle.order_book.proofs.PlaceLemmas.{places_begun}
use Rattle.order_book.proofs.places.begin.Goals as goal

pub returns-in-Ok-clause-ok : goal.returns-in-Ok-clause-ok
returns-in-Ok-clause-ok c s =
    ap (λ x. unwrap_or x []) (c.in-Ok.ensures.updates.0 s)
    ∙ places_begun (same_symbol c.args.symbol s) c.push.new.self (lookup (same_symbol s) c.args.waiting.now.entries)
    ∙ ap (λ ps. cond (same_symbol c.args.symbol s) ps (places_of c.args.waiting.now.entries s)) (c.in_ok-push.ensures.ok ∙ ap (λ ps. ps ++ c.args.place ∷ []) c.new-places.ensures)
