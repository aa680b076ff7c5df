use Rattle.std.proofs.Common.{◌≡◌, [], ◌∷◌, ◌++◌, ap, ◌∙◌}
use Rattle.std.specs.Cmp.Lexicographic.{pointwise}
use Rattle.std.specs.Prelude.{nat_eq}
use Rattle.indexmap.proofs.CallerLemmas.{insert_entry-new}
use Rattle.portfolio.specs.Account.{holding_in, keys_in, nothing_held}
use Rattle.portfolio.specs.Symbols.{is_among}
use Rattle.portfolio.proofs.SymbolLemmas.{among_added}
use Rattle.portfolio.proofs.HoldingLemmas.{absent, holding_in-append, keys_in-append}
use Rattle.portfolio.proofs.holdings.add.Goals as goal

pub returns-in-Ok-clause-kept : goal.returns-in-Ok-clause-kept
returns-in-Ok-clause-kept c s =
    let grown : c.insert.new.self.entries ≡ c.args.holdings.now.entries ++ (c.args.symbol, nothing_held) ∷ [] =
    c.in-Ok.ensures.entries
    ∙ insert_entry-new (pointwise nat_eq) c.args.holdings.now c.args.symbol nothing_held (absent c.args.symbol c.args.holdings.now.entries c.requires) in
    ap (λ es. holding_in es s) grown ∙ holding_in-append c.args.holdings.now.entries c.args.symbol s

pub returns-in-Ok-clause-ok : goal.returns-in-Ok-clause-ok
returns-in-Ok-clause-ok c =
    let grown : c.insert.new.self.entries ≡ c.args.holdings.now.entries ++ (c.args.symbol, nothing_held) ∷ [] =
    c.in-Ok.ensures.entries
    ∙ insert_entry-new (pointwise nat_eq) c.args.holdings.now c.args.symbol nothing_held (absent c.args.symbol c.args.holdings.now.entries c.requires) in
    ap keys_in grown ∙ keys_in-append c.args.holdings.now.entries c.args.symbol nothing_held

pub returns-in-Ok-clause-there : goal.returns-in-Ok-clause-there
returns-in-Ok-clause-there c =
    ap (is_among c.args.symbol) (returns-in-Ok-clause-ok c) ∙ among_added c.args.symbol (keys_in c.args.holdings.now.entries)
