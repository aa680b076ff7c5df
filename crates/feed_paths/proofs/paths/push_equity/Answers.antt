use Rattle.std.proofs.Common.{◌++◌, length, string_bytes, sym, ap, ◌∙◌, arith}
use Rattle.lean_fixed.specs.declared.resolution.Resolution.TheVariants.{Minute}
use Rattle.lean_items.specs.declared.feed_key.FeedKind.TheVariants.{Equity}
use Rattle.feed_paths.specs.Paths.{path_of}
use Rattle.feed_paths.proofs.PathLemmas.{minute_parts, hour_parts, daily_parts}
use Rattle.feed_paths.proofs.paths.push_equity.Goals as goal

pub push_parts-requires-clause-room : goal.push_parts-requires-clause-room
push_parts-requires-clause-room c =
    omega (arith, ap length (minute_parts c.args.symbol c.args.file), c.paths_are_short.ensures.equity c.args.symbol Minute c.args.file c.symbol_is_short.ensures.most)

pub returns-in-Minute-clause-bytes : goal.returns-in-Minute-clause-bytes
returns-in-Minute-clause-bytes c =
    c.push_parts.ensures.bytes
    ∙ ap (λ text. string_bytes c.args.out.now ++ text) (minute_parts c.args.symbol c.args.file ∙ ap (λ r. path_of (Equity c.args.symbol r) c.args.file) (sym c.in-Minute.is))

pub returns-in-Hour-clause-bytes : goal.returns-in-Hour-clause-bytes
returns-in-Hour-clause-bytes c =
    c.push_parts-in-Hour.ensures.bytes
    ∙ ap (λ text. string_bytes c.args.out.now ++ text) (hour_parts c.args.symbol c.args.file ∙ ap (λ r. path_of (Equity c.args.symbol r) c.args.file) (sym c.in-Hour.is))

pub returns-in-Daily-clause-bytes : goal.returns-in-Daily-clause-bytes
returns-in-Daily-clause-bytes c =
    c.push_parts-in-Daily.ensures.bytes
    ∙ ap (λ text. string_bytes c.args.out.now ++ text) (daily_parts c.args.symbol c.args.file ∙ ap (λ r. path_of (Equity c.args.symbol r) c.args.file) (sym c.in-Daily.is))
