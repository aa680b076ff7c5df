use Rattle.std.proofs.Common.{◌++◌, length, string_bytes, sym, ap, ◌∙◌, arith}
use Rattle.feed_paths.specs.Paths.{path_of}
use Rattle.feed_paths.proofs.PathLemmas.{coarse_parts}
use Rattle.feed_paths.proofs.paths.push_path.Goals as goal

pub push_parts-requires-clause-room : goal.push_parts-requires-clause-room
push_parts-requires-clause-room c =
    omega (arith, ap length (coarse_parts c.args.file), c.paths_are_short.ensures.coarse c.args.file)

pub returns-in-Coarse-clause-bytes : goal.returns-in-Coarse-clause-bytes
returns-in-Coarse-clause-bytes c =
    c.push_parts.ensures.bytes ∙ ap (λ text. string_bytes c.args.out.now ++ text) (coarse_parts c.args.file ∙ ap (λ kind. path_of kind c.args.file) (sym c.in-Coarse.is))
