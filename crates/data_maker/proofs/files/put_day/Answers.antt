use Rattle.std.proofs.Common.{◌∷◌, string_bytes}
use Rattle.std.specs.List.{flat_map}
use Rattle.data_maker.specs.Walk.{walked}
use Rattle.data_maker.specs.MadeFiles.{minutes}
use Rattle.lean_io.specs.MemFolder.{map_files}
use Rattle.data_maker.proofs.Putting.{day-put}
use Rattle.data_maker.proofs.files.put_day.Goals as goal

pub returns-clause-files : goal.returns-clause-files
returns-clause-files c =
    let walk = c.day_bytes.new.walk in
    λ later. day-put (map_files c.args.files.now) (map_files c.put.new.files) (string_bytes c.in_ok-path.path) c.in_ok-bytes.bytes.items c.args.symbol c.args.day later (walked c.args.walk.now.random c.args.walk.now.price (flat_map minutes (c.args.day ∷ later))) (walked walk.random walk.price (flat_map minutes later)) c.in_ok-put.ensures c.in_ok-path.ensures (c.in_ok-bytes.ensures.bytes (flat_map minutes later)) (c.in_ok-bytes.ensures.left (flat_map minutes later))
