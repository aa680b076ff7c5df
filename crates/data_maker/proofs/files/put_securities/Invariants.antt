use Rattle.std.proofs.Common.{◌≡◌, ◌-◌}
use Rattle.std.specs.List.{flat_map, range_with_len}
use Rattle.lean_io.specs.MemFolder.{map_files}
use Rattle.data_maker.specs.Texts.{securities}
use Rattle.data_maker.specs.MadeFiles.{with_files, security_files}
use Rattle.data_maker.proofs.files.put_securities.Given as goal

abbrev pub invariant-loop-security : goal.invariant-loop-security
invariant-loop-security l =
    with_files (map_files l.files) (flat_map (security_files l.number) (range_with_len l.security (16 - l.security))) ≡ with_files (map_files l.fn.files) (flat_map (security_files l.number) securities)
