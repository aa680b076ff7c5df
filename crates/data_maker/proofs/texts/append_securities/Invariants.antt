use Rattle.std.proofs.Common.{◌≡◌, ◌-◌, ◌++◌}
use Rattle.std.specs.List.{flat_map, range_with_len}
use Rattle.data_maker.specs.Texts.{security_text, securities}
use Rattle.data_maker.proofs.texts.append_securities.Given as goal

abbrev pub invariant-loop-security : goal.invariant-loop-security
invariant-loop-security l =
    l.out.items ++ flat_map security_text (range_with_len l.security (16 - l.security)) ≡ l.fn.out.items ++ flat_map security_text securities
