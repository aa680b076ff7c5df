use Rattle.std.proofs.Common.{◌≡◌, ◌++◌, map, drop}
use Rattle.lean_top.specs.AlgorithmRead.{shown_byte}
use Rattle.lean_top.proofs.fault_text.append_shown.Given as goal

-- with what is shown of the bytes that are left, this is the text
abbrev pub invariant-loop-byte : goal.invariant-loop-byte
invariant-loop-byte l =
    l.words.items ++ map shown_byte (drop l.byte-index l.key) ≡ l.fn.words.items ++ map shown_byte l.key
