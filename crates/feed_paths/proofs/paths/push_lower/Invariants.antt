-- The bytes that were passed stand in the text, in lower case.
use Rattle.std.proofs.Common.{◌≡◌, ◌+◌, ◌≤◌, ◌++◌, take, string_bytes, string_len, string_capacity}
use Rattle.feed_paths.specs.Paths.{lower}
use Rattle.feed_paths.proofs.paths.push_lower.Given as goal

abbrev pub invariant-loop-byte : goal.invariant-loop-byte
invariant-loop-byte l = record {
  bytes : string_bytes l.out ≡ string_bytes l.fn.out ++ lower (take l.byte-index l.byte-items);
  len : string_len l.out ≡ string_len l.fn.out + l.byte-index;
  capacity : string_capacity l.fn.out ≤ string_capacity l.out;
}
