-- The digits that were passed stand in the text.
use Rattle.std.proofs.Common.{◌≡◌, ◌+◌, ◌≤◌, ◌++◌, take, string_bytes, string_len, string_capacity}
use Rattle.feed_paths.proofs.paths.push_day.Given as goal

abbrev pub invariant-loop-digit : goal.invariant-loop-digit
invariant-loop-digit l = record {
  bytes : string_bytes l.out ≡ string_bytes l.fn.out ++ take l.digit-index l.digit-items;
  len : string_len l.out ≡ string_len l.fn.out + l.digit-index;
  capacity : string_capacity l.fn.out ≤ string_capacity l.out;
}
