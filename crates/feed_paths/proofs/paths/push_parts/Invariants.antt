-- The parts that were passed stand in the text, and there is room for the others.
use Rattle.std.proofs.Common.{◌≡◌, ◌+◌, ◌≤◌, ◌++◌, length, drop, true, string_bytes, string_len, string_capacity}
use Rattle.std.specs.List.{list_all, flat_map}
use Rattle.feed_paths.specs.Parts.{part_text, has_text}
use Rattle.feed_paths.proofs.paths.push_parts.Given as goal

abbrev pub invariant-loop-part : goal.invariant-loop-part
invariant-loop-part l = record {
  told : list_all has_text (drop l.part-index l.parts) ≡ true;
  room : string_len l.out + length (flat_map part_text (drop l.part-index l.parts)) ≤ string_capacity l.out;
  bytes : string_bytes l.out ++ flat_map part_text (drop l.part-index l.parts) ≡ string_bytes l.fn.out ++ flat_map part_text l.parts;
  capacity : string_capacity l.fn.out ≤ string_capacity l.out;
}
