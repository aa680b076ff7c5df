use Rattle.std.proofs.Common.{◌≡◌, map, take, true, string_bytes}
use Rattle.std.specs.List.{list_all}
use Rattle.lean_fixed.specs.Symbol.{is_symbol}
use Rattle.lean_top.specs.Command.{all_differ}
use Rattle.lean_top.proofs.words.read_different.Given as goal

-- the words that were passed are different symbols, and were kept
abbrev pub invariant-loop-word : goal.invariant-loop-word
invariant-loop-word l = record {
  kept : l.symbols.items ≡ take l.word-index (map string_bytes l.words);
  symbols : list_all is_symbol l.symbols.items ≡ true;
  differ : all_differ l.symbols.items ≡ true;
}
