-- The windows of two operands, the second of which was read behind the first.
use Rattle.std.proofs.Common.{ℕ, ◌+◌, List, ◌++◌, length, length-append, ap, ◌∙◌}
use Rattle.std.proofs.lemmas.List.{append_assoc}
use Rattle.bar_windows.specs.declared.spec.WindowSpec.{WindowSpec}
use Rattle.rule_lang.specs.Nodes.{Adds}

pub adds-both : (P Q : ℕ → Type 0) (ws vs old between new : List WindowSpec) → Adds P ws old between × Adds Q vs between new → Adds (λ from. P from × Q (from + length ws)) (ws ++ vs) old new
adds-both P Q ws vs old between new both = record {
  placed = (both.0.placed, rw (both.0.behind, length-append) at both.1.placed);
  behind = both.1.behind ∙ ap (λ xs. xs ++ vs) both.0.behind ∙ append_assoc old ws vs;
  lengths = λ all. both.1.lengths (both.0.lengths all);
}
