use Rattle.std.proofs.Common.{◌≡◌, bytes_eq, drop}
use Rattle.rule_lang.specs.Tokens.{lexeme_among, table}
use Rattle.rule_lang.proofs.scan.entry_of.Given as goal

abbrev pub invariant-loop-entry : goal.invariant-loop-entry
invariant-loop-entry l =
    lexeme_among (λ entry. bytes_eq entry l.word) (table l.entries) ≡ lexeme_among (λ entry. bytes_eq entry l.word) (table (drop l.entry-index l.entries))
