use Rattle.std.proofs.Common.{◌≡◌, ◌≤◌, ◌-◌, length, drop}
use Rattle.rule_lang.specs.Tokens.{tokens_from}
use Rattle.rule_lang.proofs.Scanned.{behind}
use Rattle.rule_lang.proofs.scan.tokens.Given as goal

abbrev pub invariant-loop-at : goal.invariant-loop-at
invariant-loop-at l = record {
  within : l.at ≤ length l.text;
  rest : tokens_from 0 0 l.text ≡ behind l.tokens.items (tokens_from l.at 0 (drop l.at l.text));
}

abbrev pub decreases-loop-at : goal.decreases-loop-at
decreases-loop-at l = length l.text - l.at
