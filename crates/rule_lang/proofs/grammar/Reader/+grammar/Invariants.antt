use Rattle.std.proofs.Common.{◌+◌, ◌*◌, ◌≤◌, length}
use Rattle.rule_lang.specs.Grammar as spec
use Rattle.rule_lang.specs.Nodes.{part_of, AddsPart}
use Rattle.rule_lang.proofs.Chains.{height, Goes}
use Rattle.rule_lang.proofs.grammar.Reader.+grammar.Given as goal

abbrev pub decreases-opened : goal.decreases-opened
decreases-opened l = 20 * l.levels

abbrev pub decreases-enclosed : goal.decreases-enclosed
decreases-enclosed l = 20 * l.levels + 1

abbrev pub decreases-factor : goal.decreases-factor
decreases-factor l = 20 * l.levels + 2

abbrev pub decreases-comparison : goal.decreases-comparison
decreases-comparison l = 20 * l.levels + 8

abbrev pub decreases-not : goal.decreases-not
decreases-not l = 20 * l.levels + 9

abbrev pub decreases-operand : goal.decreases-operand
decreases-operand l = 20 * l.levels + height l.level

abbrev pub decreases-chain : goal.decreases-chain
decreases-chain l = 20 * l.levels + height l.level + 1

abbrev pub invariant-chain-loop-op : goal.invariant-chain-loop-op
invariant-chain-loop-op l = record {
  shorter : length l.self.rest.now ≤ length l.fn.self.rest.now;
  adds : AddsPart l.left l.fn.self.windows.items l.self.windows.items;
  goes : Goes l.level (spec.operand (spec.opened l.levels) l.level) (spec.chain l.level (spec.operand (spec.opened l.levels) l.level) l.fn.self.rest.now) (part_of l.left) l.self.rest.now;
}

abbrev pub decreases-chain-loop-op : goal.decreases-chain-loop-op
decreases-chain-loop-op l = length l.self.rest.now
