use Rattle.std.proofs.Common.{◌≡◌, rules, arith}
use Rattle.std.proofs.lemmas.Result.{err_from_is_err_and}
use Rattle.rule_lang.specs.declared.token.Context.TheVariants.{Brackets, Not, Minus}
use Rattle.rule_lang.specs.Parts.{binary}
use Rattle.rule_lang.specs.Grammar as spec
use Rattle.rule_lang.specs.Nodes.{part_of}
use Rattle.rule_lang.proofs.Chains.{goes-first, goes-on, goes-fails, goes-end, chain-fails, opened-within}
use Rattle.rule_lang.proofs.grammar.Reader.+grammar.Goals as goal

pub chain-returns-in_err-left : goal.chain-returns-in_err-left
chain-returns-in_err-left t c =
    let p = err_from_is_err_and c.from_residual.result c.from_residual.ensures.1 in
    rw (p.1, p.2) record {
      gives = chain-fails c.args.level (spec.operand (spec.opened c.args.levels) c.args.level) c.args.self.now.rest.now _ c.in_err-left.ensures.gives;
      shorter = c.in_err-left.ensures.shorter;
      adds = tt;
    }

pub chain-loop-op-init : goal.chain-loop-op-init
chain-loop-op-init t c = record {
  shorter = c.in_ok-left.ensures.shorter;
  adds = c.in_ok-left.ensures.adds;
  goes = goes-first c.args.level (spec.operand (spec.opened c.args.levels) c.args.level) c.args.self.now.rest.now (part_of c.in_ok-left.left) c.operand.new.self.rest.now c.in_ok-left.ensures.gives c.in_ok-left.ensures.shorter;
}

pub chain-returns-in_err-right : goal.chain-returns-in_err-right
chain-returns-in_err-right t c =
    let goes = c.loop-op.invariant.goes in
    let p = err_from_is_err_and c.from_residual-in_err-right.result c.from_residual-in_err-right.ensures.1 in
    rw (p.1, p.2) record {
      gives = goes-fails c.args.level (spec.operand (spec.opened c.args.levels) c.args.level) _ (part_of c.loop-op.left) c.loop-op.self.rest.now c.sign.new.self.rest.now (c.in-Some.op, c.in-Some.at) _ goes.turns goes.enough goes.same c.in-Some.ensures.reads.gives c.in-Some.ensures.taken c.in_err-right.ensures.gives;
      shorter = omega arith;
      adds = tt;
    }

pub chain-loop-op-preserved : goal.chain-loop-op-preserved
chain-loop-op-preserved t c =
    let goes = c.loop-op.invariant.goes in
    let e : binary c.in-Some.op c.in-Some.at (part_of c.loop-op.left) (part_of c.in_ok-right.right) ≡ part_of c.in_ok-left-2.left = cc (c.in_ok-left-2.ensures.part) in
    record {
      shorter = omega arith;
      adds = c.in_ok-left-2.ensures.adds c.args.self.now.windows.items c.loop-op.self.windows.items c.operand-in-Some.new.self.windows.items c.loop-op.invariant.adds (rw c.in-Some.ensures.reads.adds at c.in_ok-right.ensures.adds);
      goes = rw (← e) (goes-on c.args.level (spec.operand (spec.opened c.args.levels) c.args.level) _ (part_of c.loop-op.left) (part_of c.in_ok-right.right) c.loop-op.self.rest.now c.sign.new.self.rest.now c.operand-in-Some.new.self.rest.now (c.in-Some.op, c.in-Some.at) goes.turns goes.enough goes.same c.in-Some.ensures.reads.gives c.in-Some.ensures.taken c.in_ok-right.ensures.gives c.in_ok-right.ensures.shorter);
    }

pub chain-returns : goal.chain-returns
chain-returns t c = let goes = c.loop-op.invariant.goes in record {
  gives = goes-end c.args.level (spec.operand (spec.opened c.args.levels) c.args.level) _ (part_of c.loop-op.left) c.loop-op.self.rest.now c.sign.new.self.rest.now goes.turns goes.enough goes.same c.in_default.ensures.reads.gives;
  shorter = omega arith;
  adds = rw c.in_default.ensures.reads.adds c.loop-op.invariant.adds;
}

pub comparison-returns-in_ok-right-in-Some : goal.comparison-returns-in_ok-right-in-Some
unfolding spec.cmp spec.pair spec.steps
comparison-returns-in_ok-right-in-Some t c = record {
  gives = search rules;
  shorter = omega arith;
  adds = c.binary.ensures.adds c.args.self.now.windows.items c.operand.new.self.windows.items c.operand-in-Some.new.self.windows.items c.in_ok-left.ensures.adds (rw c.in-Some.ensures.reads.adds at c.in_ok-right-in-Some.ensures.adds);
}

pub opened-returns-in-Brackets : goal.opened-returns-in-Brackets
unfolding spec.or
opened-returns-in-Brackets t c = rw (c.in-Brackets.is, opened-within c.args.levels c.args.at Brackets (omega arith)) c.chain.ensures

pub opened-returns-in-Not : goal.opened-returns-in-Not
opened-returns-in-Not t c = rw (c.in-Not.is, opened-within c.args.levels c.args.at Not (omega arith)) c.not.ensures

pub opened-returns-in-Minus : goal.opened-returns-in-Minus
opened-returns-in-Minus t c = rw (c.in-Minus.is, opened-within c.args.levels c.args.at Minus (omega arith)) c.factor.ensures
