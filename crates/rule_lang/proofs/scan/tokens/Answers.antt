use Rattle.std.proofs.Common.{◌≤◌, ◌-◌, length, length-drop, arith}
use Rattle.std.proofs.lemmas.List.{take_rest}
use Rattle.rule_lang.proofs.Scanned.{tokens-blank, tokens-lexeme, tokens-bad, tokens-end}
use Rattle.rule_lang.proofs.scan.tokens.Goals as goal

pub loop-at-preserved-in-Blank : goal.loop-at-preserved-in-Blank
loop-at-preserved-in-Blank c = record {
  within = omega arith;
  rest = tokens-blank c.args.text.now c.loop-at.at c.loop-at.tokens.items c.loop-at-test.true c.in-Blank.ensures.front c.loop-at.invariant.rest;
}

pub loop-at-preserved : goal.loop-at-preserved
loop-at-preserved c =
    let size = c.in-Lexeme.ensures.within in
    let cut = length-drop c.loop-at.at c.args.text.now in
    let within : c.in-Lexeme.size ≤ length c.args.text.now - c.loop-at.at = rw (take_rest, length-drop) at size in
    record {
      within = omega arith;
      rest = rw (c.in_ok-push-in-Lexeme.ensures.items, c.max-at.ensures) (tokens-lexeme c.args.text.now c.loop-at.at c.loop-at.tokens.items c.in-Lexeme.kind c.in-Lexeme.size c.loop-at-test.true within c.in-Lexeme.ensures.front c.loop-at.invariant.rest);
    }

pub returns-in-Bad : goal.returns-in-Bad
returns-in-Bad c =
    tokens-bad c.args.text.now c.loop-at.at c.loop-at.tokens.items c.in-Bad.error c.loop-at-test.true c.in-Bad.ensures.front c.loop-at.invariant.rest

pub returns : goal.returns
returns c = rw c.in_ok-push.ensures.items (tokens-end c.args.text.now c.loop-at.at c.loop-at.tokens.items c.loop-at.invariant.within c.loop-at-test.false c.loop-at.invariant.rest)
