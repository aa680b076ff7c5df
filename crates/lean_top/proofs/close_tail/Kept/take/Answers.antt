-- One more byte goes on with the last line, or ends it.
use Rattle.std.proofs.Common.{rules, ◌≡◌, ◌==◌, true, false, drop}
use Rattle.lean_top.specs.CloseTail.{is_close}
use Rattle.lean_top.proofs.KeptLemmas.{last_line, kept-byte, kept-close, kept-line}
use Rattle.lean_top.proofs.close_tail.Kept.take.Goals as goal

pub returns-then-byte-ne10-clause-kept : goal.returns-then-byte-ne10-clause-kept
returns-then-byte-ne10-clause-kept c =
    let other : (c.args.byte == 10) ≡ false = search (rules, c.if-byte-ne10.true) in
    λ taken is. kept-byte taken c.args.self.now is c.args.byte _ other (search (rules, c.self.view_is, c.in_ok-push.ensures.items)) (search (rules, c.self.view_is))

pub returns-then-is_close-clause-kept : goal.returns-then-is_close-clause-kept
returns-then-is_close-clause-kept c =
    let lf : c.args.byte ≡ 10 = search (rules, c.if-byte-ne10.false) in
    let at = last_line c.self.inside.bytes.items c.deref.result.now c.self.inside.line c.args.self.now c.is_close.result (search (rules, c.self.view_is)) c.deref.ensures.value c.is_close.ensures in
    let closes : is_close (drop c.args.self.now.line c.args.self.now.bytes) ≡ true = search (rules, at, c.if-is_close.true) in
    λ taken is. kept-close taken c.args.self.now is c.args.byte _ lf closes (search (rules, c.clear.ensures.items)) (search rules)

pub returns-clause-kept : goal.returns-clause-kept
returns-clause-kept c =
    let lf : c.args.byte ≡ 10 = search (rules, c.if-byte-ne10.false) in
    let at = last_line c.self.inside.bytes.items c.deref.result.now c.self.inside.line c.args.self.now c.is_close.result (search (rules, c.self.view_is)) c.deref.ensures.value c.is_close.ensures in
    let not : is_close (drop c.args.self.now.line c.args.self.now.bytes) ≡ false = search (rules, at, c.if-is_close.false) in
    λ taken is. kept-line taken c.args.self.now is c.args.byte _ lf not (search (rules, c.self.view_is, c.in_ok-push-2.ensures.items)) (search (rules, c.len-self-inside.ensures))
