use Rattle.rule_lang.specs.Tree.{windows_in, windows_under}
use Rattle.rule_lang.specs.Nodes.{IsPlaced, ArePlaced}
use Rattle.rule_lang.proofs.Added.{adds-both}
use Rattle.rule_lang.proofs.node.binary.Goals as goal

pub returns-in_ok-right-in-Ok-clause-adds : goal.returns-in_ok-right-in-Ok-clause-adds
unfolding windows_under
returns-in_ok-right-in-Ok-clause-adds c = λ old between new l r. rw (c.in_ok-left-in-Ok.ensures.ok, c.in_ok-right-in-Ok.ensures.ok) (adds-both (ArePlaced c.in-Ok.left) (ArePlaced c.in-Ok.right) _ _ old between new (c.in-Ok.ensures.adds old between new l r))

pub returns-in_ok-right-in-Ok-conditions-clause-adds : goal.returns-in_ok-right-in-Ok-conditions-clause-adds
unfolding windows_under
returns-in_ok-right-in-Ok-conditions-clause-adds c = λ old between new l r. rw (c.in_ok-left-in-Ok-conditions.ensures.ok, c.in_ok-right-in-Ok-conditions.ensures.ok) (adds-both (ArePlaced c.in-Ok-conditions.left) (ArePlaced c.in-Ok-conditions.right) _ _ old between new (c.in-Ok-conditions.ensures.adds old between new l r))

pub returns-in-Ok-amounts-clause-adds : goal.returns-in-Ok-amounts-clause-adds
unfolding windows_under
returns-in-Ok-amounts-clause-adds c = λ old between new l r. adds-both (IsPlaced c.in-Ok-amounts.left) (IsPlaced c.in-Ok-amounts.right) _ _ old between new (c.in-Ok-amounts.ensures.adds old between new l r)

pub returns-in_ok-right-in-Ok-amounts-2-clause-adds : goal.returns-in_ok-right-in-Ok-amounts-2-clause-adds
unfolding windows_in
returns-in_ok-right-in-Ok-amounts-2-clause-adds c = λ old between new l r. rw (c.in_ok-left-in-Ok-amounts-2.ensures.ok, c.in_ok-right-in-Ok-amounts-2.ensures.ok) (adds-both (IsPlaced c.in-Ok-amounts-2.left) (IsPlaced c.in-Ok-amounts-2.right) _ _ old between new (c.in-Ok-amounts-2.ensures.adds old between new l r))
