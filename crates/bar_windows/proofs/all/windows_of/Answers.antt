use Rattle.std.proofs.Common.{[], ◌∷◌, ◌++◌}
use Rattle.std.proofs.lemmas.List.Elements.{All-push, All-same}
use Rattle.bar_windows.specs.Kept.{Heard}
use Rattle.bar_windows.proofs.EachWindow.{made_more}
use Rattle.bar_windows.proofs.all.windows_of.Goals as goal

pub loop-spec-preserved : goal.loop-spec-preserved
loop-spec-preserved c = (
  made_more c.args.specs.now c.loop-spec.spec-index _ c.loop-spec.windows.items c.push.new.self.items c.in_ok-new.field-0 c.loop-spec-test.true
      c.loop-spec.invariant.0 c.in_ok-new.ensures.spec c.in_ok-push.ensures.items,
  All-same (Heard []) c.push.new.self.items (c.loop-spec.windows.items ++ c.in_ok-new.field-0 ∷ []) c.in_ok-push.ensures.items
      (All-push (Heard []) c.loop-spec.windows.items c.in_ok-new.field-0 c.loop-spec.invariant.1 c.in_ok-new.ensures.heard),
)
