use Rattle.std.proofs.Common.{◌<◌, ◌≤◌, length, arith, ap, ◌∙◌, refl}
use Rattle.std.proofs.Math.Seq.{map-set_same}
use Rattle.bar_windows.specs.Recent.{spec_of}
use Rattle.bar_windows.proofs.EachWindow.{heard_none, heard_more, heard_all}
use Rattle.bar_windows.proofs.all.hear_all.Goals as goal

pub loop-i-init : goal.loop-i-init
loop-i-init c = (refl, refl, heard_none c.args.closes.now.items c.args.close c.args.windows.now.items c.requires.heard)

pub loop-i-preserved : goal.loop-i-preserved
loop-i-preserved c =
    let within : c.loop-i.i < length c.loop-i.windows.items =
    omega (arith, c.loop-i-test.true, c.len-i-end.ensures, c.loop-i.invariant.1, c.loop-i.windows.ok.0) in (
      map-set_same spec_of c.loop-i.windows.items c.loop-i.i c.hear.new.self c.index_mut-window.result.now (c.hear.ensures.spec ∙ ap spec_of c.index_mut-window.ensures.value) ∙ c.loop-i.invariant.0,
      c.loop-i.invariant.1,
      heard_more c.args.closes.now.items c.args.close c.loop-i.i c.loop-i.windows.items c.hear.new.self within c.loop-i.invariant.2 c.hear.ensures.heard,
    )

pub returns-clause-heard : goal.returns-clause-heard
returns-clause-heard c =
    let end : length c.loop-i.windows.items ≤ c.loop-i.i =
    omega (arith, c.loop-i-test.false, c.len-i-end.ensures, c.loop-i.invariant.1, c.loop-i.windows.ok.0) in
    heard_all c.args.closes.now.items c.args.close c.loop-i.i c.loop-i.windows.items end c.loop-i.invariant.2
