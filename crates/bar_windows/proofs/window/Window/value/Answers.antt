use Rattle.std.proofs.Common.{sym, ◌∙◌}
use Rattle.bar_windows.proofs.Hears.{extreme_value}
use Rattle.bar_windows.proofs.window.Window.value.Goals as goal

pub returns-in-Candidates : goal.returns-in-Candidates
returns-in-Candidates c =
    c.extreme.ensures
    ∙ extreme_value c.args.self.now.spec.func c.args.self.now.spec.length c.args.closes.now.items c.in-Candidates.candidates
    c.requires.length.0 (sym c.in-Candidates.is ∙ c.requires.kept)
