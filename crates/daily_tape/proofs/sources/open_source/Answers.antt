-- What the file says is all still to come.
use Rattle.std.proofs.Common.{◌≡◌, ◌∙◌, subst, Some}
use Rattle.std.specs.Prelude.{option_map}
use Rattle.line_source.specs.Lines.{lines}
use Rattle.daily_tape.specs.DailyFile.{daily_path, file_sheet}
use Rattle.daily_tape.specs.Head.{IfKnown}
use Rattle.daily_tape.specs.Source.{to_come}
use Rattle.daily_tape.proofs.SourceLemmas.{known_first}
use Rattle.daily_tape.proofs.sources.open_source.Goals as goal

pub returns-clause-told : goal.returns-clause-told
returns-clause-told g c f files =
    let told : g.F.H.Hand.files c.in_ok-hand.hand ≡ Some f = c.in_ok-hand.ensures.told ∙ files in
    let path : c.as_str.result.now ≡ daily_path c.args.symbol.now = c.as_str.ensures.value ∙ c.in_ok-path.ensures in
    let known : IfKnown c.open.result.head (file_sheet (option_map lines (f (daily_path c.args.symbol.now))) ≡ to_come g.F.H.Hand.rest c.open.result)
    = subst (λ p. IfKnown c.open.result.head (file_sheet (option_map lines (f p)) ≡ to_come g.F.H.Hand.rest c.open.result)) path (c.open.ensures.told f told) in
    record {
      symbol = c.open.ensures.symbol;
      told = c.open.ensures.kept ∙ told;
      known = known_first g.F.H.Hand.rest c.open.result (option_map lines (f (daily_path c.args.symbol.now))) known;
    }
