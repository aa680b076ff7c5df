use Rattle.std.proofs.Common.{◌∙◌, ap, Option, false}
use Rattle.std.specs.Option.{option_map_or}
use Rattle.universe_state.specs.declared.member.Member.{Member}
use Rattle.universe_state.specs.Active.{is_marked}
use Rattle.universe_state.proofs.Lookups.{marked_is}
use Rattle.universe_state.proofs.universe.Universe.is_marked.Goals as goal

pub returns-in-Some : goal.returns-in-Some
returns-in-Some c =
    ap (λ (o : Option Member). option_map_or (λ (member : Member). member.marked) o false) c.in-Some.ensures
    ∙ marked_is c.args.symbol c.self.inside.members.entries ∙ ap (is_marked c.args.symbol) c.self.view_is

pub returns-in-None : goal.returns-in-None
returns-in-None c =
    ap (λ (o : Option Member). option_map_or (λ (member : Member). member.marked) o false) c.in-None.ensures
    ∙ marked_is c.args.symbol c.self.inside.members.entries ∙ ap (is_marked c.args.symbol) c.self.view_is
