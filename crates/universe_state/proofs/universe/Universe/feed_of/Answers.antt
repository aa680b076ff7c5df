use Rattle.std.proofs.Common.{◌∙◌, ap, option_map}
use Rattle.universe_state.specs.declared.member.Member.{Member}
use Rattle.universe_state.specs.Active.{feed_of}
use Rattle.universe_state.proofs.Lookups.{feed_is}
use Rattle.universe_state.proofs.universe.Universe.feed_of.Goals as goal

pub returns-in-Some : goal.returns-in-Some
returns-in-Some c =
    ap (option_map (λ (member : Member). member.feed)) c.in-Some.ensures ∙ feed_is c.args.symbol c.self.inside.members.entries
    ∙ ap (feed_of c.args.symbol) c.self.view_is

pub returns-in-None : goal.returns-in-None
returns-in-None c =
    ap (option_map (λ (member : Member). member.feed)) c.in-None.ensures ∙ feed_is c.args.symbol c.self.inside.members.entries
    ∙ ap (feed_of c.args.symbol) c.self.view_is
