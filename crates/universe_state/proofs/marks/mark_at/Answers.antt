use Rattle.std.proofs.Common.{ap, not, ◌&&◌, ◌∙◌}
use Rattle.indexmap.proofs.CallerLemmas.{index_map_len-with_value_at}
use Rattle.universe_state.specs.declared.member.Member.{Member}
use Rattle.universe_state.proofs.Marking.{marked_at}
use Rattle.universe_state.proofs.marks.mark_at.Goals as goal

pub returns-clause-len : goal.returns-clause-len
returns-clause-len c = index_map_len-with_value_at c.args.members.now c.args.index _

pub returns-clause-marked : goal.returns-clause-marked
returns-clause-marked c =
    let member : Member = c.pair_mut-member.result.1.now in
    marked_at c.args.symbols.now c.args.members.now.entries c.args.index (c.pair_mut-member.result.0.now, member) _ c.pair_mut-member.ensures.value
    (ap (λ b. let m : Member = record member { marked = b } in m)
    (c.is_to_leave-member.ensures ∙ ap (λ s. not member.listed && not s) c.is_selected.ensures))
