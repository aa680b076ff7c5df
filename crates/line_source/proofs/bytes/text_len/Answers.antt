-- What stands before a last byte is the text where that byte is a CR.
use Rattle.std.proofs.Common.{◌∷◌, [], ◌∙◌, sym, refl, le_refl}
use Rattle.std.proofs.lemmas.List.{take_at, take_all}
use Rattle.line_source.proofs.RawLemmas.{without_cr-cr, without_cr-other}
use Rattle.line_source.proofs.bytes.text_len.Goals as goal

pub returns-then-last-eq13-clause-text : goal.returns-then-last-eq13-clause-text
returns-then-last-eq13-clause-text c =
    rw (c.in-Some.ensures.cases.0, c.if-last-eq13.true)
    (take_at c.in-Some.text.now (13 ∷ []) _ refl ∙ sym (without_cr-cr c.in-Some.text.now))

pub returns-else-last-eq13-clause-text : goal.returns-else-last-eq13-clause-text
returns-else-last-eq13-clause-text c =
    take_all _ c.args.line.now (le_refl _)
    ∙ rw c.in-Some.ensures.cases.0 (sym (without_cr-other c.in-Some.text.now c.in-Some.last.now c.if-last-eq13.false))
