-- Each word is a symbol that differs from those before it, or the words are refused.
use Rattle.std.proofs.Common.{◌<◌, length, map, sym, ◌∙◌, string_bytes}
use Rattle.std.proofs.lemmas.List.{length-map}
use Rattle.lean_top.proofs.WordLemmas.{no_symbol, stands_twice, differs_too, symbol_too, refused, accepted, text_at, more}
use Rattle.lean_top.proofs.words.read_different.Goals as goal

pub returns-in_default : goal.returns-in_default
returns-in_default c =
    let texts = map string_bytes c.args.words.now in
    let within : c.loop-word.word-index < length texts = rw (length-map c.args.words.now string_bytes) c.loop-word-test.true in
    no_symbol texts c.loop-word.word-index (string_bytes c.word-item.result) within (text_at c.args.words.now c.loop-word.word-index c.word-item.result c.word-item.is)
    (rw (← c.as_bytes.ensures.value) (refused _ _ c.in_default.ensures))

pub returns-then-contains : goal.returns-then-contains
returns-then-contains c =
    let texts = map string_bytes c.args.words.now in
    let within : c.loop-word.word-index < length texts = rw (length-map c.args.words.now string_bytes) c.loop-word-test.true in
    let taken = (accepted _ _ _ c.in-Some.ensures).1 ∙ c.as_bytes.ensures.value in
    stands_twice texts c.loop-word.word-index (string_bytes c.word-item.result) within (text_at c.args.words.now c.loop-word.word-index c.word-item.result c.word-item.is)
    (rw (← taken, ← c.loop-word.invariant.kept, ← c.deref.ensures.value) (sym c.if-contains.ensures.value))

pub loop-word-preserved : goal.loop-word-preserved
loop-word-preserved c =
    let texts = map string_bytes c.args.words.now in
    let i = c.loop-word.word-index in
    let at = text_at c.args.words.now i c.word-item.result c.word-item.is in
    let within : i < length texts = rw (length-map c.args.words.now string_bytes) c.loop-word-test.true in
    let taken = (accepted _ _ _ c.in-Some.ensures).1 ∙ c.as_bytes.ensures.value in
    let kept = c.in_ok-push.ensures.items ∙ rw (c.loop-word.invariant.kept, taken) (sym (more texts i (string_bytes c.word-item.result) within at)) in
    let is_symbol' = (accepted _ _ _ c.in-Some.ensures).0 in
    record {
      kept = kept;
      symbols = rw kept (symbol_too texts i (string_bytes c.word-item.result) within at (rw (← c.loop-word.invariant.kept) c.loop-word.invariant.symbols) (rw (← c.as_bytes.ensures.value) is_symbol'));
      differ = rw kept (differs_too texts i (string_bytes c.word-item.result) within at (rw (← c.loop-word.invariant.kept) c.loop-word.invariant.differ)
          (rw (← taken, ← c.loop-word.invariant.kept, ← c.deref.ensures.value) (sym c.if-contains.ensures.value)));
    }
