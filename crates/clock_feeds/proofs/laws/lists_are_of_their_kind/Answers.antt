use Rattle.std.proofs.lemmas.List.Elements.{All-from_recursion}
use Rattle.clock_feeds.specs.Feeds.{feed}
use Rattle.clock_feeds.specs.Lists.{IsOfKind}
use Rattle.clock_feeds.proofs.KeyLemmas.{of_kind}
use Rattle.clock_feeds.proofs.laws.lists_are_of_their_kind.Goals as goal

pub returns : goal.returns
returns c = λ files hours window key. All-from_recursion (IsOfKind key.kind) (feed files hours window key) (of_kind files hours window key key.kind)
