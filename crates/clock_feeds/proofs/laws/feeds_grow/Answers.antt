use Rattle.std.proofs.Common.{refl}
use Rattle.clock_feeds.proofs.KeyLemmas.{grow_of, now_of, none_of}
use Rattle.clock_feeds.proofs.laws.feeds_grow.Goals as goal

pub returns-clause-grow : goal.returns-clause-grow
returns-clause-grow c = λ files hours window key before t every is_window. grow_of files hours window key every is_window key.kind refl before t

pub returns-clause-now : goal.returns-clause-now
returns-clause-now c = λ files hours window key. now_of files hours window key key.kind

pub returns-clause-none : goal.returns-clause-none
returns-clause-none c = λ files hours window key t every is_window. none_of files hours window key every is_window key.kind refl t
