use Rattle.std.proofs.Common.{refl}
use Rattle.row_feed.proofs.CourseLemmas.{leaves-first}
use Rattle.row_feed.proofs.course.Course.new.Goals as goal

pub returns-clause-leaves : goal.returns-clause-leaves
returns-clause-leaves c f lines = leaves-first f _ lines refl refl refl
