use Rattle.data_maker.proofs.Putting.{files-put}
use Rattle.data_maker.proofs.files.put.Goals as goal

pub returns : goal.returns
returns c = files-put c.args.files.now c.insert.new.self c.args.path c.args.bytes c.in_ok-insert.ensures.updates
