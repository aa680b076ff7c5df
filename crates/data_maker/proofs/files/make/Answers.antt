use Rattle.std.proofs.Common.{◌∙◌, string_bytes}
use Rattle.lean_io.specs.MemFolder.{map_files}
use Rattle.data_maker.proofs.Putting.{files-none, all-put}
use Rattle.data_maker.proofs.files.make.Goals as goal

pub returns-clause-files : goal.returns-clause-files
returns-clause-files c =
    c.in_ok-folder.ensures.files
    ∙ all-put c.args.number (map_files c.new-files.result) (map_files c.put.new.files) (map_files c.put_securities.new.files) (map_files c.put-2.new.files) (string_bytes c.in_ok-hours_path.field-0) c.in_ok-hours_bytes.field-0.items (string_bytes c.in_ok-plan_path.field-0) c.in_ok-plan_bytes.field-0.items (files-none c.new-files.result c.new-files.ensures.empty) c.in_ok-hours_path.ensures c.in_ok-hours_bytes.ensures c.in_ok-plan_path.ensures c.in_ok-plan_bytes.ensures c.in_ok-put.ensures c.in_ok-put_securities.ensures c.in_ok-put-2.ensures
