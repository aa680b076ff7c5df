-- The line is that of the path of the file.
use Rattle.std.proofs.Common.{◌∙◌, sym, subst}
use Rattle.feed_paths.specs.Paths.{path_of}
use Rattle.report_pages.specs.Lines.{data_line, data_line_of}
use Rattle.report_pages.specs.Written.{IsAdded}
use Rattle.report_pages.proofs.WrittenLemmas.{page_added}
use Rattle.report_pages.proofs.pages.append_refusal.Goals as goal

pub returns-clause-ok : goal.returns-clause-ok
unfolding data_line
returns-clause-ok c small =
    let wrote = c.write_refusal-page-inside in
    let line : IsAdded (data_line_of (path_of c.args.kind c.args.bad.now.file) c.args.bad.now) c.page.inside.place c.deref_mut.result.now wrote.new.line wrote.result
    = subst (λ path. IsAdded (data_line_of path c.args.bad.now) c.page.inside.place c.deref_mut.result.now wrote.new.line wrote.result) (c.as_bytes.ensures.value ∙ c.in_ok-path.ensures.path small) wrote.ensures.added in
    page_added (data_line_of (path_of c.args.kind c.args.bad.now.file) c.args.bad.now) c.args.page.now c.page.inside.place wrote.result c.page.inside.bytes.len c.page.inside.bytes.items
    c.deref_mut.result.now wrote.new.line (sym c.page.view_is) c.deref_mut.ensures.value c.page.inside.bytes.ok.0 line
