use Rattle.std.proofs.Common.{◌≡◌, ◌-◌, ◌++◌, ap, sym, ◌∙◌, length, take, map, unsigned_abs}
use Rattle.std.specs.Prelude.{nat_lt}
use Rattle.std.proofs.lemmas.List.{length-map}
use Rattle.universe_state.specs.Choice.{most_active, additions, room}
use Rattle.clock_run.specs.Lines.{added}
use Rattle.backtest_core.specs.Inside.{actives_in}
use Rattle.backtest_core.specs.Watching.{active_in}
use Rattle.backtest_core.specs.Leaving.{new_among, new_beside}
use Rattle.backtest_core.specs.Text.{lines_bytes}
use Rattle.backtest_core.proofs.CoreLemmas.{actives-watched}
use Rattle.backtest_core.proofs.standing.Core.add.Goals as goal

pub returns-clause-adds : goal.returns-clause-adds
returns-clause-adds c = λ t v distinct s.
    let symbols = c.args.symbols.now in
    let ws = c.args.self.now.watched.items in
    let us = actives_in v in
    let actives : map active_in ws ≡ us = actives-watched t ws v.followed s.watched in
    let wanted : c.add_new.new.out.items ≡ additions symbols us =
    c.in_ok-add_new.ensures
    ∙ (ap (λ l. l ++ new_among c.deref.result.now symbols) c.new-news.ensures.items
    ∙ (ap (λ l. new_among l symbols) c.deref.ensures.value
    ∙ (ap (λ l. new_beside l symbols) actives
    ∙ sym (c.additions_come_last.ensures.all symbols us distinct)))) in
    let len : c.len.result ≡ length us =
    c.len.ensures ∙ (c.args.self.now.watched.ok.0 ∙ (sym (length-map ws active_in) ∙ ap length actives)) in
    let news : c.cut_news-over.new.news.items ≡ take (room us) (additions symbols us) =
    c.cut_news-over.ensures.news
    ∙ (ap (λ n. take (most_active - n) c.add_new.new.out.items) len ∙ ap (take (room us)) wanted) in
    let at : unsigned_abs c.args.self.now.commands.at.0 ≡ t = ap (λ m. unsigned_abs m.0) s.at in (
      record {
        keeps = record {
          plan = s.keeps.plan;
          hours = s.keeps.hours;
          table = s.keeps.table;
          windows = c.mark_all.ensures.windows c.args.self.now.table.specs.items s.keeps.windows;
          waiting = s.keeps.waiting;
          seen = s.keeps.seen;
          requests = s.keeps.requests;
        };
        watched = c.mark_all.ensures.marks t v.followed s.watched;
        at = s.at;
        phase = s.phase;
        left = s.left;
        over = s.over;
        news = news;
        text = c.in_ok-tell_added.ensures
            ∙ (ap (λ l. l ++ lines_bytes (map (added (unsigned_abs c.args.self.now.commands.at.0)) c.deref-2.result.now)) s.text
            ∙ (ap (λ n. lines_bytes (map (added n) c.deref-2.result.now)) at
            ∙ ap (λ l. lines_bytes (map (added t) l)) (c.deref-2.ensures.value ∙ news)));
      },
      c.cut_news-over.ensures.over
          ∙ (ap (λ n. nat_lt (most_active - n) (length c.add_new.new.out.items)) len
          ∙ ap (λ l. nat_lt (room us) (length l)) wanted),
    )
