use Rattle.std.proofs.Common.{◌++◌, ◌∷◌, [], length, map, ap, ◌∙◌}
use Rattle.std.specs.List.{range_with_len}
use Rattle.std.proofs.lemmas.Result.{on_ok_weaker}
use Rattle.vtl_rows.specs.Runs.{rank_at}
use Rattle.vtl_frames.specs.Ranked.{count_in}
use Rattle.vtl_frames.proofs.RankLemmas.{rank_values}
use Rattle.vtl_frames.proofs.ranks.put_ranks.Goals as goal

pub returns-clause-ok : goal.returns-clause-ok
returns-clause-ok c =
    let run = c.args.run.now in
    let peers = c.deref.ensures.value ∙ c.in_ok-peers.ensures.starts in
    let counts = c.deref-2.ensures.value ∙ c.in_ok-ranks.ensures ∙ ap (λ l. map (rank_at (0 ∷ []) l) (range_with_len 0 (length run))) peers in
    let values = ap (map (count_in c.args.p.now)) counts ∙ rank_values c.args.p.now c.args.keys.now c.args.table.now.rows run c.requires in
    on_ok_weaker c.put_counts.result (λ e. e ∙ ap (λ l. c.args.out.now.items ++ l) values) c.put_counts.ensures.ok
