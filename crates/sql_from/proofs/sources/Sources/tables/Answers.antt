use Rattle.std.proofs.Common.{◌∙◌, ◌++◌, ◌∷◌, [], map, ap, sym}
use Rattle.std.proofs.lemmas.List.{map-append}
use Rattle.vtl_rows.specs.Tables.{listed}
use Rattle.sql_from.specs.Sources.{parts_of}
use Rattle.sql_from.proofs.Parted.{take_got}
use Rattle.sql_from.proofs.sources.Sources.tables.Goals as goal

pub loop-i-preserved : goal.loop-i-preserved
loop-i-preserved c =
    let parts = parts_of c.args.self.now.sources in
    let i = c.loop-i.i in
    let t = c.table.result in
    ap (map (λ u. listed u.now)) c.in_ok-push.ensures.items ∙ map-append (λ u. listed u.now) c.loop-i.tables.items (t ∷ []) ∙ ap (λ l. l ++ listed t.now ∷ []) c.loop-i.invariant
    ∙ sym (take_got parts i (listed t.now) c.table.ensures.source)
