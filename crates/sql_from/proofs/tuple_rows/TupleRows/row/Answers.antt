use Rattle.std.proofs.Common.{◌≡◌, ◌∙◌, ◌++◌, ◌∷◌, [], get_or, sym}
use Rattle.std.proofs.lemmas.List.{get_or-map, get_or_default}
use Rattle.sql_from.specs.Rows.{combined}
use Rattle.sql_from.specs.Sources.{parts_of}
use Rattle.sql_from.proofs.tuple_rows.TupleRows.row.Goals as goal

pub returns-clause-row : goal.returns-clause-row
returns-clause-row c =
    let tuples = c.args.self.now.tuples.tuples in
    let parts = parts_of c.args.self.now.sources.sources in
    let tuple : c.whole.result.front.now ++ c.whole.result.last ∷ [] ≡ get_or tuples c.args.i [] =
    c.whole.ensures.tuple ∙ c.tuple.ensures.tuple ∙ get_or_default tuples c.args.i c.tuple.result.now [] c.requires in
    (λ i. combined (parts_of (c.whole.ensures.sources i).sources) (tuple i)) ∙ sym (get_or-map (combined parts) tuples c.args.i [] [] c.requires)
