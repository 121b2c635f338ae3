use Rattle.std.proofs.Common.{◌∙◌, ◌<◌, List, All, length, ap, sym, subst, arith}
use Rattle.std.proofs.lemmas.List.{length-map}
use Rattle.vtl_cell.specs.declared.kind.Kind.{Kind}
use Rattle.sql_check_parts.specs.Scopes.{column_kind, row_of}
use Rattle.sql_from.specs.Columns.{kinds_at}
use Rattle.sql_groups.specs.Kept.{scope_of}
use Rattle.sql_groups.proofs.KeyLemmas.{kinds_placed, places_within}
use Rattle.sql_groups.proofs.grouping.key_table.Goals as goal

pub gathered-requires-clause-some : goal.gathered-requires-clause-some
gathered-requires-clause-some c =
    let kinds = ap (λ (l : List Kind). length l) c.in_ok-columns.ensures in
    let many = length-map c.args.group.now (column_kind (scope_of c.args.rows.now)) in
    let own = length-map c.in_ok-columns.columns.items (λ x. x.kind) in
    omega (arith, kinds, many, own, c.requires.some)

pub gathered-requires-clause-within : goal.gathered-requires-clause-within
gathered-requires-clause-within c =
    let scope = scope_of c.args.rows.now in
    subst (All (λ i. i < length (row_of scope))) (sym c.requires.places) (places_within scope c.args.group.now c.requires.seen)

pub gathered-requires-clause-kinds : goal.gathered-requires-clause-kinds
gathered-requires-clause-kinds c =
    let scope = scope_of c.args.rows.now in
    c.in_ok-columns.ensures ∙ kinds_placed scope c.args.group.now ∙ ap (λ is. kinds_at is (row_of scope)) (sym c.requires.places)
