use Rattle.std.proofs.Common.{◌≡◌, ◌∙◌, ◌++◌, ◌∷◌, [], ap, arith, length, sym}
use Rattle.vtl_rows.specs.Named.{NamedTables}
use Rattle.sql_from.specs.FromTables.{maybe_given}
use Rattle.sql_from.specs.Keys.{last_of as last_source}
use Rattle.sql_from.specs.Sources.{Sourced, table_given}
use Rattle.sql_from.proofs.Standing.{first_stands, last_counted, with_table}
use Rattle.sql_from.proofs.selects.first_source.Goals as goal

pub returns-clause-stands : goal.returns-clause-stands
returns-clause-stands c =
    let held = c.args.tables.now in
    let source = c.args.source.now in
    let new : Sourced = c.in_ok-sources.sources in
    let h : new.held ≡ held = c.in_ok-sources.ensures.held ∙ c.over.ensures.held in
    let made : new.sources ≡ (source.alias, table_given held source) ∷ [] =
    c.in_ok-sources.ensures.sources ∙ (λ i. c.over.ensures.sources i ++ (source.alias, table_given (c.over.ensures.held i) source) ∷ []) in
    let is : new ≡ with_table (record { held = held; sources = [] }) source = λ i. record { held = h i; sources = made i } in
    λ p. first_stands p held source c.in_ok-singles.field-0 new c.last_count-count.result c.requires.typed is c.in_ok-sources.ensures.wide
    (c.last_count-count.ensures ∙ ap (λ z. length (last_source z).rows) is ∙ last_counted (record { held = held; sources = [] }) source c.requires.typed) c.in_ok-singles.ensures.width c.in_ok-singles.ensures.tuples

pub last_count-count-requires : goal.last_count-count-requires
last_count-count-requires c =
    let held = c.args.tables.now in
    let source = c.args.source.now in
    let made : c.in_ok-sources.sources.sources ≡ (source.alias, table_given held source) ∷ [] =
    c.in_ok-sources.ensures.sources ∙ (λ i. c.over.ensures.sources i ++ (source.alias, table_given (c.over.ensures.held i) source) ∷ []) in
    let one = ap (λ (ss : NamedTables). length ss) made in
    omega (arith, one)

pub with-requires-clause-table : goal.with-requires-clause-table
with-requires-clause-table c = c.requires.table ∙ ap (λ (held : NamedTables). maybe_given held c.args.source.now) (sym c.over.ensures.held)
