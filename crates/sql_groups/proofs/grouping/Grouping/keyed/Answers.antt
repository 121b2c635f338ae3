use Rattle.std.proofs.Common.{◌≡◌, ◌∙◌, ℕ, List, [], ap, arith, length, map, sym}
use Rattle.std.proofs.lemmas.List.{length-map}
use Rattle.vtl_rows.specs.Tables.{cells_at}
use Rattle.vtl_index.specs.Leads.{leads_of}
use Rattle.sql_meaning.specs.Values.{place_in}
use Rattle.sql_groups.specs.Grouped.{groups_led}
use Rattle.sql_groups.specs.Kept.{rows_of, scope_of}
use Rattle.sql_groups.proofs.GroupLemmas.{found_leads, keyed_groups}
use Rattle.sql_groups.proofs.grouping.Grouping.keyed.Goals as goal

pub invariant_of-result : goal.invariant_of-result
invariant_of-result c = found_leads c.deref.result.now (rows_of c.args.rows.now) c.in_ok-groups.groups c.in_ok-groups.ensures

pub returns : goal.returns
returns c =
    let rows = rows_of c.args.rows.now in
    let places : List ℕ = map (place_in (scope_of c.args.rows.now)) c.args.group.now in
    let many : length places ≡ length c.args.group.now = length-map c.args.group.now (place_in (scope_of c.args.rows.now)) in
    let some : places ≡ [] → ⊥ = λ e. let l = ap length e in omega (arith, l, many, c.requires.some) in
    let found = c.in_ok-groups.ensures ∙ ap (λ ps. leads_of (cells_at ps) rows) (c.deref.ensures.value ∙ c.in_ok-places.ensures) in
    keyed_groups places rows c.in_ok-groups.groups _ some found (ap (λ ps. groups_led ps rows c.in_ok-groups.groups) (sym c.in_ok-places.ensures))
