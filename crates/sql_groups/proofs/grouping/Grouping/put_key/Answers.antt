use Rattle.std.proofs.Common.{◌≡◌, ◌<◌, ◌++◌, ◌∙◌, length, get_or, sym, ap, subst, arith}
use Rattle.std.specs.Prelude.{OnOk}
use Rattle.vtl_cell.specs.Row.{Row}
use Rattle.vtl_rows.specs.Places.{row_at}
use Rattle.vtl_rows.specs.Tables.{cells_at}
use Rattle.sql_groups.specs.Grouped.{IsLaidOut, grouped_in}
use Rattle.sql_groups.specs.Kept.{rows_of}
use Rattle.sql_groups.proofs.GroupLemmas.{first_led_within, key_led, some_led}
use Rattle.sql_groups.proofs.grouping.Grouping.put_key.Goals as goal

pub bounds-rows-0 : goal.bounds-rows-0
bounds-rows-0 c =
    let rows = rows_of c.self.inside.rows.now in
    let laid = subst (IsLaidOut rows) c.in-Keyed.is c.self.invariant in
    let some = some_led c.in-Keyed.places.items rows c.in-Keyed.groups c.args.self.now c.args.group (ap (grouped_in rows) (sym c.in-Keyed.is) ∙ c.self.view_is) laid c.requires in
    let all = ap length c.rows.ensures in
    omega (arith, some, all)

pub push_key-requires : goal.push_key-requires
push_key-requires c =
    let rows = rows_of c.self.inside.rows.now in
    let laid = subst (IsLaidOut rows) c.in-Keyed.is c.self.invariant in
    let within = first_led_within c.in-Keyed.places.items rows c.in-Keyed.groups c.args.self.now c.args.group (ap (grouped_in rows) (sym c.in-Keyed.is) ∙ c.self.view_is) laid c.requires in
    subst (λ ns. get_or ns 0 0 < length rows) (sym c.rows.ensures) within

pub returns-in-Keyed : goal.returns-in-Keyed
returns-in-Keyed c =
    let rows = rows_of c.self.inside.rows.now in
    let places = c.in-Keyed.places.items in
    let laid = subst (IsLaidOut rows) c.in-Keyed.is c.self.invariant in
    let led = key_led places rows c.in-Keyed.groups c.args.self.now c.args.group (ap (grouped_in rows) (sym c.in-Keyed.is) ∙ c.self.view_is) laid c.requires in
    subst (λ (k : Row). OnOk c.push_key.result (c.push_key.new.key.items ≡ k))
    ((λ n. c.clear.ensures.items n ++ cells_at (c.deref.ensures.value n) (row_at rows (get_or (c.rows.ensures n) 0 0))) ∙ led)
    c.push_key.ensures
