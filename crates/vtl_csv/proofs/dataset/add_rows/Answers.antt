use Rattle.std.proofs.Common.{◌≡◌, ◌∷◌, [], Some, None, option_map, length, ap, ◌∙◌, subst, rules}
use Rattle.std.specs.Bool.{OnTrue}
use Rattle.vtl_rows.specs.Tables.{fits}
use Rattle.vtl_csv.specs.InputSteps.{flaw_of, taken_with}
use Rattle.vtl_csv.proofs.TakenLemmas.{adds_to_none, taken_more, taken_stops}
use Rattle.vtl_csv.proofs.dataset.add_rows.Goals as goal

pub loop-cells-init : goal.loop-cells-init
loop-cells-init c = record {
  as_many = search rules;
  columns = c.requires.columns;
  empty = search rules;
  taken = ap (λ rows. taken_with c.args.profile.now c.args.columns.now rows c.args.reader.now) c.requires.none;
}

pub push_moved-requires : goal.push_moved-requires
push_moved-requires c =
    let p = c.args.profile.now in
    let xs = c.args.columns.now in
    let rows = c.loop-cells.table.rows in
    let fields = c.next.new.fields in
    let after = c.fill_row.new.cells.items in
    let one = subst (λ b. OnTrue b (c.loop-cells.reader ≡ fields ∷ c.next.new.self)) c.if-branch.true c.in_ok-next.ensures.found in
    let adds = adds_to_none p xs fields c.loop-cells.cells.items after (option_map flaw_of c.in_ok-fill_row.field-0) None c.len-count.result (length rows) c.loop-cells.invariant.empty (ap (option_map flaw_of) c.in-None.is) c.len-count.ensures.rows c.in_ok-fill_row.ensures in
    ap (λ cs. fits cs after) c.loop-cells.invariant.columns ∙ (taken_more p xs rows c.loop-cells.reader c.next.new.self c.args.reader.now fields c.loop-cells.invariant.taken one after adds).0

pub loop-cells-preserved : goal.loop-cells-preserved
loop-cells-preserved c =
    let p = c.args.profile.now in
    let xs = c.args.columns.now in
    let rows = c.loop-cells.table.rows in
    let fields = c.next.new.fields in
    let after = c.fill_row.new.cells.items in
    let one = subst (λ b. OnTrue b (c.loop-cells.reader ≡ fields ∷ c.next.new.self)) c.if-branch.true c.in_ok-next.ensures.found in
    let adds = adds_to_none p xs fields c.loop-cells.cells.items after (option_map flaw_of c.in_ok-fill_row.field-0) None c.len-count.result (length rows) c.loop-cells.invariant.empty (ap (option_map flaw_of) c.in-None.is) c.len-count.ensures.rows c.in_ok-fill_row.ensures in
    let more = taken_more p xs rows c.loop-cells.reader c.next.new.self c.args.reader.now fields c.loop-cells.invariant.taken one after adds in
    record {
      as_many = search rules;
      columns = c.push_moved.ensures.columns ∙ c.loop-cells.invariant.columns;
      empty = c.in_ok-push_moved-in-None.ensures.moved;
      taken = ap (λ l. taken_with p xs l c.next.new.self) c.in_ok-push_moved-in-None.ensures.rows ∙ more.1;
    }

pub returns-in-Some-clause-rows : goal.returns-in-Some-clause-rows
returns-in-Some-clause-rows c =
    let p = c.args.profile.now in
    let xs = c.args.columns.now in
    let rows = c.loop-cells.table.rows in
    let fields = c.next.new.fields in
    let after = c.fill_row.new.cells.items in
    let flaw = flaw_of c.in-Some.flaw in
    let one = subst (λ b. OnTrue b (c.loop-cells.reader ≡ fields ∷ c.next.new.self)) c.if-branch.true c.in_ok-next.ensures.found in
    let adds = adds_to_none p xs fields c.loop-cells.cells.items after (option_map flaw_of c.in_ok-fill_row.field-0) (Some flaw) c.len-count.result (length rows) c.loop-cells.invariant.empty (ap (option_map flaw_of) c.in-Some.is) c.len-count.ensures.rows c.in_ok-fill_row.ensures in
    taken_stops p xs rows c.loop-cells.reader c.next.new.self c.args.reader.now fields c.loop-cells.invariant.taken one after flaw adds
