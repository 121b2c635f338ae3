use Rattle.std.proofs.Common.{◌∙◌, Ok, ap, sym}
use Rattle.vtl_syntax.specs.declared.word_groups.HierOut.TheVariants as out
use Rattle.vtl_rulings.specs.HierarchyChecks.{ruled_by}
use Rattle.vtl_rulings.proofs.HierarchiesMade.{hierarchy_kept}
use Rattle.vtl_rules.proofs.HierarchyLemmas.{all_shown, has_columns}
use Rattle.vtl_rules.proofs.hierarchies.hierarchy_table.Goals as goal

pub with_others-requires-clause-columns : goal.with_others-requires-clause-columns
with_others-requires-clause-columns c = has_columns (ruled_by c.args.rules.now c.args.a.now.structure) c.args.rules.now.rules c.args.a.now.structure c.args.made.now c.requires.made

pub returns-in_ok-with_others-in-All-clause-table : goal.returns-in_ok-with_others-in-All-clause-table
returns-in_ok-with_others-in-All-clause-table c =
    let p = c.args.p.now in
    let m = c.args.manner.0 in
    let i = c.args.manner.1 in
    let rules = c.args.rules.now in
    let a = c.args.a.now in
    let s = c.args.made.now in
    let h = ruled_by rules a.structure in
    let shown = all_shown p h m i rules.rules a s c.in_ok-table.table.rows c.in_ok-table.ensures.rows ∙ ap Ok (sym c.in_ok-with_others-in-All.ensures.rows) in
    record {
      columns = c.in_ok-with_others-in-All.ensures.columns;
      points = hierarchy_kept p h m i rules.rules a.structure s a.points c.requires.made c.structure.ensures.points out.All c.in_ok-with_others-in-All.field-0.rows shown;
    }
