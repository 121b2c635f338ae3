use Rattle.std.proofs.Common.{◌<◌, ◌≤◌, ◌∙◌, ◌++◌, ap, sym, subst, length, take, arith, List, ℕ}
use Rattle.std.specs.List.{flat_map, range_with_len}
use Rattle.std.proofs.lemmas.List.{take_all}
use Rattle.vtl_cell.specs.Row.{Row}
use Rattle.vtl_index.specs.Seekers.{Sought, is_any_meant}
use Rattle.vtl_tree.specs.DataSet.{IsDataSet}
use Rattle.vtl_tree.specs.Structure.{key_width}
use Rattle.vtl_tree.specs.declared.structure.Structure.{Structure}
use Rattle.vtl_meaning.proofs.SetsKept.{existence_kept}
use Rattle.vtl_combine.specs.Existence.{answered, sought_common}
use Rattle.vtl_combine.proofs.AnswerLemmas.{answer_told}
use Rattle.vtl_combine.proofs.ChosenLemmas.{each_more}
use Rattle.vtl_combine.proofs.ExistenceLemmas.{answer_fits_at, existence_is}
use Rattle.vtl_combine.proofs.existence.existence_table.Goals as goal

pub push_answer-requires : goal.push_answer-requires
push_answer-requires g c = λ h.
    let d = c.args.a.now in
    let e = c.args.b.now in
    let rows = c.table-table.result.now.rows in
    let within : c.loop-i.i < length rows = omega (arith, c.len-i-end.ensures.rows, c.loop-i-test.true) in
    let ids = c.deref.ensures.value ∙ c.in_ok-identifiers.ensures ∙ ap (λ (x : Structure). range_with_len 0 (key_width x)) c.structure-2.ensures.structure in
    let found = c.in_ok-seeker.ensures ∙ ap (λ (x : Structure). sought_common x e) c.structure.ensures.structure in
    let told = answer_told c.in_ok-seeker.seeker rows c.in_ok-answers.answers.items c.loop-i.i c.index.result.now c.row-row.result.now within c.in_ok-answers.ensures c.index.ensures c.row-row.ensures.row in
    answer_fits_at d e c.args.retain c.args.made.now rows c.loop-i.i c.row-row.result.now c.loop-i.out.columns c.deref.result.now c.in_ok-seeker.seeker c.index.result.now c.requires.made c.table-table.ensures.table.points within c.row-row.ensures.row
    c.loop-i.invariant.columns ids found told h

pub loop-i-preserved : goal.loop-i-preserved
loop-i-preserved g c =
    let kept = c.args.retain in
    let rows = c.table-table.result.now.rows in
    let r = c.row-row.result.now in
    let ids = c.in_ok-identifiers.identifiers.items in
    let x = c.in_ok-seeker.seeker in
    let f = λ (q : Row). answered kept ids q (is_any_meant x q) in
    let before = flat_map f (take c.loop-i.i rows) in
    let within : c.loop-i.i < length rows = omega (arith, c.len-i-end.ensures.rows, c.loop-i-test.true) in
    let told = answer_told x rows c.in_ok-answers.answers.items c.loop-i.i c.index.result.now r within c.in_ok-answers.ensures c.index.ensures c.row-row.ensures.row in
    record {
      columns = c.push_answer.ensures.columns ∙ c.loop-i.invariant.columns;
      rows =
          c.in_ok-push_answer.ensures.rows ∙ ap (λ l. l ++ answered kept c.deref.result.now r c.index.result.now) c.loop-i.invariant.rows
          ∙ ap (λ ps. before ++ answered kept ps r c.index.result.now) c.deref.ensures.value ∙ ap (λ b. before ++ answered kept ids r b) told
          ∙ sym (each_more f rows c.loop-i.i r within c.row-row.ensures.row);
    }

pub returns-clause-rows : goal.returns-clause-rows
returns-clause-rows g c =
    let d = c.args.a.now in
    let e = c.args.b.now in
    let kept = c.args.retain in
    let rows = c.table-table.result.now.rows in
    let x = c.in_ok-seeker.seeker in
    let past : length rows ≤ c.loop-i.i = omega (arith, c.len-i-end.ensures.rows, c.loop-i-test.false) in
    let ids = c.in_ok-identifiers.ensures ∙ ap (λ (y : Structure). range_with_len 0 (key_width y)) c.structure-2.ensures.structure in
    let found = c.in_ok-seeker.ensures ∙ ap (λ (y : Structure). sought_common y e) c.structure.ensures.structure in
    c.loop-i.invariant.rows ∙ ap (λ (l : List Row). flat_map (λ (q : Row). answered kept c.in_ok-identifiers.identifiers.items q (is_any_meant x q)) l) (take_all c.loop-i.i rows past ∙ c.table-table.ensures.points)
    ∙ ap (λ (ps : List ℕ). flat_map (λ (q : Row). answered kept ps q (is_any_meant x q)) d.points) ids
    ∙ ap (λ (y : Sought). flat_map (λ (q : Row). answered kept (range_with_len 0 (key_width d.structure)) q (is_any_meant y q)) d.points) found
    ∙ existence_is d e kept c.structure.ensures.points.typed

pub returns-clause-table : goal.returns-clause-table
returns-clause-table g c = record {
  columns = c.loop-i.invariant.columns;
  points = subst (λ l. IsDataSet c.args.made.now l) (sym (returns-clause-rows g c)) (existence_kept c.args.a.now c.args.b.now c.args.retain c.args.made.now c.requires.made c.structure.ensures.points);
}
