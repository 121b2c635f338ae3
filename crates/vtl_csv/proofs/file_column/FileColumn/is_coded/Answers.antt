use Rattle.std.proofs.Common.{ap, ◌∙◌}
use Rattle.std.specs.List.{list_any}
use Rattle.vtl_tree.specs.Structure.{same_name}
use Rattle.vtl_csv.specs.InputFields.{is_coded}
use Rattle.vtl_csv.proofs.SortedCodeLemmas.{coded_is}
use Rattle.vtl_csv.proofs.file_column.FileColumn.is_coded.Goals as goal

pub returns-in-Text-Some : goal.returns-in-Text-Some
returns-in-Text-Some c =
    let found = coded_is c.self.inside.component.now c.in-Text-Some.field-0-1 c.self.inside.codes.items c.in-Text-Some.text c.args.cell.now c.in-Text-Some.is-0 c.in-Text-Some.is-1 c.self.invariant.same in
    c.is_among.ensures ∙ ap (list_any (same_name c.in-Text-Some.text)) c.deref.ensures.value ∙ found ∙ ap (λ x. is_coded x.component c.args.cell.now) c.self.view_is
