use Rattle.std.proofs.Common.{subst}
use Rattle.vtl_rows.specs.Tables.{listed}
use Rattle.vtl_csv.specs.InputFile.{dataset_rows}
use Rattle.vtl_csv.specs.InputSteps.{Answers}
use Rattle.vtl_csv.proofs.InputDataSetLemmas.{dataset_of_profile, dataset_table}
use Rattle.vtl_csv.proofs.dataset.read_dataset.Goals as goal

pub returns-in-Ok-Ok-clause-points : goal.returns-in-Ok-Ok-clause-points
returns-in-Ok-Ok-clause-points c =
    let what = dataset_rows c.args.profile.now c.args.structure.now c.args.not_null.now c.args.text.now in
    let answers = subst (λ r. Answers c.args.structure.now r what) c.in-Ok-Ok.field-0-is c.in-Ok-Ok.ensures in
    dataset_table c.args.profile.now c.args.structure.now c.args.not_null.now c.args.text.now (listed c.in-Ok-Ok.table) c.requires answers.0 answers.1

pub returns-in-Ok-Ok-clause-profile : goal.returns-in-Ok-Ok-clause-profile
returns-in-Ok-Ok-clause-profile c =
    let what = dataset_rows c.args.profile.now c.args.structure.now c.args.not_null.now c.args.text.now in
    let answers = subst (λ r. Answers c.args.structure.now r what) c.in-Ok-Ok.field-0-is c.in-Ok-Ok.ensures in
    dataset_of_profile c.args.profile.now c.args.structure.now c.args.not_null.now c.args.text.now c.in-Ok-Ok.table.rows c.requires answers.1
