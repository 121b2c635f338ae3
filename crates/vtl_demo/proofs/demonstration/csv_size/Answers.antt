use Rattle.std.proofs.Common.{◌∙◌, ap, length}
use Rattle.vtl_csv.specs.CsvText.{csv_of}
use Rattle.vtl_demo.proofs.demonstration.csv_size.Goals as goal

pub returns : goal.returns
returns c =
    c.len.ensures ∙ c.in_ok-write_dataset.field-0.ok.0
    ∙ ap length (c.in_ok-write_dataset.ensures ∙ ap (λ p. csv_of p c.args.structure.now c.args.table.now.rows) (c.profile.ensures ∙ c.requires.settings))
