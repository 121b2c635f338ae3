use Rattle.std.proofs.Common.{ap, sym, ◌∙◌}
use Rattle.csv.specs.Reading.{default_config, records}
use Rattle.vtl_csv.proofs.PlainLineLemmas.{no_line}
use Rattle.vtl_csv.proofs.records.take_front.Goals as goal

pub returns-then-is_empty : goal.returns-then-is_empty
returns-then-is_empty c =
    ap (records default_config) (sym c.without_bom.ensures) ∙ sym c.without_blank_lines-line.ensures.records
    ∙ no_line c.without_blank_lines-line.result.now (sym c.is_empty.ensures ∙ c.if-is_empty.true)
