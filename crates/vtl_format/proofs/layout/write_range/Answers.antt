use Rattle.std.proofs.Common.{◌++◌, ap, string_bytes}
use Rattle.std.specs.List.{slice_range}
use Rattle.std.proofs.lemmas.Result.{IfOk-equal}
use Rattle.vtl_format.proofs.Lists.{pushed}
use Rattle.vtl_format.proofs.layout.write_range.Goals as goal

pub range-requires-clause-start_le_end : goal.range-requires-clause-start_le_end
range-requires-clause-start_le_end c = c.requires.ordered

pub range-requires-clause-start_boundary : goal.range-requires-clause-start_boundary
range-requires-clause-start_boundary c = λ _. c.requires.front

pub range-requires-clause-end_boundary : goal.range-requires-clause-end_boundary
range-requires-clause-end_boundary c = c.requires.back

pub returns : goal.returns
returns c =
    let old = string_bytes c.args.out.now in
    let new = string_bytes c.push_str.new.self in
    let bytes = slice_range c.args.text.now c.args.start c.args.end in
    IfOk-equal c.push_str.result new (old ++ c.range.result.now) (old ++ bytes) (pushed c.push_str.result old c.range.result.now new c.push_str.ensures.bytes) (ap (λ l. old ++ l) c.range.ensures.value)
