use Rattle.std.proofs.Common.{◌∷◌, ◌++◌, [], ap, string_bytes}
use Rattle.std.specs.List.{slice_range}
use Rattle.std.proofs.lemmas.Result.{IfOk-equal}
use Rattle.vtl_format.proofs.statements.write_comment.Goals as goal

pub range-requires-clause-start_le_end : goal.range-requires-clause-start_le_end
range-requires-clause-start_le_end c = c.requires.ordered

pub range-requires-clause-start_boundary : goal.range-requires-clause-start_boundary
range-requires-clause-start_boundary c = λ _. c.requires.front

pub range-requires-clause-end_boundary : goal.range-requires-clause-end_boundary
range-requires-clause-end_boundary c = c.requires.back

pub returns : goal.returns
returns c =
    let old = string_bytes c.args.out.now in
    let new = string_bytes c.write_line.new.out in
    let bytes = slice_range c.args.text.now c.args.comment.start c.args.comment.end in
    IfOk-equal c.write_line.result new (old ++ (c.range.result.now ++ 10 ∷ [])) (old ++ (bytes ++ 10 ∷ [])) c.write_line.ensures (ap (λ l. old ++ (l ++ 10 ∷ [])) c.range.ensures.value)
