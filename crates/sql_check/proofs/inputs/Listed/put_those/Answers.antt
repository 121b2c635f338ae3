use Rattle.std.proofs.Common.{◌+◌, ◌++◌, drop, map, ap, sym, ◌∙◌}
use Rattle.std.specs.Map.{keys_of}
use Rattle.std.specs.Prelude.{filter}
use Rattle.sql_check.specs.Answers.{is_wanted}
use Rattle.sql_check.specs.declared.inputs.Listed.{Listed}
use Rattle.sql_check.proofs.InputColumns.{other_left, wanted_put}
use Rattle.sql_check.proofs.inputs.Listed.put_those.Goals.{then-is_wanted+in_ok-put, else-is_wanted}
use Rattle.sql_check.proofs.inputs.Listed.put_those.Goals as goal

pub loop-column-preserved : goal.loop-column-preserved
loop-column-preserved c =
    let f = is_wanted (keys_of c.args.key.now) c.args.of_key in
    let cs = c.args.columns.now in
    let i = c.loop-column.column-index in
    let x = c.column-item.result in
    let before = c.loop-column.self in
    let rest = filter f (drop (i + 1) cs) in
    let less = c.loop-column-test.true in
    let is = c.column-item.is in
    elim c.if-is_wanted.branch [
      | then-is_wanted+in_ok-put w ↦
          let wanted = sym c.is_wanted.ensures ∙ w.if-is_wanted.true in
          record {
            names = ap (λ (s : Listed). s.names.items ++ map (λ c. c.name) rest) w.self-is ∙ wanted_put (λ c. c.name) f cs i x before.names.items w.put.new.self.names.items less is wanted w.in_ok-put.ensures.names ∙ c.loop-column.invariant.names;
            kinds = ap (λ (s : Listed). s.kinds.items ++ map (λ c. c.kind) rest) w.self-is ∙ wanted_put (λ c. c.kind) f cs i x before.kinds.items w.put.new.self.kinds.items less is wanted w.in_ok-put.ensures.kinds ∙ c.loop-column.invariant.kinds;
          }
      | else-is_wanted w ↦
          let other = sym c.is_wanted.ensures ∙ w.if-is_wanted.false in
          record {
            names = ap (λ (s : Listed). s.names.items ++ map (λ c. c.name) rest) w.self-is ∙ other_left (λ c. c.name) f cs i x before.names.items less is other ∙ c.loop-column.invariant.names;
            kinds = ap (λ (s : Listed). s.kinds.items ++ map (λ c. c.kind) rest) w.self-is ∙ other_left (λ c. c.kind) f cs i x before.kinds.items less is other ∙ c.loop-column.invariant.kinds;
          }
    ]
