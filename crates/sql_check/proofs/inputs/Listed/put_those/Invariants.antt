use Rattle.std.proofs.Common.{◌≡◌, ◌++◌, drop, map}
use Rattle.std.specs.Map.{keys_of}
use Rattle.std.specs.Prelude.{filter}
use Rattle.sql_check.specs.Answers.{is_wanted}
use Rattle.sql_check.proofs.inputs.Listed.put_those.Given as goal

abbrev pub invariant-loop-column : goal.invariant-loop-column
invariant-loop-column l = record {
  names : l.self.names.items ++ map (λ c. c.name) (filter (is_wanted (keys_of l.key) l.of_key) (drop l.column-index l.columns)) ≡ l.initial.self.names.items ++ map (λ c. c.name) (filter (is_wanted (keys_of l.key) l.of_key) l.columns);
  kinds : l.self.kinds.items ++ map (λ c. c.kind) (filter (is_wanted (keys_of l.key) l.of_key) (drop l.column-index l.columns)) ≡ l.initial.self.kinds.items ++ map (λ c. c.kind) (filter (is_wanted (keys_of l.key) l.of_key) l.columns);
}
