use Rattle.std.proofs.Common.{◌≡◌, drop}
use Rattle.std.specs.List.{list_any}
use Rattle.vtl_text.specs.Texts.{same_text}
use Rattle.sql_check.proofs.inputs.is_among.Given as goal

abbrev pub invariant-loop-other : goal.invariant-loop-other
invariant-loop-other l = list_any (same_text l.name) (drop l.other-index l.names) ≡ list_any (same_text l.name) l.names
