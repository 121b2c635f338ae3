use Rattle.std.proofs.Common.{◌≡◌, ◌∷◌, take, map}
use Rattle.sql_check_parts.specs.Literals.{literal_kind}
use Rattle.sql_check_parts.proofs.literals.member_kinds.Given as goal

abbrev pub invariant-loop-literal : goal.invariant-loop-literal
invariant-loop-literal l = l.kinds.items ≡ l.fn.operand ∷ map literal_kind (take l.literal-index l.literals)
