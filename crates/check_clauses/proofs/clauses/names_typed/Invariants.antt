use Rattle.std.proofs.Common.{◌≡◌, drop}
use Rattle.vtl_tree.specs.declared.names.Wanted.TheVariants as wanted
use Rattle.check_faults.specs.InTurn.{in_turn}
use Rattle.check_clauses.specs.Clauses.{name_known, names_typed}
use Rattle.check_clauses.proofs.clauses.names_typed.Given as goal

abbrev pub invariant-loop-reference : goal.invariant-loop-reference
invariant-loop-reference l = in_turn (name_known l.joined wanted.Value l.components) l.names.items (drop l.reference-index l.references) ≡ names_typed l.joined wanted.Value l.components l.references
