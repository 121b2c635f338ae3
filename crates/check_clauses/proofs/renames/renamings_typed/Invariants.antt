use Rattle.std.proofs.Common.{◌≡◌, drop}
use Rattle.check_faults.specs.InTurn.{in_turn}
use Rattle.check_clauses.specs.Clauses.{old_names, renaming_known, renamings_typed}
use Rattle.check_clauses.proofs.renames.renamings_typed.Given as goal

abbrev pub invariant-loop-part : goal.invariant-loop-part
invariant-loop-part l = record {
  typed : in_turn (λ done. renaming_known l.joined l.components (old_names done)) l.renamings.items (drop l.part-index l.parts) ≡ renamings_typed l.joined l.components l.parts;
  old : l.old_names.items ≡ old_names l.renamings.items;
}
