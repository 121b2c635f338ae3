use Rattle.std.proofs.Common.{◌≡◌, drop}
use Rattle.check_faults.specs.InTurn.{in_turn}
use Rattle.check_clauses.specs.Clauses.{sub_known, sub_names, subs_typed}
use Rattle.check_clauses.proofs.subsetting.subs_typed.Given as goal

abbrev pub invariant-loop-part : goal.invariant-loop-part
invariant-loop-part l = record {
  typed : in_turn (λ done. sub_known l.profile l.components (sub_names done)) l.items.items (drop l.part-index l.parts) ≡ subs_typed l.profile l.components l.parts;
  named : l.names.items ≡ sub_names l.items.items;
}
