use Rattle.std.proofs.Common.{◌≡◌, take}
use Rattle.std.specs.List.{flat_map}
use Rattle.vtl_tree.specs.NotNull.{not_null_of, with_list}
use Rattle.script_parts.proofs.known.declared.Given as goal

abbrev pub invariant-loop-i : goal.invariant-loop-i
invariant-loop-i l = record {
  sets : l.known.sets ≡ take l.i l.declared;
  lists : l.known.not_null ≡ flat_map (λ e. with_list e.0 (not_null_of e.0 l.script.not_null)) (take l.i l.declared);
}
