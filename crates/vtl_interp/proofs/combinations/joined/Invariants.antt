use Rattle.std.proofs.Common.{◌≡◌, map, take}
use Rattle.std.specs.Option.{IfSome}
use Rattle.vtl_join.specs.Joining.{sets_of}
use Rattle.vtl_interp.specs.Values.{value_view}
use Rattle.vtl_interp.proofs.combinations.joined.Given as goal

abbrev pub invariant-loop-i : goal.invariant-loop-i
invariant-loop-i l = record {
  kind : IfSome l.joined.kind (λ before. before ≡ l.kind);
  operands : sets_of l.joined.operands ≡ map value_view (take l.i l.values);
  aliases : map (λ o. o.alias) l.joined.operands ≡ map (λ o. o.alias) (take l.i l.operands);
}
