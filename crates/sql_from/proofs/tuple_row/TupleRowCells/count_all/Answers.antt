use Rattle.std.proofs.Common.{◌≡◌, ◌<◌, ◌^◌, ◌-◌, true, Ok, Err, cond, ap, arith}
use Rattle.std.specs.Prelude.{nat_lt, pos}
use Rattle.vtl_decimal.specs.declared.number.Fault.TheVariants.{Range}
use Rattle.vtl_cell.specs.ScalarArithmetic.{integer}
use Rattle.std.proofs.Math.Nat.{one-le-pow}
use Rattle.sql_from.proofs.tuple_row.TupleRowCells.count_all.Goals as goal

pub returns : goal.returns
returns c =
    let some : 0 < 10 ^ (18 - c.args.arg2.now.scale) = one-le-pow (18 - c.args.arg2.now.scale) 10 (omega arith) in
    let b : nat_lt 0 (10 ^ (18 - c.args.arg2.now.scale)) ≡ true = grind (arith, some) in
    ap (λ t. integer (cond t (Ok (pos 0)) (Err Range))) b
