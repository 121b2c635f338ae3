use Rattle.std.proofs.Common.{◌≡◌, ◌+◌, take}
use Rattle.std.specs.List.{flat_map}
use Rattle.sql_from.specs.Gains.{AreMarked, Gains}
use Rattle.sql_from.specs.Joins.{from_left, pairs_fault, partner_numbers}
use Rattle.sql_from.proofs.pairs.left_rows.Given as goal

abbrev pub invariant-loop-i : goal.invariant-loop-i
invariant-loop-i g l = record {
  width : l.so_far.rows.width ≡ l.left.rows.width + 1;
  gains : Gains (g.P.Pairing.keeps l.pairing) (pairs_fault (g.P.Pairing.value l.pairing) (g.P.Pairing.count l.pairing) (take l.i l.left.rows.tuples)) (flat_map (from_left l.keeps (g.P.Pairing.value l.pairing) (g.P.Pairing.count l.pairing)) (take l.i l.left.rows.tuples)) l.initial.so_far l.so_far;
  met : AreMarked (partner_numbers (g.P.Pairing.value l.pairing) (g.P.Pairing.count l.pairing) (take l.i l.left.rows.tuples)) l.initial.met.items l.met.items;
}
