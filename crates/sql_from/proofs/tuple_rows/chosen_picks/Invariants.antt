use Rattle.std.proofs.Common.{◌≡◌, take, map}
use Rattle.sql_from.specs.Rows.{pick_for}
use Rattle.sql_from.proofs.tuple_rows.chosen_picks.Given as goal

abbrev pub invariant-loop-place : goal.invariant-loop-place
invariant-loop-place l = l.chosen.items ≡ map (pick_for l.picks) (take l.place-index l.places)
