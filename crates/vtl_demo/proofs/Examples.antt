-- What the definitions give for one point.
use Rattle.std.proofs.Common.{◌≡◌, pos, [], ◌∷◌, refl}
use Rattle.std.specs.Fmt.{digits}
use Rattle.std.specs.Prelude.{codes}
use Rattle.csv.specs.Writing.{fields_text, is_blank}
use Rattle.vtl_cell.specs.declared.cell.Cell.TheVariants as c
use Rattle.vtl_demo.specs.DataSets.{left_points, right_points}
use Rattle.vtl_demo.specs.Draws.{draw, state}
use Rattle.vtl_demo.specs.Said.{said}

states : state 1 ∷ state 2 ∷ state 3 ∷ [] ≡ 1406932606 ∷ 654583775 ∷ 1449466924 ∷ []
states = refl

draws : draw 1 ∷ draw 2 ∷ draw 3 ∷ [] ≡ 21468 ∷ 9988 ∷ 22117 ∷ []
draws = refl

left : left_points 1 ≡ (c.Int (pos 1) ∷ c.Text (codes "G8") ∷ c.Int (pos 988) ∷ []) ∷ []
unfolding digits
left = refl

right : right_points 1 ≡ (c.Int (pos 1) ∷ c.Int (pos 117) ∷ []) ∷ []
right = refl

one_point : said 1 ≡ codes "interp DS_j 1 33 DS_g 1 17\nengine DS_j 1 33 DS_g 1 17\n"
unfolding digits lib.Utf8.encode fields_text is_blank
one_point = refl
