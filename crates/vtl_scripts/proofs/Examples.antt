-- What a small script gives, and its fault.
use Rattle.std.proofs.Common.{◌≡◌, true, false, [], ◌∷◌, Ok, Err, refl}
use Rattle.std.specs.Prelude.{codes}
use Rattle.vtl_cell.specs.declared.cell.Cell.TheVariants.{Null}
use Rattle.vtl_decimal.specs.declared.number.Fault.TheVariants.{DivZero}
use Rattle.vtl_tree.specs.Environment.{Environment}
use Rattle.vtl_tree.specs.Trees as nodes
use Rattle.vtl_tree.specs.declared.structure.Structure.{Structure}
use Rattle.vtl_meaning.specs.Points.{with_points}
use Rattle.vtl_meaning.proofs.Examples.{by_place, by_place_and_year, divided, int, left, place, sales, scale_six, shares, with_components, year}
use Rattle.vtl_scripts.specs.Meaning.{Statement, meaning}

-- ---- `kept := sales[keep left]; quotient <- 999999999999 / shares; result <- kept`, over both data sets
abbrev left_alone : Structure
left_alone = with_components (place ∷ year ∷ left ∷ [])

abbrev keep_left : Statement
keep_left = record { result = codes "kept"; persistent = false; node = nodes.node left_alone (nodes.keep (nodes.node by_place_and_year (nodes.named (codes "sales"))) (codes "left" ∷ [])) }

abbrev divide : Statement
divide = record { result = codes "quotient"; persistent = true; node = nodes.node by_place (nodes.measures divided (nodes.node by_place (nodes.named (codes "shares")))) }

abbrev name_result : Statement
name_result = record { result = codes "result"; persistent = true; node = nodes.node left_alone (nodes.named (codes "kept")) }

abbrev held : Environment
held = (codes "sales", sales) ∷ (codes "shares", shares) ∷ []

-- a `:=` is evaluated and not written
written : meaning scale_six (keep_left ∷ name_result ∷ []) held ≡ Ok ((codes "result", with_points left_alone ((int 1 ∷ int 10 ∷ int 50 ∷ []) ∷ (int 1 ∷ int 20 ∷ Null ∷ []) ∷ (int 2 ∷ int 10 ∷ int 9 ∷ []) ∷ [])) ∷ [])
written = refl

-- the first fault, with the name of its statement's result
faulty : meaning scale_six (keep_left ∷ divide ∷ name_result ∷ []) held ≡ Err (DivZero, codes "quotient")
faulty = refl
