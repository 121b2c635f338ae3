-- The products of the factors, which have no fault, and what is kept beside them.
use Rattle.std.proofs.Common.{◌≡◌, ◌≤◌, ◌<◌, ◌*◌, ◌∷◌, [], ℕ, pos, List, Option, None, Ok, length, map, ap, ap₂, arith, refl}
use Rattle.std.specs.List.{sum_by}
use Rattle.std.proofs.lemmas.List.Sums.{sum_by-cons}
use Rattle.std.proofs.lemmas.Nat.{mul-le}
use Rattle.vtl_decimal.specs.declared.number.Fault.{Fault}
use Rattle.vtl_cell.specs.Conversion.{as_kind}
use Rattle.vtl_cell.specs.Outcome.{after, fault_in, faults_by, join, unless}
use Rattle.vtl_cell.specs.Row.{Row}
use Rattle.vtl_cell.specs.ScalarArithmetic.{integer}
use Rattle.vtl_cell.specs.declared.cell.Cell.TheVariants as c
use Rattle.vtl_cell.specs.declared.kind.Kind.TheVariants as k
use Rattle.vtl_tree.specs.CompExp.{CompExp}
use Rattle.vtl_tree.specs.Value.{value}
use Rattle.vtl_meaning.specs.Operators.{calculated_exps, calculated_of, left_of}
use Rattle.vtl_meaning.specs.Points.{cell_or_null, point_fault, point_of, with_points}
use Rattle.vtl_demo.specs.DataSets.{first_factor, group_at, second_factor}
use Rattle.vtl_demo.specs.Nodes.{joined_point, joined_structure, kept_structure, multiplied_structure, product, product_at, product_item}
use Rattle.vtl_demo.specs.Script.{settings}
use Rattle.vtl_demo.proofs.Numbered.{map_made}
use Rattle.vtl_demo.proofs.Points.{first_small, fits, second_small}

pub product_small : (i : ℕ) → product_at i ≤ 998001
product_small i = mul-le (first_factor i) (second_factor i) 999 999 (omega (arith, first_small i)) (omega (arith, second_small i))

-- of so many numbers
pub total_small : (numbers : List ℕ) → length numbers ≤ 1000000 → sum_by product_at numbers < 1000000000000
total_small numbers few = omega (arith, few, each numbers)
  where
    each : (numbers : List ℕ) → sum_by product_at numbers ≤ 998001 * length numbers
    each [] = omega arith
    each (i ∷ numbers) = omega (arith, sum_by-cons product_at i numbers, product_small i, each numbers)

-- no fault in any of many
pub no_faults : {X : Type 0} (f : X → Option Fault) → ((x : X) → f x ≡ None) → (xs : List X) → faults_by f xs ≡ None
no_faults f none [] = refl
no_faults f none (x ∷ xs) = ap₂ join (none x) (no_faults f none xs)

-- ---- at each point
multiplied : (i : ℕ) → value settings product (joined_point i) ≡ Ok (c.Int (pos (product_at i)))
multiplied i = ap (λ v. after (integer v) (as_kind settings k.Int)) (fits (product_at i) (omega (arith, product_small i)))

abbrev exps : List CompExp
exps = calculated_exps (product_item ∷ []) joined_structure multiplied_structure

abbrev multiplied_point : ℕ → Row
multiplied_point i = c.Int (pos i) ∷ c.Text (group_at i) ∷ c.Int (pos (first_factor i)) ∷ c.Int (pos (second_factor i)) ∷ c.Int (pos (product_at i)) ∷ []

no_fault : (i : ℕ) → point_fault settings exps (joined_point i) ≡ None
no_fault i = ap (λ v. join (fault_in v) None) (multiplied i)

point_is : (i : ℕ) → point_of settings exps (joined_point i) ≡ multiplied_point i
point_is i = ap (λ v. c.Int (pos i) ∷ c.Text (group_at i) ∷ c.Int (pos (first_factor i)) ∷ c.Int (pos (second_factor i)) ∷ cell_or_null v ∷ []) (multiplied i)

-- ---- at all points
pub calculated : (numbers : List ℕ) → calculated_of settings (product_item ∷ []) (with_points joined_structure (map joined_point numbers)) multiplied_structure ≡ Ok (map multiplied_point numbers)
calculated numbers = ap₂ unless (none numbers) (map_made (point_of settings exps) joined_point multiplied_point point_is numbers)
  where
    none : (numbers : List ℕ) → faults_by (point_fault settings exps) (map joined_point numbers) ≡ None
    none [] = refl
    none (i ∷ numbers) = ap₂ join (no_fault i) (none numbers)

abbrev pub kept_point : ℕ → Row
kept_point i = c.Int (pos i) ∷ c.Text (group_at i) ∷ c.Int (pos (product_at i)) ∷ []

pub kept : (numbers : List ℕ) → left_of (with_points multiplied_structure (map multiplied_point numbers)) kept_structure ≡ map kept_point numbers
kept numbers = map_made _ multiplied_point kept_point (λ i. refl) numbers
