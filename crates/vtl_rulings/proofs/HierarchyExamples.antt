-- What checks and hierarchies by hierarchical rules give for single data sets.
use Rattle.std.proofs.Common.{◌≡◌, ℕ, pos, false, List, [], ◌∷◌, None, Ok, refl}
use Rattle.std.specs.Prelude.{codes}
use Rattle.std.specs.Fmt.{decimal}
use Rattle.vtl_decimal.specs.Settings.{Settings}
use Rattle.vtl_decimal.specs.declared.settings.Rounding.TheVariants.{HalfUp}
use Rattle.vtl_cell.specs.Row.{Row}
use Rattle.vtl_cell.specs.declared.cell.Cell.{Cell}
use Rattle.vtl_cell.specs.declared.cell.Cell.TheVariants.{Int, Null, Num, Text}
use Rattle.vtl_cell.specs.declared.cell.Cell.TheVariants as c
use Rattle.vtl_cell.specs.declared.kind.Kind.TheVariants as k
use Rattle.vtl_syntax.specs.declared.parts.Comp.TheVariants as comp
use Rattle.vtl_syntax.specs.declared.parts.SignedComp.{SignedComp}
use Rattle.vtl_syntax.specs.declared.statements.HierRule.{HierRule}
use Rattle.vtl_syntax.specs.declared.word_groups.Addition.TheVariants as sign
use Rattle.vtl_syntax.specs.declared.word_groups.CheckOut.TheVariants as out
use Rattle.vtl_syntax.specs.declared.word_groups.Comparison.{Comparison}
use Rattle.vtl_syntax.specs.declared.word_groups.Comparison.TheVariants as compared
use Rattle.vtl_syntax.specs.declared.word_groups.HierInput.TheVariants as input
use Rattle.vtl_syntax.specs.declared.word_groups.HierOut.TheVariants as points
use Rattle.vtl_syntax.specs.declared.word_groups.Mode.TheVariants as mode
use Rattle.vtl_tree.specs.Environment.{DataSet}
use Rattle.vtl_tree.specs.Measures.{made}
use Rattle.vtl_tree.specs.declared.structure.Role.TheVariants as role
use Rattle.vtl_tree.specs.declared.structure.Structure.{Structure}
use Rattle.vtl_meaning.specs.Points.{with_points}
use Rattle.vtl_rulings.specs.Hierarchies.{hierarchy_of}
use Rattle.vtl_rulings.specs.HierarchyChecks.{Ruled, check_hierarchy_of}

abbrev scale_six : Settings
scale_six = record { scale = 6; rounding = HalfUp }

abbrev rule_of : (left : List ℕ) → Comparison → (first : List ℕ) → List SignedComp → HierRule
rule_of left o first others = record { name = None; item = comp.Name left; comparison = o; sign = None; first = comp.Name first; others = others; error = record { code = None; level = None } }

abbrev plus : List ℕ → SignedComp
plus item = record { sign = sign.Plus; item = comp.Name item }

abbrev by_place : Structure
by_place = record { components = made (codes "place") role.Identifier k.Text ∷ made (codes "item") role.Identifier k.Text ∷ made (codes "sold") role.Measure k.Int ∷ [] }

abbrev by_item : Ruled
by_item = record { id = codes "item"; measure = codes "sold"; kind = k.Int }

abbrev x : Cell
x = Text (codes "x")

abbrev item : List ℕ → ℕ → Row
item name n = x ∷ Text name ∷ Int (pos n) ∷ []

abbrev items : List Row → DataSet
items d = with_points by_place d

-- ---- `A = B + C`
abbrev sums : HierRule
sums = rule_of (codes "A") compared.Equal (codes "B") (plus (codes "C") ∷ [])

abbrev whole : DataSet
whole = items (item (codes "A") 10 ∷ item (codes "B") 4 ∷ item (codes "C") 5 ∷ [])

not_equal : check_hierarchy_of scale_six out.All by_item mode.NonNull whole (sums ∷ []) ≡ Ok ((x ∷ Text (codes "A") ∷ Text (decimal 1) ∷ c.Bool false ∷ Num (pos 1_000_000) ∷ Null ∷ Null ∷ []) ∷ [])
not_equal = refl

with_measure : check_hierarchy_of scale_six out.Invalid by_item mode.NonNull whole (sums ∷ []) ≡ Ok ((x ∷ Text (codes "A") ∷ Text (decimal 1) ∷ Int (pos 10) ∷ Num (pos 1_000_000) ∷ Null ∷ Null ∷ []) ∷ [])
with_measure = refl

-- an item is missing
abbrev part : DataSet
part = items (item (codes "A") 10 ∷ item (codes "B") 4 ∷ [])

no_point : check_hierarchy_of scale_six out.All by_item mode.NonNull part (sums ∷ []) ≡ Ok []
no_point = refl

nothing_known : check_hierarchy_of scale_six out.All by_item mode.AlwaysNull part (sums ∷ []) ≡ Ok ((x ∷ Text (codes "A") ∷ Text (decimal 1) ∷ Null ∷ Null ∷ Null ∷ Null ∷ []) ∷ [])
nothing_known = refl

counted_as_zero : check_hierarchy_of scale_six out.All by_item mode.PartialZero part (sums ∷ []) ≡ Ok ((x ∷ Text (codes "A") ∷ Text (decimal 1) ∷ c.Bool false ∷ Num (pos 6_000_000) ∷ Null ∷ Null ∷ []) ∷ [])
counted_as_zero = refl

-- ---- `A = B + C; B = D + E`, of C and D alone
abbrev rules : List HierRule
rules = sums ∷ rule_of (codes "B") compared.Equal (codes "D") (plus (codes "E") ∷ []) ∷ []

abbrev two_items : DataSet
two_items = items (item (codes "C") 3 ∷ item (codes "D") 5 ∷ [])

none_computed : hierarchy_of scale_six by_item mode.NonNull input.Rule rules two_items points.Computed by_place ≡ Ok []
none_computed = refl

both_computed : hierarchy_of scale_six by_item mode.PartialZero input.Rule rules two_items points.Computed by_place ≡ Ok (item (codes "A") 8 ∷ item (codes "B") 5 ∷ [])
both_computed = refl

of_the_operand : hierarchy_of scale_six by_item mode.PartialZero input.Dataset rules two_items points.Computed by_place ≡ Ok (item (codes "A") 3 ∷ item (codes "B") 5 ∷ [])
of_the_operand = refl

with_others : hierarchy_of scale_six by_item mode.PartialZero input.Rule rules two_items points.All by_place ≡ Ok (item (codes "A") 8 ∷ item (codes "B") 5 ∷ item (codes "C") 3 ∷ item (codes "D") 5 ∷ [])
with_others = refl
