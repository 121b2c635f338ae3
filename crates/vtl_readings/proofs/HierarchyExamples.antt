-- What the laws of hierarchies say of single data sets.
use Rattle.std.proofs.Common.{◌≡◌, ℕ, pos, List, [], ◌∷◌, None, Some, Ok, refl, true≢false, sym}
use Rattle.std.specs.Prelude.{codes}
use Rattle.vtl_decimal.specs.Settings.{Settings}
use Rattle.vtl_decimal.specs.declared.settings.Rounding.TheVariants.{HalfUp}
use Rattle.vtl_cell.specs.Row.{Row}
use Rattle.vtl_cell.specs.declared.cell.Cell.TheVariants.{Int, Text}
use Rattle.vtl_cell.specs.declared.kind.Kind.TheVariants as k
use Rattle.vtl_syntax.specs.declared.parts.Comp.TheVariants as comp
use Rattle.vtl_syntax.specs.declared.parts.SignedComp.{SignedComp}
use Rattle.vtl_syntax.specs.declared.statements.HierRule.{HierRule}
use Rattle.vtl_syntax.specs.declared.word_groups.Addition.TheVariants as sign
use Rattle.vtl_syntax.specs.declared.word_groups.Comparison.TheVariants as compared
use Rattle.vtl_syntax.specs.declared.word_groups.HierInput.TheVariants as input
use Rattle.vtl_syntax.specs.declared.word_groups.HierOut.TheVariants as points
use Rattle.vtl_syntax.specs.declared.word_groups.Mode.TheVariants as mode
use Rattle.vtl_tree.specs.Environment.{DataSet}
use Rattle.vtl_tree.specs.Measures.{made}
use Rattle.vtl_tree.specs.declared.rules.HierRules.{HierRules}
use Rattle.vtl_tree.specs.declared.structure.Role.TheVariants as role
use Rattle.vtl_tree.specs.declared.structure.Structure.{Structure}
use Rattle.vtl_meaning.specs.Points.{with_points}
use Rattle.vtl_rulings.specs.Hierarchies.{hierarchy_of}
use Rattle.vtl_rulings.specs.HierarchyChecks.{ruled_by}
use Rattle.vtl_readings.specs.Hierarchies.{EveryCheckHolds}

abbrev scale_six : Settings
scale_six = record { scale = 6; rounding = HalfUp }

abbrev by_place : Structure
by_place = record { components = made (codes "place") role.Identifier k.Text ∷ made (codes "item") role.Identifier k.Text ∷ made (codes "sold") role.Measure k.Int ∷ [] }

abbrev item : (place name : List ℕ) → ℕ → Row
item place name n = Text place ∷ Text name ∷ Int (pos n) ∷ []

-- ---- `A = B + C`
abbrev plus : List ℕ → SignedComp
plus name = record { sign = sign.Plus; item = comp.Name name }

abbrev sums : HierRule
sums = record { name = None; item = comp.Name (codes "A"); comparison = compared.Equal; sign = None; first = comp.Name (codes "B"); others = plus (codes "C") ∷ []; error = record { code = None; level = None } }

abbrev rules : HierRules
rules = record { variable = codes "item"; rules = sums ∷ []; order = Some (0 ∷ []) }

-- at `x` the sides are equal, at `y` an item is missing
abbrev right : DataSet
right = with_points by_place (item (codes "x") (codes "A") 9 ∷ item (codes "x") (codes "B") 4 ∷ item (codes "x") (codes "C") 5 ∷ item (codes "y") (codes "B") 1 ∷ [])

every_check : EveryCheckHolds scale_six (ruled_by rules by_place) rules.rules right
every_check = (((λ e. (refl, refl)), ((λ e. absurd (true≢false (sym e))), tt)), tt)

nothing_changed : hierarchy_of scale_six (ruled_by rules by_place) mode.NonNull input.Dataset rules.rules right points.All by_place ≡ Ok right.points
nothing_changed = refl

-- and here they are not
abbrev wrong : DataSet
wrong = with_points by_place (item (codes "x") (codes "A") 8 ∷ item (codes "x") (codes "B") 4 ∷ item (codes "x") (codes "C") 5 ∷ [])

one_changed : hierarchy_of scale_six (ruled_by rules by_place) mode.NonNull input.Dataset rules.rules wrong points.All by_place
    ≡ Ok (item (codes "x") (codes "A") 9 ∷ item (codes "x") (codes "B") 4 ∷ item (codes "x") (codes "C") 5 ∷ [])
one_changed = refl
