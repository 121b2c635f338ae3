-- What checks show behind the identifiers of a point, and how rules are identified.
use Rattle.std.specs.Prelude.{ℕ, suc, cond, List, [], ◌∷◌, ◌++◌, map, Option, Some, None, codes}
use Rattle.std.specs.Fmt.{decimal}
use Rattle.vtl_cell.specs.declared.kind.Kind.TheVariants as k
use Rattle.vtl_syntax.specs.declared.word_groups.CheckOut.{CheckOut}
use Rattle.vtl_syntax.specs.declared.word_groups.CheckOut.TheVariants as out
use Rattle.vtl_tree.specs.Columns.{measures_of}
use Rattle.vtl_tree.specs.Measures.{bool_var, made}
use Rattle.vtl_tree.specs.Pairs.{errorcode, errorlevel, imbalance}
use Rattle.vtl_tree.specs.Structure.{same_name}
use Rattle.vtl_tree.specs.declared.structure.Component.{Component}
use Rattle.vtl_tree.specs.declared.structure.Role.TheVariants as role
use Rattle.vtl_tree.specs.declared.structure.Structure.{Structure}

-- ---- rules
-- the identifier of the rule of this number: its name, or the number as text
abbrev pub rule_id : ℕ → (name : Option (List ℕ)) → List ℕ
rule_id i None = decimal i
rule_id i (Some name) = name

-- rules with their identifiers, numbered from here on
abbrev pub with_ids : {R : Type 0} → (name : R → Option (List ℕ)) → ℕ → List R → List (List ℕ × R)
with_ids name i [] = []
with_ids name i (r ∷ rs) = (rule_id i (name r), r) ∷ with_ids name (suc i) rs

-- ---- outputs
-- what an output shows behind the identifiers, of cells, components or kinds: the measures, the truth value, and what follows
abbrev pub output_parts : {X : Type 0} → CheckOut → (measures : List X) → (truth : X) → (rest : List X) → List X
output_parts out.Invalid measures truth rest = measures ++ rest
output_parts out.All measures truth rest = truth ∷ rest
output_parts out.AllMeasures measures truth rest = measures ++ (truth ∷ rest)

-- the identifier of rules, behind those of the operand
abbrev pub ruleid : Component
ruleid = made (codes "ruleid") role.Identifier k.Text

abbrev pub error_measures : List Component
error_measures = errorcode ∷ errorlevel ∷ []

-- the measures of a check by datapoint rules
abbrev pub ruled_measures : CheckOut → Structure → List Component
ruled_measures o a = output_parts o (measures_of a) bool_var error_measures

-- ---- the identifier of items, which rules add to, is without codes
abbrev pub uncoded : (name : List ℕ) → Component → Component
uncoded name x = cond (same_name x.name name) (record x { codes = None }) x

abbrev pub without_codes : (name : List ℕ) → List Component → List Component
without_codes name xs = map (uncoded name) xs

-- the measures of a check by hierarchical rules
abbrev pub sided_measures : CheckOut → Structure → List Component
sided_measures o a = output_parts o (measures_of a) bool_var (imbalance ∷ error_measures)
