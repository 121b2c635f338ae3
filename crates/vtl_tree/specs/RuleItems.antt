-- The items of hierarchical rules, and which rules define an item.
use Rattle.std.specs.Prelude.{ℕ, Bool, true, false, List, ◌∷◌, filter, map}
use Rattle.vtl_syntax.specs.declared.parts.SignedComp.{SignedComp}
use Rattle.vtl_syntax.specs.declared.statements.HierRule.{HierRule}
use Rattle.vtl_syntax.specs.declared.word_groups.Comparison.{Comparison}
use Rattle.vtl_syntax.specs.declared.word_groups.Comparison.TheVariants as compared
use Rattle.vtl_tree.specs.Names.{name_of}

abbrev pub left_item : HierRule → List ℕ
left_item r = name_of r.item

abbrev pub signed_item : SignedComp → List ℕ
signed_item x = name_of x.item

abbrev pub right_items : HierRule → List (List ℕ)
right_items r = name_of r.first ∷ map signed_item r.others

abbrev pub items_of : HierRule → List (List ℕ)
items_of r = left_item r ∷ right_items r

abbrev pub is_equal : Comparison → Bool
is_equal compared.Equal = true
is_equal other = false

-- a rule with `=` defines its left item; the others only compare
abbrev pub is_equation : HierRule → Bool
is_equation r = is_equal r.comparison

abbrev pub definitions : List HierRule → List HierRule
definitions rules = filter is_equation rules
