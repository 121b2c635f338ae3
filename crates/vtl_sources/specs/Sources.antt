-- What the points and the components of a data set depend on. The table is the same for each way of keeping sets: S is the type of sets,
-- `joined` puts two together, and `nothing` is the empty one.
use Rattle.std.specs.Prelude.{ℕ, List, ◌++◌, map, slice_index_or, Option}
use Rattle.std.specs.List.{fold}
use Rattle.std.specs.Option.{option_map_or}
use Rattle.vtl_tree.specs.Columns.{identifiers_of, measures_of, place_of}
use Rattle.vtl_tree.specs.CompExp.{CompExp, CompExps, column, const, call, aggregate, no_comp_exps, comp_exp}
use Rattle.vtl_tree.specs.Structure.{columns_of, of_role}
use Rattle.vtl_tree.specs.declared.structure.Component.{Component}
use Rattle.vtl_tree.specs.declared.structure.Role.TheVariants as role
use Rattle.vtl_tree.specs.declared.structure.Structure.{Structure}

-- What the points depend on; and what each component that is no identifier depends on besides, in column order. An identifier depends on
-- what the points depend on, and on nothing besides.
pub record Sources (S : Type 0) : Type 0 where
  pub points : S
  pub others : List S

abbrev pub sources : {S : Type 0} → S → List S → Sources S
sources points others = record { points = points; others = others }

-- a data set that an operator is given: its structure, and what it depends on
pub record Traced (S : Type 0) : Type 0 where
  pub structure : Structure
  pub sources : Sources S

abbrev pub traced : {S : Type 0} → Structure → Sources S → Traced S
traced s from = record { structure = s; sources = from }

module _ {S : Type 0} (joined : S → S → S) (nothing : S) where
  -- of each column, beside what the points depend on
  abbrev pub columns_from : Structure → Sources S → List S
  columns_from s from = map (λ x. nothing) (identifiers_of s) ++ from.others

  -- of the column at a place, and of the component of this name
  abbrev pub source_at : Traced S → ℕ → S
  source_at a place = slice_index_or (columns_from a.structure a.sources) place nothing

  abbrev pub source_named : Traced S → List ℕ → S
  source_named a name = source_at a (place_of name (columns_of a.structure))

  -- of a component that may be left out
  abbrev pub source_if_named : Traced S → Option (List ℕ) → S
  source_if_named a name = option_map_or (source_named a) name nothing

  -- of each of some components
  abbrev pub each_source : Traced S → List Component → List S
  each_source a xs = map (λ x. source_named a x.name) xs

  abbrev pub measure_sources : Traced S → List S
  measure_sources a = each_source a (measures_of a.structure)

  abbrev pub attribute_sources : Traced S → List S
  attribute_sources a = each_source a (of_role role.Attribute a.structure)

  -- all of some sets behind another
  abbrev pub with_all : S → List S → S
  with_all before xs = fold joined before xs

  -- all components of these names behind a set
  abbrev pub with_names : Traced S → S → List (List ℕ) → S
  with_names a before names = with_all before (map (source_named a) names)

  -- all components that an expression names behind a set
  abbrev mutual
    pub with_expression : Traced S → S → CompExp → S
    with_expression a before (column place name kind) = joined before (source_at a place)
    with_expression a before (const v) = before
    with_expression a before (call o kind args) = with_expressions a before args
    with_expression a before (aggregate x kind) = joined before (source_if_named a x.component)

    pub with_expressions : Traced S → S → CompExps → S
    with_expressions a before no_comp_exps = before
    with_expressions a before (comp_exp e es) = with_expressions a (with_expression a before e) es
