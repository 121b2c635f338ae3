-- A condition on groups as a filter of what was made of them.
use Rattle.std.specs.Prelude.{◌≡◌, ℕ, true, false, List, option_map, Option, Some}
use Rattle.vtl_tree.specs.Columns.{identifiers_of, others_of, place_of}
use Rattle.vtl_tree.specs.CompExp.{CompExp, CompExps, aggregate, call, column, comp_exp, const, no_comp_exps}
use Rattle.vtl_tree.specs.Names.{is_among}
use Rattle.vtl_tree.specs.Structure.{columns_of, names_of}
use Rattle.vtl_tree.specs.Trees.{AggTree}
use Rattle.vtl_tree.specs.declared.expression.AggCall.{AggCall}
use Rattle.vtl_tree.specs.declared.specifications.AggItems.TheVariants as items
use Rattle.vtl_tree.specs.declared.specifications.AggTarget.{AggTarget}
use Rattle.vtl_tree.specs.declared.structure.Structure.{Structure}
use Rattle.vtl_meaning.specs.Aggregates.{target_named}

-- a column behind the identifiers, of the target that is this aggregate
pub record IsTargetOf (ts : List AggTarget) (s : Structure) (a : AggCall) (name : List ℕ) : Type 0 where
  pub call : option_map (λ t. t.call) (target_named ts name) ≡ Some a
  pub no_identifier : is_among name (names_of (identifiers_of s)) ≡ false
  pub other : is_among name (names_of (others_of s)) ≡ true

-- A condition on groups, and the same over the points that are made of them: a grouping identifier is its column, an aggregate the column
-- of a target that is this aggregate.
abbrev mutual
  pub IsFilterOf : List AggTarget → Structure → CompExp → CompExp → Type 0
  IsFilterOf ts s (column place name kind) e = (is_among name (names_of (identifiers_of s)) ≡ true) × (e ≡ column (place_of name (columns_of s)) name kind)
  IsFilterOf ts s (const v) e = e ≡ const v
  IsFilterOf ts s (call o kind args) e = (others : CompExps) × (e ≡ call o kind others) × AreFiltersOf ts s args others
  IsFilterOf ts s (aggregate a kind) e = (name : List ℕ) × IsTargetOf ts s a name × (e ≡ column (place_of name (columns_of s)) name kind)

  pub AreFiltersOf : List AggTarget → Structure → CompExps → CompExps → Type 0
  AreFiltersOf ts s no_comp_exps no_comp_exps = Unit {0}
  AreFiltersOf ts s no_comp_exps (comp_exp e es) = ⊥
  AreFiltersOf ts s (comp_exp e es) no_comp_exps = ⊥
  AreFiltersOf ts s (comp_exp e es) (comp_exp f fs) = IsFilterOf ts s e f × AreFiltersOf ts s es fs

-- `ds[aggr .. group by names having h]`
abbrev pub targets_where : List AggTarget → (names : List (List ℕ)) → Option CompExp → AggTree
targets_where ts names h = record { items = items.Targets ts; grouping = names; having = h }
