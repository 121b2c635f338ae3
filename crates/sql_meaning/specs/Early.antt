-- Which parts of a WHERE may be tried before a join.
use Rattle.std.specs.Prelude.{◌≡◌, ℕ, Bool, true, false, not, ◌&&◌, List, [], ◌∷◌, ◌++◌, map, filter, take, drop, Option, Some, None}
use Rattle.std.specs.List.{AllByRecursion, flat_map}
use Rattle.vtl_text.specs.Texts.{same_text}
use Rattle.vtl_scalar.specs.LawOperators.{may_fault}
use Rattle.sql_tree.specs.Trees as tree
use Rattle.sql_tree.specs.Trees.{Branches, Exp, Exps, JoinTree, QueryTree, SelectTree, Text}
use Rattle.sql_tree.specs.declared.parts.Column.{Column}
use Rattle.sql_tree.specs.declared.parts.Equality.{Equality}
use Rattle.sql_tree.specs.declared.word_groups.JoinKind.{JoinKind}
use Rattle.sql_tree.specs.declared.word_groups.JoinKind.TheVariants as joining
use Rattle.sql_check_parts.specs.Queries.{join_source}
use Rattle.sql_check_parts.specs.Scopes.{is_among}
use Rattle.sql_meaning.specs.Plans.{IsAt, conjuncts_of}
use Rattle.sql_meaning.specs.declared.plan.Early.{Early}

-- ---- expressions without a fault

-- it holds no operator that may have a fault, and no aggregate
abbrev mutual
  pub is_safe : Exp → Bool
  is_safe (tree.binary a o b) = not (may_fault o) && is_safe a && is_safe b
  is_safe (tree.unary o e) = not (may_fault o) && is_safe e
  is_safe (tree.is_null e negated) = is_safe e
  is_safe (tree.in_list e negated ls) = is_safe e
  is_safe (tree.constant x) = true
  is_safe (tree.column x) = true
  is_safe (tree.call f es) = not (may_fault f) && are_safe es
  is_safe tree.count_all = false
  is_safe (tree.aggregate f e) = false
  is_safe (tree.case_when bs e) = have_safe bs && is_safe e
  is_safe (tree.exists s es) = true

  pub are_safe : Exps → Bool
  are_safe tree.no_exps = true
  are_safe (tree.exp e es) = is_safe e && are_safe es

  pub have_safe : Branches → Bool
  have_safe tree.no_branches = true
  have_safe (tree.branch c v bs) = is_safe c && is_safe v && have_safe bs

abbrev pub is_safe_condition : Option Exp → Bool
is_safe_condition None = true
is_safe_condition (Some e) = is_safe e

abbrev pub is_safe_join : JoinTree → Bool
is_safe_join (tree.on kind s e) = is_safe e
is_safe_join (tree.cross s) = true

-- ---- columns

abbrev pub outer_of : Text → Column → List Column
outer_of alias x = filter (λ y. not (same_text y.source alias)) (x ∷ [])

-- the columns of the sources around an EXISTS, on either side of an equality
abbrev pub outer_columns : Text → Equality → List Column
outer_columns alias e = outer_of alias e.left ++ outer_of alias e.right

-- the columns that an expression names, those of the table of an EXISTS left out
abbrev mutual
  pub columns_in : Exp → List Column
  columns_in (tree.binary a o b) = columns_in a ++ columns_in b
  columns_in (tree.unary o e) = columns_in e
  columns_in (tree.is_null e negated) = columns_in e
  columns_in (tree.in_list e negated ls) = columns_in e
  columns_in (tree.constant x) = []
  columns_in (tree.column x) = x ∷ []
  columns_in (tree.call f es) = columns_of es
  columns_in tree.count_all = []
  columns_in (tree.aggregate f e) = columns_in e
  columns_in (tree.case_when bs e) = columns_within bs ++ columns_in e
  columns_in (tree.exists s es) = flat_map (outer_columns s.alias) es

  pub columns_of : Exps → List Column
  columns_of tree.no_exps = []
  columns_of (tree.exp e es) = columns_in e ++ columns_of es

  pub columns_within : Branches → List Column
  columns_within tree.no_branches = []
  columns_within (tree.branch c v bs) = columns_in c ++ columns_in v ++ columns_within bs

-- it names columns of sources with these aliases alone
abbrev pub NamesOnly : List Text → Exp → Type 0
NamesOnly aliases e = AllByRecursion (λ x. is_among x.source aliases ≡ true) (columns_in e)

-- ---- the rule

abbrev pub join_alias : JoinTree → Text
join_alias j = (join_source j).alias

-- the aliases of the sources left of a join
abbrev pub aliases_left : SelectTree → ℕ → List Text
aliases_left s n = s.source.alias ∷ map join_alias (take n s.joins)

abbrev pub is_full_kind : JoinKind → Bool
is_full_kind joining.Full = true
is_full_kind kind = false

abbrev pub is_full : JoinTree → Bool
is_full (tree.on kind s e) = is_full_kind kind
is_full (tree.cross s) = false

-- nothing that FROM and WHERE evaluate can have a fault
pub record IsSafe (s : SelectTree) : Type 0 where
  pub joins : AllByRecursion (λ j. is_safe_join j ≡ true) s.joins
  pub condition : is_safe_condition s.condition ≡ true

-- A conjunct may be tried before a join where nothing can have a fault, neither this join nor a later one is FULL, and it names columns
-- of sources left of the join alone.
pub record MayBeEarly (s : SelectTree) (e : Early) : Type 0 where
  pub safe : IsSafe s
  pub lasting : AllByRecursion (λ j. is_full j ≡ false) (drop e.join s.joins)
  pub join : IsAt (λ j. Unit {0}) e.join s.joins
  pub conjunct : IsAt (NamesOnly (aliases_left s e.join)) e.conjunct (conjuncts_of s.condition)

-- each entry names a conjunct that may be tried before its join
abbrev pub NamesEarly : QueryTree → Early → Type 0
NamesEarly q e = IsAt (λ s. MayBeEarly s e) e.select q
