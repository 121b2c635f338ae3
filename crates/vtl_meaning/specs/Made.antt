-- What typing gives: which expressions are typed over which columns, and how the structure of a result fits its operands.
use Rattle.std.specs.Prelude.{◌≡◌, ◌==◌, ℕ, zero, suc, Bool, true, false, not, ◌&&◌, ◌||◌, cond, List, [], ◌∷◌, ◌++◌, length, map, Option, Some, None, slice_get}
use Rattle.std.specs.List.{AllByRecursion, flat_map, list_any}
use Rattle.std.specs.Option.{IfSome, is_none}
use Rattle.vtl_decimal.specs.Settings.{Settings}
use Rattle.vtl_lists.specs.Apart.{all_apart}
use Rattle.vtl_cell.specs.Profile.{IsOfProfile}
use Rattle.vtl_cell.specs.ScalarKinds.{kinds_of, meets}
use Rattle.vtl_cell.specs.declared.kind.Kind.{Kind}
use Rattle.vtl_cell.specs.declared.kind.Kind.TheVariants as k
use Rattle.vtl_cell.specs.declared.operator.AggKind.{AggKind}
use Rattle.vtl_cell.specs.declared.operator.AggKind.TheVariants as agg
use Rattle.vtl_cell.specs.declared.operator.ScalarOp.{ScalarOp}
use Rattle.vtl_cell.specs.Kinds.{is_of}
use Rattle.vtl_tree.specs.CompExp.{CompExp, CompExps, column, const, call, aggregate, no_comp_exps, comp_exp}
use Rattle.vtl_syntax.specs.declared.word_groups.JoinKind.{JoinKind}
use Rattle.vtl_syntax.specs.declared.word_groups.JoinKind.TheVariants as join
use Rattle.vtl_tree.specs.Structure.{IsStructure, columns_of, names_of, of_role, same_name}
use Rattle.vtl_tree.specs.declared.expression.AggCall.{AggCall}
use Rattle.vtl_tree.specs.declared.structure.Component.{Component}
use Rattle.vtl_tree.specs.declared.structure.Role.TheVariants as role
use Rattle.vtl_tree.specs.declared.structure.Structure.{Structure}
use Rattle.vtl_tree.specs.Trees as nodes
use Rattle.vtl_tree.specs.Trees.{AggTree, AnalyticTree, ItemTree, MeasureTree, ValueTree}
use Rattle.vtl_tree.specs.declared.calls.AnalyticOp.{AnalyticOp}
use Rattle.vtl_tree.specs.declared.calls.AnalyticOp.TheVariants as window
use Rattle.vtl_tree.specs.declared.calls.Window.{Window}
use Rattle.vtl_tree.specs.declared.clauses.SubItem.{SubItem}
use Rattle.vtl_tree.specs.Choices.{chosen}
use Rattle.vtl_tree.specs.ClauseShapes.{first_kind, names_column, pivot_components}
use Rattle.vtl_tree.specs.Measures.{bool_var, given_measures, is_miscounted, made}
use Rattle.vtl_tree.specs.Operands.{agree, agreed_identifiers}
use Rattle.vtl_tree.specs.Pairs.{contains, pair_identifiers}
use Rattle.vtl_tree.specs.declared.choices.Choice.TheVariants as choice
use Rattle.vtl_tree.specs.declared.operands.Compared.TheVariants as compared
use Rattle.vtl_tree.specs.Kinds.{exp_kind}
use Rattle.vtl_cell.specs.AggregateKinds.{aggregate_kind}
use Rattle.vtl_meaning.specs.AggregateShapes.{IsAggregated}
use Rattle.vtl_meaning.specs.AnalyticShapes.{IsAnalyzed}
use Rattle.vtl_tree.specs.Columns.{common_identifiers, identifiers_of, kind_named, measures_of, others_of, place_of}
use Rattle.vtl_meaning.specs.Joined.{reference_place}
use Rattle.vtl_meaning.specs.Literals.{HasLiterals}
use Rattle.vtl_meaning.specs.Operators.{calculated_exps, measured_exps, pair_columns, pair_exps, target_named}
use Rattle.vtl_meaning.specs.Shapes.{IsChosen, IsJoinedFrom, IsRenamedBy, calculated_components, given_between, given_of_two, outcome_of, target_of}
use Rattle.vtl_meaning.specs.Turned.{codes_of, other_identifiers}

-- ---- expressions
-- the column at a place has this name and this kind
abbrev pub IsColumnAt : ℕ → List ℕ → Kind → List Component → Type 0
IsColumnAt place name kind [] = ⊥
IsColumnAt zero name kind (x ∷ xs) = (x.name ≡ name) × (x.kind ≡ kind)
IsColumnAt (suc place) name kind (x ∷ xs) = IsColumnAt place name kind xs

abbrev pub kinds_in : CompExps → List Kind
kinds_in no_comp_exps = []
kinds_in (comp_exp e es) = exp_kind e ∷ kinds_in es

-- Each column is one of these, each constant is a value of the profile, and each operator is one that scripts spell, with the
-- kind of its row, and with literals where it asks for them.
abbrev mutual
  pub IsTyped : Settings → List Component → CompExp → Type 0
  IsTyped p xs (column place name kind) = IsColumnAt place name kind xs
  IsTyped p xs (const v) = IsOfProfile p v
  IsTyped p xs (call o kind args) = (kinds_of o (kinds_in args) ≡ Some kind) × AreTyped p xs args × HasLiterals o args
  IsTyped p xs (aggregate a kind) = ⊥

  pub AreTyped : Settings → List Component → CompExps → Type 0
  AreTyped p xs no_comp_exps = Unit {0}
  AreTyped p xs (comp_exp e es) = IsTyped p xs e × AreTyped p xs es

-- ---- expressions over groups
-- Typed, where these columns and these aggregates may stand. An aggregate is an operand like another.
abbrev mutual
  pub IsTypedOver : Settings → (columns : ℕ → List ℕ → Kind → Type 0) → (aggregates : AggCall → Kind → Type 0) → CompExp → Type 0
  IsTypedOver p columns aggregates (column place name kind) = columns place name kind
  IsTypedOver p columns aggregates (const v) = IsOfProfile p v
  IsTypedOver p columns aggregates (call o kind args) = (kinds_of o (kinds_in args) ≡ Some kind) × AreTypedOver p columns aggregates args × HasLiterals o args
  IsTypedOver p columns aggregates (aggregate a kind) = aggregates a kind

  pub AreTypedOver : Settings → (columns : ℕ → List ℕ → Kind → Type 0) → (aggregates : AggCall → Kind → Type 0) → CompExps → Type 0
  AreTypedOver p columns aggregates no_comp_exps = Unit {0}
  AreTypedOver p columns aggregates (comp_exp e es) = IsTypedOver p columns aggregates e × AreTypedOver p columns aggregates es

-- a grouping identifier among the components of the points
abbrev pub IsGroupedColumn : (names : List (List ℕ)) → List Component → ℕ → List ℕ → Kind → Type 0
IsGroupedColumn names xs place name kind = IsColumnAt place name kind xs × (list_any (same_name name) names ≡ true)

-- an aggregate of the values of a component, or how many points there are
abbrev pub Aggregates : List Component → AggKind → Option (List ℕ) → Kind → Type 0
Aggregates xs f None kind = (f ≡ agg.Count) × (kind ≡ k.Int)
Aggregates xs f (Some name) kind = IsColumnAt (place_of name xs) name (kind_named name xs) xs × (aggregate_kind f (kind_named name xs) ≡ Some kind)

-- typed over groups by these identifiers of points with these columns
abbrev pub IsTypedInGroups : Settings → (names : List (List ℕ)) → List Component → CompExp → Type 0
IsTypedInGroups p names xs e = IsTypedOver p (IsGroupedColumn names xs) (λ a kind. Aggregates xs a.kind a.component kind) e

-- as many expressions as columns, each typed over the columns that it sees and of the kind of the one that it makes
abbrev pub AreFor : Settings → List Component → List CompExp → List Component → Type 0
AreFor p xs [] [] = Unit {0}
AreFor p xs [] (y ∷ ys) = ⊥
AreFor p xs (e ∷ es) [] = ⊥
AreFor p xs (e ∷ es) (y ∷ ys) = IsTyped p xs e × (exp_kind e ≡ y.kind) × AreFor p xs es ys

-- the columns are columns of these names and kinds
abbrev pub AreAmong : List Component → List Component → Type 0
AreAmong ys xs = AllByRecursion (λ y. IsColumnAt (place_of y.name xs) y.name y.kind xs) ys

-- the same identifiers, in the same order
abbrev pub HasIdentifiers : Structure → List Component → Type 0
HasIdentifiers s xs = (names_of (identifiers_of s) ≡ names_of xs) × (map (λ x. x.kind) (identifiers_of s) ≡ map (λ x. x.kind) xs)

-- ---- how a structure fits an operator and its operands
-- It is the one that typing gives (`shape`); the other fields say what follows for its columns. They are what an operator needs,
-- and ask less than typing: an identifier without codes may be turned by `pivot`, a data set without measures by `unpivot`, an
-- operand of a left join may lack identifiers of the reference, and `using`, aliases and the number of operands are not seen.
pub record IsMeasured (p : Settings) (m : MeasureTree) (a s : Structure) : Type 0 where
  pub well_formed : IsStructure s
  pub identifiers : HasIdentifiers s (identifiers_of a)
  pub columns : AreFor p (columns_of a) (measured_exps m a s) (columns_of s)
  pub counted : is_miscounted (outcome_of m.op) (length (measures_of a)) ≡ false
  pub shape : s.components ≡ identifiers_of a ++ given_measures (outcome_of m.op) (given_between m) None a.components

pub record IsPaired (p : Settings) (o : ScalarOp) (a b s : Structure) : Type 0 where
  pub well_formed : IsStructure s
  pub contained : contains a b || contains b a ≡ true
  pub identifiers : HasIdentifiers s (identifiers_of (cond (contains a b) a b))
  pub columns : AreFor p (pair_columns a b) (pair_exps o a b s) (columns_of s)
  pub counted : is_miscounted (outcome_of o) (length (measures_of a)) ≡ false
  pub alike : agree compared.Names role.Measure a.components b.components ≡ true
  pub shape : s.components ≡ pair_identifiers a b ++ given_measures (outcome_of o) (given_of_two o) (Some b.components) a.components

-- an operand of `if` has the condition's identifiers, in any order, and the measures of the result
pub record IsAlternative (t a s : Structure) : Type 0 where
  pub there : AreAmong (identifiers_of a) (identifiers_of t)
  pub back : AreAmong (identifiers_of t) (identifiers_of a)
  pub measures : AreAmong (measures_of s) (columns_of a)

pub record IsChoice (t a b s : Structure) : Type 0 where
  pub well_formed : IsStructure s
  pub tested : map (λ x. x.kind) (measures_of t) ≡ k.Bool ∷ []
  pub first : IsAlternative t a s
  pub second : IsAlternative t b s
  pub identifiers : HasIdentifiers s (identifiers_of t)
  pub no_attributes : columns_of s ≡ identifiers_of s ++ measures_of s
  pub alike : agree compared.Kinds role.Measure a.components b.components ≡ true
  pub shape : s.components ≡ agreed_identifiers (a ∷ b ∷ []) t.components ++ measures_of a

pub record IsFiltered (p : Settings) (e : CompExp) (a s : Structure) : Type 0 where
  pub same : s ≡ a
  pub condition : IsTyped p (columns_of a) e
  pub boolean : meets k.Bool (exp_kind e) ≡ true

pub record IsCalculated (p : Settings) (items : List ItemTree) (a s : Structure) : Type 0 where
  pub well_formed : IsStructure s
  pub identifiers : HasIdentifiers s (identifiers_of a)
  pub free : AllByRecursion (λ x. target_named items x.name ≡ None) (identifiers_of a)
  pub columns : AreFor p (columns_of a) (calculated_exps items a s) (columns_of s)
  pub apart : all_apart same_name (map (λ i. i.target) items) ≡ true
  pub shape : s.components ≡ calculated_components (map (target_of a.components) items) a.components

-- `having`, where it is written, is a condition on groups
abbrev pub IsGroupCondition : Settings → AggTree → Structure → CompExp → Type 0
IsGroupCondition p spec a e = IsTypedInGroups p spec.grouping (columns_of a) e × (meets k.Bool (exp_kind e) ≡ true)

pub record IsGrouped (p : Settings) (spec : AggTree) (a s : Structure) : Type 0 where
  pub aggregated : IsAggregated spec a s
  pub condition : IfSome spec.having (IsGroupCondition p spec a)

-- ---- analytic calls
-- the components that a window names are columns
abbrev pub IsNamedColumn : List Component → List ℕ → Type 0
IsNamedColumn xs name = IsColumnAt (place_of name xs) name (kind_named name xs) xs

abbrev pub is_ordered : Window → Bool
is_ordered w = not (length w.order == 0)

abbrev pub is_unframed : Window → Bool
is_unframed w = is_none w.frame

-- `lag`, `lead` and `rank` have an order and no frame, `ratio_to_report` has neither
abbrev pub is_suited : AnalyticOp → Window → Bool
is_suited (window.Lag n default) w = is_ordered w && is_unframed w
is_suited (window.Lead n default) w = is_ordered w && is_unframed w
is_suited window.Rank w = is_ordered w && is_unframed w
is_suited window.RatioToReport w = not (is_ordered w) && is_unframed w
is_suited o w = true

pub record IsWindowOver (xs : List Component) (o : AnalyticOp) (w : Window) : Type 0 where
  pub partition : AllByRecursion (IsNamedColumn xs) w.partition
  pub order : AllByRecursion (λ key. IsNamedColumn xs key.component) w.order
  pub suited : is_suited o w ≡ true

-- the value of a target
abbrev pub IsValueOver : Settings → List Component → ValueTree → Type 0
IsValueOver p xs (nodes.scalar e) = IsTyped p xs e
IsValueOver p xs (nodes.analytic x) = IsWindowOver xs x.op x.window

abbrev pub AreValuesOver : Settings → List Component → AnalyticTree → Type 0
AreValuesOver p xs (nodes.of_measures o w) = IsWindowOver xs o w
AreValuesOver p xs (nodes.of_items items) = AllByRecursion (λ i. IsValueOver p xs i.value) items

pub record IsWindowed (p : Settings) (spec : AnalyticTree) (a s : Structure) : Type 0 where
  pub analyzed : IsAnalyzed p spec a s
  pub values : AreValuesOver p (columns_of a) spec

-- Some of the columns, with all identifiers: `keep`, `drop`, `a#m`. Which ones, `IsChosen` says.
pub record IsLeft (a s : Structure) : Type 0 where
  pub well_formed : IsStructure s
  pub identifiers : HasIdentifiers s (identifiers_of a)
  pub columns : AreAmong (columns_of s) (columns_of a)

-- Other names in the same places. Which ones, `IsRenamedBy` says.
pub record IsRenamed (a s : Structure) : Type 0 where
  pub well_formed : IsStructure s
  pub kinds : map (λ x. x.kind) (columns_of s) ≡ map (λ x. x.kind) (columns_of a)
  pub roles : map (λ x. x.role) (columns_of s) ≡ map (λ x. x.role) (columns_of a)

-- some of the columns; each identifier is left, or is one at whose value the points are taken
pub record IsSub (items : List SubItem) (a s : Structure) : Type 0 where
  pub well_formed : IsStructure s
  pub columns : AreAmong (columns_of s) (columns_of a)
  pub left : AreAmong (identifiers_of s) (identifiers_of a)
  pub identifiers : AllByRecursion (λ x. list_any (λ y. same_name y.name x.name) (identifiers_of s) || list_any (λ i. same_name i.id x.name) items ≡ true) (identifiers_of a)
  pub values : AllByRecursion (λ i. (is_of (kind_named i.id (identifiers_of a)) i.value ≡ true) × IsColumnAt (place_of i.id (identifiers_of a)) i.id (kind_named i.id (identifiers_of a)) (identifiers_of a)) items
  pub shape : s.components ≡ chosen choice.Drop (map (λ i. i.id) items) a.components

-- ---- joins
abbrev pub component_kinds : List Component → List Kind
component_kinds xs = map (λ x. x.kind) xs

-- the kinds of some columns of all operands, operand by operand
abbrev pub kinds_of_all : (Structure → List Component) → List Structure → List Kind
kinds_of_all f ss = flat_map (λ a. component_kinds (f a)) ss

abbrev pub attributes_of : Structure → List Component
attributes_of s = of_role role.Attribute s

-- How the identifiers of the operands go with those of the reference, and what the identifiers of the result are. In inner and
-- left joins the reference has all of each operand's identifiers, in full joins the operands have the same; a cross join keeps
-- those of every operand.
abbrev pub GoTogether : JoinKind → (reference : Structure) → List Structure → Structure → Type 0
GoTogether join.Inner r ss s = HasIdentifiers s (identifiers_of r) × AllByRecursion (λ a. AreAmong (identifiers_of a) (identifiers_of r)) ss
GoTogether join.Left r ss s = HasIdentifiers s (identifiers_of r) × AllByRecursion (λ a. AreAmong (identifiers_of a) (identifiers_of r)) ss
GoTogether join.Full r ss s = HasIdentifiers s (identifiers_of r) × AllByRecursion (λ a. AreAmong (identifiers_of a) (identifiers_of r) × AreAmong (identifiers_of r) (identifiers_of a)) ss
GoTogether join.Cross r ss s = component_kinds (identifiers_of s) ≡ kinds_of_all identifiers_of ss

-- The columns of a joined set. Their names, `IsJoinedFrom` says.
pub record IsJoined (kind : JoinKind) (ss : List Structure) (s : Structure) : Type 0 where
  pub well_formed : IsStructure s
  pub reference : Structure
  pub there : slice_get ss (reference_place kind ss) ≡ Some reference
  pub identifiers : GoTogether kind reference ss s
  pub measures : component_kinds (measures_of s) ≡ kinds_of_all measures_of ss
  pub attributes : component_kinds (attributes_of s) ≡ kinds_of_all attributes_of ss

-- ---- set operators
-- the first operand's identifiers and measures; each operand has them, in any order
pub record IsCombined (a : Structure) (bs : List Structure) (s : Structure) : Type 0 where
  pub well_formed : IsStructure s
  pub identifiers : HasIdentifiers s (identifiers_of a)
  pub operands : AllByRecursion (λ b. IsAlternative s b s) (a ∷ bs)
  pub no_attributes : columns_of s ≡ identifiers_of s ++ measures_of s
  pub shape : s.components ≡ agreed_identifiers bs a.components ++ measures_of a

abbrev pub AreCombined : List Structure → Structure → Type 0
AreCombined [] s = ⊥
AreCombined (a ∷ bs) s = IsCombined a bs s

-- `exists_in`: the first operand's identifiers and a truth value; the identifiers that both have are of the same kinds
pub record IsExistence (a b s : Structure) : Type 0 where
  pub well_formed : IsStructure s
  pub identifiers : HasIdentifiers s (identifiers_of a)
  pub truth : component_kinds (others_of s) ≡ k.Bool ∷ []
  pub common : AreAmong (common_identifiers a b) (identifiers_of a)
  pub shape : s.components ≡ agreed_identifiers (b ∷ []) a.components ++ bool_var ∷ []

-- ---- `pivot` and `unpivot`
-- the other identifiers, and a measure of the measure's kind for each code
pub record IsPivoted (id m : List ℕ) (a s : Structure) : Type 0 where
  pub well_formed : IsStructure s
  pub identifiers : HasIdentifiers s (other_identifiers id a)
  pub coded : IsColumnAt (place_of id (identifiers_of a)) id (kind_named id (identifiers_of a)) (identifiers_of a)
  pub measured : IsColumnAt (place_of m (columns_of a)) m (kind_named m (columns_of a)) (columns_of a)
  pub measures : component_kinds (others_of s) ≡ map (λ code. kind_named m (columns_of a)) (codes_of id a)
  pub shape : s.components ≡ pivot_components id (kind_named m (columns_of a)) (codes_of id a) a.components

-- the identifiers, one of texts behind them, and a measure of the kind that all measures have
pub record IsUnpivoted (id m : List ℕ) (a s : Structure) : Type 0 where
  pub well_formed : IsStructure s
  pub identifiers : HasIdentifiers s (identifiers_of a ++ names_column id (measures_of a) ∷ [])
  pub measured : component_kinds (others_of s) ≡ first_kind (measures_of a) ∷ []
  pub alike : AllByRecursion (λ x. x.kind ≡ first_kind (measures_of a)) (measures_of a)
  pub shape : s.components ≡ chosen choice.Except [] a.components ++ names_column id (measures_of a) ∷ made m role.Measure (first_kind (measures_of a)) ∷ []
