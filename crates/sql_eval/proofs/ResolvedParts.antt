-- Resolved expressions have the values of the expressions, part by part.
use Rattle.std.proofs.Common.{rules, Box, Global, Vec, ◌≡◌, ◌∙◌, ◌+◌, ◌<◌, ◌≤◌, ℕ, Bool, true, false, cond, ◌&&◌, List, [], ◌∷◌, ◌++◌, length, get_or, drop, map, Option, Some, None, Result, Ok, Err, IfOk, refl, ap, sym, subst, append_assoc, append-nil}
use Rattle.std.proofs.lemmas.List.{drop_all, drop_more, map-append}
use Rattle.std.specs.List.{list_all, list_any}
use Rattle.vtl_cell.specs.Conversion.{as_kind}
use Rattle.vtl_cell.specs.Groups.{group_value}
use Rattle.vtl_cell.specs.Outcome.{Outcome, after}
use Rattle.vtl_cell.specs.Outcomes.{all_of, branch, first_chosen, is_true, result_of}
use Rattle.vtl_lists.specs.Perm.{Perm}
use Rattle.vtl_cell.specs.Row.{Row}
use Rattle.vtl_cell.specs.ScalarComparison.{truth}
use Rattle.vtl_cell.specs.ScalarKinds.{common_kind}
use Rattle.vtl_cell.specs.Scalars.{scalar_of}
use Rattle.vtl_decimal.specs.Settings.{Settings}
use Rattle.vtl_cell.specs.declared.cell.Cell.{Cell}
use Rattle.vtl_cell.specs.declared.cell.Cell.TheVariants as c
use Rattle.vtl_cell.specs.declared.kind.Kind.{Kind}
use Rattle.vtl_cell.specs.declared.kind.Kind.TheVariants as k
use Rattle.vtl_cell.specs.declared.operator.AggKind.{AggKind}
use Rattle.vtl_cell.specs.declared.operator.ScalarOp.{ScalarOp}
use Rattle.vtl_cell.specs.declared.operator.ScalarOp.TheVariants as op
use Rattle.vtl_series.specs.Series.{series_rows}
use Rattle.vtl_scalar.proofs.MemberLemmas.{membership_of_perm}
use Rattle.vtl_cell.specs.AggregateKinds.{aggregate_kind}
use Rattle.sql_tree.specs.Trees as tree
use Rattle.sql_tree.specs.Trees.{Branches, Exp, Exps, Text, exps_of}
use Rattle.sql_tree.specs.View.{branch_tree, expr_tree}
use Rattle.sql_tree.specs.declared.expressions.Branch.{Branch}
use Rattle.sql_tree.specs.declared.expressions.SqlExpr as expr
use Rattle.sql_tree.specs.declared.expressions.SqlExpr.{SqlExpr}
use Rattle.sql_tree.specs.declared.parts.Column.{Column}
use Rattle.sql_tree.specs.declared.parts.Constant.{Constant}
use Rattle.sql_tree.specs.declared.parts.Equality.{Equality}
use Rattle.sql_tree.specs.declared.parts.Literal.{Literal}
use Rattle.sql_tree.specs.declared.parts.Series.{Series}
use Rattle.sql_tree.specs.declared.parts.Source.{Source}
use Rattle.sql_check_parts.specs.Exists.{Inner, inner_of, is_inner}
use Rattle.sql_check_parts.specs.Kinds.{given_kind, kind_in, kinds_in, value_kinds}
use Rattle.sql_check_parts.specs.Scopes.{Columns, Scope, Tables, or_null}
use Rattle.sql_meaning.specs.Outcomes.{all_values, operated}
use Rattle.sql_meaning.specs.Tables.{columns_named, given_rows}
use Rattle.sql_meaning.specs.Values as meaning
use Rattle.sql_meaning.specs.Values.{View, chosen, inner_scope, literal_cell, null_test, place_in, set_operator, value, values}
use Rattle.sql_eval.specs.Origins.{AreSame, AreSameSeries, IsMaybeSeriesOf, IsOriginOf, rows_at, rows_by}
use Rattle.sql_eval.specs.Placed.{Placed, aggregate, apply, asked, choose, const, is_tied, membership, membership_value, placed_choice, placed_value, placed_values, side_cell, there}
use Rattle.sql_eval.specs.Resolves.{AllResolve, BranchesResolve, Resolves, Sight, place_at, side_of, sight, tie_of, view_over}
use Rattle.sql_eval.specs.View.{branch_of, branches_of, placed_of, placeds_of}
use Rattle.sql_eval.specs.declared.kinded.Branches.{Branches as ResolvedBranches}
use Rattle.sql_eval.specs.declared.kinded.Kinded.{Kinded}
use Rattle.sql_eval.specs.declared.kinded.Operands.{Operands}
use Rattle.sql_eval.specs.declared.names.Level.{Level}
use Rattle.sql_eval.specs.declared.names.Level.TheVariants as levels
use Rattle.sql_eval.specs.declared.origin.Origin.{Origin}
use Rattle.sql_eval.specs.declared.origin.SeriesPlaces.{SeriesPlaces}
use Rattle.sql_eval.specs.declared.resolved.Existence.{Existence}
use Rattle.sql_eval.specs.declared.resolved.Resolved as resolved
use Rattle.sql_eval.specs.declared.resolved.Resolved.{Resolved, Exists, Membership}
use Rattle.sql_eval.specs.declared.resolved.Side.TheVariants as side

-- what two clauses say of one answer
pub both : {A E : Type 0} {P Q R : A → Type 0} (r : Result A E) → IfOk r P → IfOk r Q → ((x : A) → P x → Q x → R x) → IfOk r R
both (Ok x) p q f = f x p q
both (Err e) p q f = tt

pub mapped : {A E : Type 0} {P Q : A → Type 0} (r : Result A E) → IfOk r P → ((x : A) → P x → Q x) → IfOk r Q
mapped (Ok x) p f = f x p
mapped (Err e) p f = tt

-- ---- operands

-- operands, before others that are still to come
pub record Goes (s : Sight) (behind whole : Exps) (x : Operands) : Type 0 where
  pub kinds_are : x.kinds.items ++ kinds_in s.scope behind ≡ kinds_in s.scope whole
  pub values_are : (rows : Text → List Row) (r : Row) (g : List Row) → map (λ e. placed_value s.settings rows (placed_of e) r g) x.exps.items ++ values (view_over s rows) behind r g ≡ values (view_over s rows) whole r g

-- one more operand
pub record Put (e : Kinded) (x y : Operands) : Type 0 where
  pub exps_are : y.exps.items ≡ x.exps.items ++ e.exp ∷ []
  pub kinds_are : y.kinds.items ≡ x.kinds.items ++ e.kind ∷ []

pub goes_from : (s : Sight) (whole : Exps) (x : Operands) → x.exps.items ≡ [] → x.kinds.items ≡ [] → Goes s whole whole x
goes_from s whole x exps kinds = record {
  kinds_are = ap (λ l. l ++ kinds_in s.scope whole) kinds;
  values_are = λ rows r g. ap (λ l. map (λ e. placed_value s.settings rows (placed_of e) r g) l ++ values (view_over s rows) whole r g) exps;
}

pub goes_on : (s : Sight) (t : Exp) (behind whole : Exps) (e : Kinded) (x y : Operands) → Resolves s t e → Put e x y → Goes s (tree.exp t behind) whole x → Goes s behind whole y
goes_on s t behind whole e x y h put goes = record {
  kinds_are =
      ap (λ l. l ++ kinds_in s.scope behind) put.kinds_are
      ∙ append_assoc x.kinds.items (e.kind ∷ []) (kinds_in s.scope behind)
      ∙ ap (λ kind. x.kinds.items ++ kind ∷ kinds_in s.scope behind) h.kind_is
      ∙ goes.kinds_are;
  values_are = λ rows r g.
      let f = λ (a : Resolved). placed_value s.settings rows (placed_of a) r g in
      let more = values (view_over s rows) behind r g in
      ap (λ l. map f l ++ more) put.exps_are
      ∙ ap (λ l. l ++ more) (map-append f x.exps.items (e.exp ∷ []))
      ∙ append_assoc (map f x.exps.items) (f e.exp ∷ []) more
      ∙ ap (λ m. map f x.exps.items ++ m ∷ more) (h.value_is rows r g)
      ∙ goes.values_are rows r g;
}

items_are : (p : Settings) (rows : Text → List Row) (r : Row) (g : List Row) (es : List Resolved) → placed_values p rows (placeds_of (map placed_of es)) r g ≡ map (λ e. placed_value p rows (placed_of e) r g) es
items_are p rows r g [] = refl
items_are p rows r g (e ∷ es) = ap (λ l. placed_value p rows (placed_of e) r g ∷ l) (items_are p rows r g es)

pub goes_through : (s : Sight) (whole : Exps) (x : Operands) → Goes s tree.no_exps whole x → AllResolve s whole x
goes_through s whole x goes = record {
  kinds_are = sym (append-nil x.kinds.items) ∙ goes.kinds_are;
  values_are = λ rows r g.
      items_are s.settings rows r g x.exps.items
      ∙ sym (append-nil (map (λ e. placed_value s.settings rows (placed_of e) r g) x.exps.items))
      ∙ goes.values_are rows r g;
}

-- the operands of a call, from a place on
abbrev pub OperandsFrom : Sight → List SqlExpr → ℕ → Operands → Type 0
OperandsFrom s es i x = Goes s (exps_of (map expr_tree (drop i es))) (exps_of (map expr_tree es)) x

pub operand_taken : (s : Sight) (es : List SqlExpr) (i : ℕ) (e : SqlExpr) (t : Kinded) (x y : Operands) → i < length es → e ≡ get_or es i e → Resolves s (expr_tree e) t → Put t x y → OperandsFrom s es i x → OperandsFrom s es (i + 1) y
operand_taken s es i e t x y l is h put goes =
    goes_on s (expr_tree e) (exps_of (map expr_tree (drop (i + 1) es))) (exps_of (map expr_tree es)) t x y h put
    (subst (λ more. Goes s (exps_of (map expr_tree more)) (exps_of (map expr_tree es)) x) (drop_more es i e l ∙ ap (λ a. a ∷ drop (i + 1) es) (sym is)) goes)

pub operands_done : (s : Sight) (es : List SqlExpr) (i : ℕ) (x : Operands) → length es ≤ i → OperandsFrom s es i x → AllResolve s (exps_of (map expr_tree es)) x
operands_done s es i x l goes = goes_through s (exps_of (map expr_tree es)) x (subst (λ more. Goes s (exps_of (map expr_tree more)) (exps_of (map expr_tree es)) x) (drop_all i es l) goes)

-- an operator on operands
pub call_resolves : (s : Sight) (o : ScalarOp) (es : Exps) (x : Operands) (z : Kinded) → AllResolve s es x → z.kind ≡ given_kind o x.kinds.items → placed_of z.exp ≡ apply o z.kind (placeds_of (map placed_of x.exps.items)) → Resolves s (tree.call o es) z
call_resolves s o es x z h kind is = record {
  kind_is = kind ∙ ap (given_kind o) h.kinds_are;
  value_is = λ rows r g.
      ap (λ e. placed_value s.settings rows e r g) is
      ∙ (λ i. operated s.settings ((kind ∙ ap (given_kind o) h.kinds_are) i) (h.values_are rows r g i) o);
}

pub binary_resolves : (s : Sight) (a b : Exp) (o : ScalarOp) (d e z : Kinded) → Resolves s a d → Resolves s b e → z.kind ≡ given_kind o (d.kind ∷ e.kind ∷ []) → placed_of z.exp ≡ apply o z.kind (placeds_of (placed_of d.exp ∷ placed_of e.exp ∷ [])) → Resolves s (tree.binary a o b) z
binary_resolves s a b o d e z x y kind is =
    let kind_is : z.kind ≡ kind_in s.scope (tree.binary a o b) = kind ∙ (λ i. given_kind o (x.kind_is i ∷ y.kind_is i ∷ [])) in
    record {
      kind_is = kind_is;
      value_is = λ rows r g. ap (λ t. placed_value s.settings rows t r g) is ∙ (λ i. operated s.settings (kind_is i) (x.value_is rows r g i ∷ y.value_is rows r g i ∷ []) o);
    }

pub unary_resolves : (s : Sight) (a : Exp) (o : ScalarOp) (d z : Kinded) → Resolves s a d → z.kind ≡ given_kind o (d.kind ∷ []) → placed_of z.exp ≡ apply o z.kind (placeds_of (placed_of d.exp ∷ [])) → Resolves s (tree.unary o a) z
unary_resolves s a o d z x kind is =
    let kind_is : z.kind ≡ kind_in s.scope (tree.unary o a) = kind ∙ (λ i. given_kind o (x.kind_is i ∷ [])) in
    record {
      kind_is = kind_is;
      value_is = λ rows r g. ap (λ t. placed_value s.settings rows t r g) is ∙ (λ i. operated s.settings (kind_is i) (x.value_is rows r g i ∷ []) o);
    }

-- ---- sets of literals

all_there : {A : Type 0} (f : A → Cell) (xs : List A) → all_of (map (λ x. Ok (f x)) xs) ≡ Ok (map f xs)
all_there f [] = refl
all_there f (x ∷ xs) = ap (λ m. after m (λ vs. Ok (f x ∷ vs))) (all_there f xs)

asked_of : (p : Settings) (negated : Bool) (vs : List Cell) (a : Cell) → result_of p (set_operator negated) k.Bool (a ∷ vs) ≡ membership_value p negated vs a
asked_of p true vs a = refl
asked_of p false vs a = refl

pub set_value : {A : Type 0} (p : Settings) (negated : Bool) (f : A → Cell) (xs : List A) (members : List Cell) → Perm members (map f xs) → (m : Outcome Cell) → after m (membership_value p negated members) ≡ operated p k.Bool (m ∷ map (λ x. Ok (f x)) xs) (set_operator negated)
set_value p negated f xs members perm (Err e) = refl
set_value p negated f xs members perm (Ok a) =
    ap (λ found. Ok (truth (asked negated found))) (membership_of_perm p a members (map f xs) perm)
    ∙ sym (asked_of p negated (map f xs) a)
    ∙ sym (ap (λ l. after (after l (λ ws. Ok (a ∷ ws))) (result_of p (set_operator negated) k.Bool)) (all_there f xs))

-- ---- CASE

-- Branches, before others that are still to come: with branches behind them that are worth what those are worth, they are worth the whole.
pub record BranchesGo (s : Sight) (behind whole : Branches) (x : ResolvedBranches) : Type 0 where
  pub kinds_are : x.kinds.items ++ value_kinds s.scope behind [] ≡ value_kinds s.scope whole []
  pub values_are : (rows : Text → List Row) (r : Row) (g : List Row) (last : Outcome Cell) (more : List (Placed × Placed)) → placed_choice s.settings rows (branches_of more) r g ≡ chosen (view_over s rows) behind r g last → placed_choice s.settings rows (branches_of (map branch_of x.branches.items ++ more)) r g ≡ chosen (view_over s rows) whole r g last

-- one more branch
pub record BranchPut (condition : Resolved) (v : Kinded) (x y : ResolvedBranches) : Type 0 where
  pub branches_are : map branch_of y.branches.items ≡ map branch_of x.branches.items ++ (placed_of condition, placed_of v.exp) ∷ []
  pub kinds_are : y.kinds.items ≡ x.kinds.items ++ v.kind ∷ []

pub branches_from : (s : Sight) (whole : Branches) (x : ResolvedBranches) → x.branches.items ≡ [] → x.kinds.items ≡ [] → BranchesGo s whole whole x
branches_from s whole x branches kinds = record {
  kinds_are = ap (λ l. l ++ value_kinds s.scope whole []) kinds;
  values_are = λ rows r g last more h. ap (λ l. placed_choice s.settings rows (branches_of (map branch_of l ++ more)) r g) branches ∙ h;
}

pub branch_goes : (s : Sight) (t v : Exp) (behind whole : Branches) (d e : Kinded) (x y : ResolvedBranches) → Resolves s t d → Resolves s v e → BranchPut d.exp e x y → BranchesGo s (tree.branch t v behind) whole x → BranchesGo s behind whole y
branch_goes s t v behind whole d e x y test h put goes = record {
  kinds_are =
      ap (λ l. l ++ value_kinds s.scope behind []) put.kinds_are
      ∙ append_assoc x.kinds.items (e.kind ∷ []) (value_kinds s.scope behind [])
      ∙ ap (λ kind. x.kinds.items ++ kind ∷ value_kinds s.scope behind []) h.kind_is
      ∙ goes.kinds_are;
  values_are = λ rows r g last more same.
      let b : Placed × Placed = (placed_of d.exp, placed_of e.exp) in
      ap (λ l. placed_choice s.settings rows (branches_of (l ++ more)) r g) put.branches_are
      ∙ ap (λ l. placed_choice s.settings rows (branches_of l) r g) (append_assoc (map branch_of x.branches.items) (b ∷ []) more)
      ∙ goes.values_are rows r g last (b ∷ more) (λ i. after (test.value_is rows r g i) (λ u. branch (first_chosen u) (h.value_is rows r g i) (same i)));
}

pub branches_through : (s : Sight) (whole : Branches) (x : ResolvedBranches) → BranchesGo s tree.no_branches whole x → BranchesResolve s whole x
branches_through s whole x goes = record {
  kinds_are = sym (append-nil x.kinds.items) ∙ goes.kinds_are;
  values_are = goes.values_are;
}

-- the branches from a place on
abbrev pub BranchesFrom : Sight → List Branch → ℕ → ResolvedBranches → Type 0
BranchesFrom s bs i x = BranchesGo s (tree.branches_of (map branch_tree (drop i bs))) (tree.branches_of (map branch_tree bs)) x

pub branch_taken : (s : Sight) (bs : List Branch) (i : ℕ) (b : Branch) (d e : Kinded) (x y : ResolvedBranches) → i < length bs → b ≡ get_or bs i b → Resolves s (branch_tree b).0 d → Resolves s (branch_tree b).1 e → BranchPut d.exp e x y → BranchesFrom s bs i x → BranchesFrom s bs (i + 1) y
branch_taken s bs i b d e x y l is test h put goes =
    branch_goes s (branch_tree b).0 (branch_tree b).1 (tree.branches_of (map branch_tree (drop (i + 1) bs))) (tree.branches_of (map branch_tree bs)) d e x y test h put
    (subst (λ more. BranchesGo s (tree.branches_of (map branch_tree more)) (tree.branches_of (map branch_tree bs)) x) (drop_more bs i b l ∙ ap (λ a. a ∷ drop (i + 1) bs) (sym is)) goes)

pub branches_done : (s : Sight) (bs : List Branch) (i : ℕ) (x : ResolvedBranches) → length bs ≤ i → BranchesFrom s bs i x → BranchesResolve s (tree.branches_of (map branch_tree bs)) x
branches_done s bs i x l goes = branches_through s (tree.branches_of (map branch_tree bs)) x (subst (λ more. BranchesGo s (tree.branches_of (map branch_tree more)) (tree.branches_of (map branch_tree bs)) x) (drop_all i bs l) goes)

values_behind : (scope : Scope) (bs : Branches) (kinds more : List Kind) → value_kinds scope bs kinds ++ more ≡ value_kinds scope bs (kinds ++ more)
values_behind scope tree.no_branches kinds more = refl
values_behind scope (tree.branch t v bs) kinds more = ap (λ l. kind_in scope v ∷ l) (values_behind scope bs kinds more)

-- ELSE as a branch that is always chosen
abbrev pub last_branch : Kinded → Placed × Placed
last_branch d = (const (c.Bool true), placed_of d.exp)

pub case_resolves : (s : Sight) (bs : Branches) (e : Exp) (x : ResolvedBranches) (d z : Kinded) → BranchesResolve s bs x → Resolves s e d → z.kind ≡ or_null (common_kind (x.kinds.items ++ d.kind ∷ [])) → placed_of z.exp ≡ choose z.kind (branches_of (map branch_of x.branches.items ++ last_branch d ∷ [])) → Resolves s (tree.case_when bs e) z
case_resolves s bs e x d z h last kind is =
    let kind_is : z.kind ≡ kind_in s.scope (tree.case_when bs e) =
    kind ∙ (λ i. or_null (common_kind (h.kinds_are i ++ last.kind_is i ∷ []))) ∙ ap (λ l. or_null (common_kind l)) (values_behind s.scope bs [] (kind_in s.scope e ∷ [])) in
    record {
      kind_is = kind_is;
      value_is = λ rows r g.
          ap (λ a. placed_value s.settings rows a r g) is
          ∙ (λ i. after (h.values_are rows r g (value (view_over s rows) e r g) (last_branch d ∷ []) (last.value_is rows r g) i) (as_kind s.settings (kind_is i)));
    }

-- ---- tests

pub null_resolves : (s : Sight) (a : Exp) (negated : Bool) (d z : Kinded) → Resolves s a d → z.kind ≡ k.Bool → ((rows : Text → List Row) (r : Row) (g : List Row) → placed_value s.settings rows (placed_of z.exp) r g ≡ null_test s.settings negated (placed_value s.settings rows (placed_of d.exp) r g)) → Resolves s (tree.is_null a negated) z
null_resolves s a negated d z h kind is = record {
  kind_is = kind;
  value_is = λ rows r g. is rows r g ∙ ap (null_test s.settings negated) (h.value_is rows r g);
}

pub in_resolves : (s : Sight) (a : Exp) (negated : Bool) (ls : List Literal) (d z : Kinded) → Resolves s a d → z.kind ≡ k.Bool
    → ((rows : Text → List Row) (r : Row) (g : List Row) → placed_value s.settings rows (placed_of z.exp) r g ≡ operated s.settings k.Bool (placed_value s.settings rows (placed_of d.exp) r g ∷ map (λ l. Ok (literal_cell s.settings l)) ls) (set_operator negated))
    → Resolves s (tree.in_list a negated ls) z
in_resolves s a negated ls d z h kind is = record {
  kind_is = kind;
  value_is = λ rows r g. is rows r g ∙ ap (λ m. operated s.settings k.Bool (m ∷ map (λ l. Ok (literal_cell s.settings l)) ls) (set_operator negated)) (h.value_is rows r g);
}

-- ---- groups

pub aggregate_resolves : (p : Settings) (tables : Tables) (scope : Scope) (f : AggKind) (a : Exp) (d z : Kinded) → Resolves (sight p tables scope levels.Rows) a d → z.kind ≡ or_null (aggregate_kind f d.kind) → placed_of z.exp ≡ aggregate f (placed_of d.exp) → (at : Level) → Resolves (sight p tables scope at) (tree.aggregate f a) z
aggregate_resolves p tables scope f a d z h kind is at = record {
  kind_is = kind ∙ ap (λ l. or_null (aggregate_kind f l)) h.kind_is;
  value_is = λ rows r g.
      ap (λ e. placed_value p rows e r g) is
      ∙ (λ i. after (all_values (λ q. h.value_is rows q [] i) g) (group_value p f));
}

-- ---- EXISTS

pick : {A B : Type 0} (f : A → B) (b : Bool) (x y : A) → f (cond b x y) ≡ cond b (f x) (f y)
pick f true x y = refl
pick f false x y = refl

module _ (v : View) (i : Inner) (outer : Row) where
  side_is : (inner : Row) (x : Column) → side_cell outer inner (side_of v.place i x) ≡ meaning.side_cell v i outer inner x
  side_is inner x = pick (side_cell outer inner) (is_inner i x) (side.Inner (place_in (inner_scope i) x)) (side.Outer (v.place x))

  tie_is : (inner : Row) (e : Equality) → is_tied v.base.settings outer inner (tie_of v.place i e) ≡ meaning.is_tied v i outer inner e
  tie_is inner e = λ j. is_true (scalar_of v.base.settings op.Equal (side_is inner e.left j ∷ side_is inner e.right j ∷ []))

  ties_are : (es : List Equality) (inner : Row) → list_all (is_tied v.base.settings outer inner) (map (tie_of v.place i) es) ≡ list_all (meaning.is_tied v i outer inner) es
  ties_are [] inner = refl
  ties_are (e ∷ es) inner = λ j. tie_is inner e j && ties_are es inner j

-- the rows of an origin are those of its source
series_are : (columns : Columns) (s : Option Series) (x : Option SeriesPlaces) (rows : List Row) → IsMaybeSeriesOf columns s x → rows_by x rows ≡ given_rows s columns rows
series_are columns None None rows h = refl
series_are columns None (Some x) rows h = absurd h
series_are columns (Some s) None rows h = absurd h
series_are columns (Some s) (Some x) rows h = λ i. series_rows (h.extent i) (h.on i) (h.by i) rows

pub origin_rows : (tables : Tables) (source : Source) (o : Origin) (rows : Text → List Row) → IsOriginOf tables source o → rows_at rows o ≡ given_rows source.series (columns_named tables source.table) (rows source.table)
origin_rows tables source o rows h = ap (λ name. rows_by o.series (rows name)) h.table ∙ series_are (columns_named tables source.table) source.series o.series (rows source.table) h.series

pub exists_resolves : (s : Sight) (source : Source) (es : List Equality) (z : Kinded) (o : Origin) → z.kind ≡ k.Bool → IsOriginOf s.tables source o → placed_of z.exp ≡ there o (map (tie_of (place_at s.scope s.level) (inner_of s.tables source)) es)
    → Resolves s (tree.exists source es) z
exists_resolves s source es z o kind of is = record {
  kind_is = kind;
  value_is = λ rows r g.
      ap (λ e. placed_value s.settings rows e r g) is
      ∙ (λ j. Ok (c.Bool (list_any (λ inner. ties_are (view_over s rows) (inner_of s.tables source) r es inner j) (origin_rows s.tables source o rows of j))));
}

-- the same origins have the same rows
pub same_rows : (o q : Origin) (rows : Text → List Row) → AreSame o q → rows_at rows o ≡ rows_at rows q
same_rows o q rows h = ap (λ name. rows_by o.series (rows name)) h.table ∙ same_series o.series q.series (rows q.table) h.series
  where
    same_series : (x y : Option SeriesPlaces) (rs : List Row) → AreSameSeries x y → rows_by x rs ≡ rows_by y rs
    same_series None None rs g = refl
    same_series None (Some y) rs g = absurd g
    same_series (Some x) None rs g = absurd g
    same_series (Some x) (Some y) rs g = λ i. series_rows (g.extent i) (g.on i) (g.by i) rs

-- ---- as the program has them

pub placed-Membership : (operand : Box Resolved Global) (negated : Bool) (members : List Cell) → placed_of (Membership operand negated members) ≡ membership (placed_of operand.value) negated members
placed-Membership operand negated members = search (rules, resolved.the_lemmas)

pub placed-Exists : (x : Existence) → placed_of (Exists x) ≡ there x.table x.ties.items
placed-Exists x = search (rules, resolved.the_lemmas)

pub tree-Constant : (x : Constant) → expr_tree (expr.Constant x) ≡ tree.constant x
tree-Constant x = search (rules, expr.the_lemmas)

pub tree-Column : (x : Column) → expr_tree (expr.Column x) ≡ tree.column x
tree-Column x = search (rules, expr.the_lemmas)

pub tree-CountAll : expr_tree expr.CountAll ≡ tree.count_all
tree-CountAll = search (rules, expr.the_lemmas)

pub tree-Aggregate : (f : AggKind) (e : Box SqlExpr Global) → expr_tree (expr.Aggregate f e) ≡ tree.aggregate f (expr_tree e.value)
tree-Aggregate f e = search (rules, expr.the_lemmas)

pub tree-Exists : (x : Source) (es : List Equality) → expr_tree (expr.Exists x es) ≡ tree.exists x es
tree-Exists x es = search (rules, expr.the_lemmas)

tree-Case : (bs : Vec Branch Global) (e : Box SqlExpr Global) → expr_tree (expr.Case bs e) ≡ tree.case_when (tree.branches_of (map branch_tree bs.items)) (expr_tree e.value)
tree-Case bs e = search (rules, expr.the_lemmas)

pub case_at : (s : Sight) (t : SqlExpr) (bs : Vec Branch Global) (l : Box SqlExpr Global) → t ≡ expr.Case bs l → (branches : List Branch) → branches ≡ bs.items → (a : SqlExpr) → a ≡ l.value → (x : ResolvedBranches) (d z : Kinded) → BranchesResolve s (tree.branches_of (map branch_tree branches)) x → Resolves s (expr_tree a) d
    → z.kind ≡ or_null (common_kind (x.kinds.items ++ d.kind ∷ [])) → placed_of z.exp ≡ choose z.kind (branches_of (map branch_of x.branches.items ++ last_branch d ∷ [])) → Resolves s (expr_tree t) z
case_at s t bs l is branches at_bs a at_a x d z h last kind made =
    subst (λ u. Resolves s u z) (sym (ap expr_tree is ∙ tree-Case bs l ∙ (λ i. tree.case_when (tree.branches_of (map branch_tree (sym at_bs i))) (expr_tree (sym at_a i)))))
    (case_resolves s (tree.branches_of (map branch_tree branches)) (expr_tree a) x d z h last kind made)
