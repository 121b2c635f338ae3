-- Conditions of rules and errors as component expressions.
use Rattle.std.specs.Prelude.{ℕ, ℤ, pos, true, false, List, [], ◌∷◌, Option, Some, None}
use Rattle.vtl_cell.specs.declared.cell.Cell.{Cell}
use Rattle.vtl_cell.specs.declared.cell.Cell.TheVariants as c
use Rattle.vtl_cell.specs.declared.kind.Kind.{Kind}
use Rattle.vtl_cell.specs.declared.kind.Kind.TheVariants as k
use Rattle.vtl_cell.specs.declared.operator.ScalarOp.TheVariants as op
use Rattle.vtl_tree.specs.CompExp.{CompExp, call, comp_exp, const, no_comp_exps}
use Rattle.vtl_tree.specs.Kinds.{exp_kind}
use Rattle.vtl_tree.specs.Trees.{PointRuleTree}

abbrev pub if_of : Kind → (test a b : CompExp) → CompExp
if_of kind test a b = call op.If kind (comp_exp test (comp_exp a (comp_exp b no_comp_exps)))

abbrev pub negated : CompExp → CompExp
negated e = call op.Not k.Bool (comp_exp e no_comp_exps)

-- ---- truth values

-- a condition that is null throughout has no kind of its own, and is made a boolean
abbrev pub boolean_by : Kind → CompExp → CompExp
boolean_by k.Null e = if_of k.Bool (const (c.Bool true)) e (const (c.Bool true))
boolean_by kind e = e

abbrev pub boolean : CompExp → CompExp
boolean e = boolean_by (exp_kind e) e

-- Behind an antecedent: where it is true the condition; where it is false its negation, which is true; and where it is null its
-- negation, which is null.
abbrev pub held_exp : (antecedent : Option CompExp) → (condition : CompExp) → CompExp
held_exp None condition = boolean condition
held_exp (Some antecedent) condition = if_of k.Bool antecedent condition (negated antecedent)

abbrev pub truth_exp : PointRuleTree → CompExp
truth_exp r = held_exp r.antecedent r.condition

-- ---- errors

-- null as a column of a kind, of which `like` is a value
abbrev pub absent : Kind → (like : Cell) → CompExp
absent kind like = if_of kind (const (c.Bool false)) (const like) (const c.Null)

-- what is written, or null of the kind
abbrev pub written : {X : Type 0} → Kind → (X → Cell) → (like : X) → Option X → CompExp
written kind cell like None = absent kind (cell like)
written kind cell like (Some x) = const (cell x)

-- the same where a condition is true, and null elsewhere
abbrev pub written_where : {X : Type 0} → Kind → (X → Cell) → (like : X) → (test : CompExp) → Option X → CompExp
written_where kind cell like test None = absent kind (cell like)
written_where kind cell like test (Some x) = if_of kind test (const (cell x)) (const c.Null)

-- the text and the level of an error
abbrev pub error_exps : (code : Option (List ℕ)) → (level : Option ℤ) → List CompExp
error_exps code level = written k.Text c.Text [] code ∷ written k.Int c.Int (pos 0) level ∷ []

-- they stand where a truth value is false
abbrev pub error_exps_at : (truth : CompExp) → (code : Option (List ℕ)) → (level : Option ℤ) → List CompExp
error_exps_at truth code level = written_where k.Text c.Text [] (negated truth) code ∷ written_where k.Int c.Int (pos 0) (negated truth) level ∷ []
