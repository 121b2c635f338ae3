-- What nodes of the program evaluate to.
use Rattle.std.proofs.Common.{◌≡◌, ℕ, List, [], ◌∷◌, map, Option, Some, None, Result, Ok, Err, rules, refl, sym, ap, subst, ◌∙◌, ◌⊎◌, inl, inr}
use Rattle.std.specs.Prelude.{Box, Vec, option_map}
use Rattle.std.specs.declared.alloc.Global.{Global}
use Rattle.std.specs.Option.{option_map_or}
use Rattle.std.specs.Map.{lookup}
use Rattle.vtl_decimal.specs.Settings.{Settings}
use Rattle.vtl_text.specs.declared.shared_text.Txt.{Txt}
use Rattle.vtl_cell.specs.declared.operator.ScalarOp.{ScalarOp}
use Rattle.vtl_cell.specs.Outcome.{Outcome, after}
use Rattle.vtl_cell.specs.Row.{Row}
use Rattle.vtl_scalar.specs.Answers.{AnswersBy}
use Rattle.vtl_scalar.specs.declared.error.ScalarErr.{ScalarErr}
use Rattle.vtl_scalar.specs.declared.error.ScalarErr.TheVariants as err
use Rattle.vtl_tree.specs.Environment.{DataSet, Environment, data_of, known_in}
use Rattle.vtl_tree.specs.Structure.{same_name}
use Rattle.vtl_tree.specs.declared.structure.Structure.{Structure}
use Rattle.vtl_tree.specs.Trees as nodes
use Rattle.vtl_tree.specs.Trees.{FormTree, NodeTree, OperandTree, OperandTrees, nodes_of, operands_of, structure_of}
use Rattle.vtl_tree.specs.Clauses.{filter_of}
use Rattle.vtl_tree.specs.CompExp.{CompExp}
use Rattle.vtl_tree.specs.View.{comp_exp_of}
use Rattle.vtl_tree.specs.declared.expression.CompExpr.{CompExpr}
use Rattle.vtl_tree.specs.NodeView.{agg_tree, analytic_tree, form_tree, item_tree, measure_tree, node_tree, operand_tree, point_rules_tree}
use Rattle.vtl_tree.specs.declared.calls.TimeOp.{TimeOp}
use Rattle.vtl_tree.specs.declared.clauses.CalcItem.{CalcItem}
use Rattle.vtl_tree.specs.declared.clauses.SubItem.{SubItem}
use Rattle.vtl_tree.specs.declared.renaming.Renaming.{Renaming}
use Rattle.vtl_tree.specs.declared.joins.Operand.{Operand}
use Rattle.vtl_tree.specs.declared.nodes.JoinOperand as operand
use Rattle.vtl_tree.specs.declared.nodes.JoinOperand.{JoinOperand}
use Rattle.vtl_tree.specs.declared.nodes.MeasureOp.{MeasureOp}
use Rattle.vtl_tree.specs.declared.nodes.Node as node
use Rattle.vtl_tree.specs.declared.nodes.Node.{Node}
use Rattle.vtl_tree.specs.declared.nodes.NodeForm.{NodeForm}
use Rattle.vtl_tree.specs.declared.nodes.NodeForm.TheVariants as form
use Rattle.vtl_tree.specs.declared.nodes.NodeForm as forms
use Rattle.vtl_tree.specs.declared.rules.DatapointRules.{DatapointRules}
use Rattle.vtl_tree.specs.declared.rules.HierRules.{HierRules}
use Rattle.vtl_tree.specs.declared.specifications.AggSpec.{AggSpec}
use Rattle.vtl_tree.specs.declared.specifications.AnalyticSpec.{AnalyticSpec}
use Rattle.vtl_tree.specs.declared.specifications.CheckSpec.{CheckSpec}
use Rattle.vtl_tree.specs.declared.specifications.JoinSpec.{JoinSpec}
use Rattle.vtl_syntax.specs.declared.word_groups.CheckOut.{CheckOut}
use Rattle.vtl_syntax.specs.declared.word_groups.HierInput.{HierInput}
use Rattle.vtl_syntax.specs.declared.word_groups.HierOut.{HierOut}
use Rattle.vtl_syntax.specs.declared.word_groups.Mode.{Mode}
use Rattle.vtl_syntax.specs.declared.word_groups.Retain.{Retain}
use Rattle.vtl_meaning.specs.AggregateShapes.{IsAggregated}
use Rattle.vtl_sets.specs.DataSets.{data_set, with_structure}
use Rattle.vtl_meaning.specs.Joined.{join_of, structures_of}
use Rattle.vtl_meaning.specs.Made.{AreCombined, IsChoice, IsFiltered, IsJoined, IsMeasured, IsWindowed}
use Rattle.vtl_scripts.specs.Made.{IsMade, IsMadeForm, node_structures}
use Rattle.vtl_scripts.specs.Meaning.{form_value, maybe_value, node_value, nodes_value, operands_value, with_operand}
use Rattle.vtl_meaning.specs.Operators.{choice_of, pair_of}
use Rattle.vtl_meaning.specs.Sets.{difference_of, existence_of, symmetric_difference_of}
use Rattle.vtl_meaning.specs.Shapes.{IsJoinedFrom}
use Rattle.vtl_rulings.specs.PointChecks.{check_of}
use Rattle.vtl_rulings.specs.Shaped.{IsChecked}
use Rattle.vtl_timing.specs.Timed.{IsTimed}
use Rattle.vtl_interp.specs.Evaluated.{Evaluates, Gives, GivesOne, GivesTwo}
use Rattle.vtl_interp.specs.Values.{imbalance_tree, under_aliases}
use Rattle.vtl_interp.proofs.Environments.{data_looked, known_looked}
use Rattle.vtl_interp.proofs.Evaluates.{applied, given_structure, nodes_structures, operands_structures, operands_under, stops, then}

-- the tree of a node, and of each form that is evaluated
node_tree-is : (n : Node) → node_tree n ≡ nodes.node n.structure (form_tree n.form)
node_tree-is n = search (rules, node.the_lemmas)

pub form_tree-Named : (name : Txt) → form_tree (form.Named name) ≡ nodes.named name
form_tree-Named name = search (rules, forms.the_lemmas)

pub form_tree-Measures : (op : MeasureOp) (a : Box Node Global) → form_tree (form.Measures op a) ≡ nodes.measures (measure_tree op) (node_tree a.value)
form_tree-Measures op a = search (rules, forms.the_lemmas)

pub form_tree-Pair : (op : ScalarOp) (a b : Box Node Global) → form_tree (form.Pair op a b) ≡ nodes.pair op (node_tree a.value) (node_tree b.value)
form_tree-Pair op a b = search (rules, forms.the_lemmas)

pub form_tree-Choose : (c a b : Box Node Global) → form_tree (form.Choose c a b) ≡ nodes.choose (node_tree c.value) (node_tree a.value) (node_tree b.value)
form_tree-Choose c a b = search (rules, forms.the_lemmas)

pub form_tree-Member : (a : Box Node Global) (m : Txt) → form_tree (form.Member a m) ≡ nodes.member (node_tree a.value) m
form_tree-Member a m = search (rules, forms.the_lemmas)

pub form_tree-Filter : (a : Box Node Global) (c : CompExpr) → form_tree (form.Filter a c) ≡ nodes.filter (node_tree a.value) (comp_exp_of c)
form_tree-Filter a c = search (rules, forms.the_lemmas)

pub form_tree-Calc : (a : Box Node Global) (items : List CalcItem) → form_tree (form.Calc a items) ≡ nodes.calc (node_tree a.value) (map item_tree items)
form_tree-Calc a items = search (rules, forms.the_lemmas)

pub form_tree-Keep : (a : Box Node Global) (names : List Txt) → form_tree (form.Keep a names) ≡ nodes.keep (node_tree a.value) names
form_tree-Keep a names = search (rules, forms.the_lemmas)

pub form_tree-DropNamed : (a : Box Node Global) (names : List Txt) → form_tree (form.DropNamed a names) ≡ nodes.drop_named (node_tree a.value) names
form_tree-DropNamed a names = search (rules, forms.the_lemmas)

pub form_tree-Rename : (a : Box Node Global) (pairs : List Renaming) → form_tree (form.Rename a pairs) ≡ nodes.rename (node_tree a.value) pairs
form_tree-Rename a pairs = search (rules, forms.the_lemmas)

pub form_tree-Sub : (a : Box Node Global) (values : List SubItem) → form_tree (form.Sub a values) ≡ nodes.sub (node_tree a.value) values
form_tree-Sub a values = search (rules, forms.the_lemmas)

pub form_tree-Pivot : (a : Box Node Global) (id m : Txt) → form_tree (form.Pivot a id m) ≡ nodes.pivot (node_tree a.value) id m
form_tree-Pivot a id m = search (rules, forms.the_lemmas)

pub form_tree-Unpivot : (a : Box Node Global) (id m : Txt) → form_tree (form.Unpivot a id m) ≡ nodes.unpivot (node_tree a.value) id m
form_tree-Unpivot a id m = search (rules, forms.the_lemmas)

pub form_tree-Aggregate : (a : Box Node Global) (spec : AggSpec) → form_tree (form.Aggregate a spec) ≡ nodes.aggregate (node_tree a.value) (agg_tree spec)
form_tree-Aggregate a spec = search (rules, forms.the_lemmas)

pub form_tree-Analytic : (a : Box Node Global) (spec : AnalyticSpec) → form_tree (form.Analytic a spec) ≡ nodes.analytic_of (node_tree a.value) (analytic_tree spec)
form_tree-Analytic a spec = search (rules, forms.the_lemmas)

pub form_tree-Time : (a : Box Node Global) (op : TimeOp) → form_tree (form.Time a op) ≡ nodes.time (node_tree a.value) op
form_tree-Time a op = search (rules, forms.the_lemmas)

pub form_tree-Join : (os : Vec JoinOperand Global) (spec : JoinSpec) → form_tree (form.Join os spec) ≡ nodes.join (operands_of (map operand_tree os.items)) spec
form_tree-Join os spec = search (rules, forms.the_lemmas)

pub form_tree-Union : (ns : Vec Node Global) → form_tree (form.Union ns) ≡ nodes.union (nodes_of (map node_tree ns.items))
form_tree-Union ns = search (rules, forms.the_lemmas)

pub form_tree-Intersect : (ns : Vec Node Global) → form_tree (form.Intersect ns) ≡ nodes.intersect (nodes_of (map node_tree ns.items))
form_tree-Intersect ns = search (rules, forms.the_lemmas)

pub form_tree-SetDiff : (a b : Box Node Global) → form_tree (form.SetDiff a b) ≡ nodes.set_diff (node_tree a.value) (node_tree b.value)
form_tree-SetDiff a b = search (rules, forms.the_lemmas)

pub form_tree-SymDiff : (a b : Box Node Global) → form_tree (form.SymDiff a b) ≡ nodes.sym_diff (node_tree a.value) (node_tree b.value)
form_tree-SymDiff a b = search (rules, forms.the_lemmas)

pub form_tree-ExistsIn : (a b : Box Node Global) (r : Retain) → form_tree (form.ExistsIn a b r) ≡ nodes.exists_in (node_tree a.value) (node_tree b.value) r
form_tree-ExistsIn a b r = search (rules, forms.the_lemmas)

pub form_tree-Check : (a : Box Node Global) (i : Option (Box Node Global)) (spec : CheckSpec) → form_tree (form.Check a i spec) ≡ nodes.check (node_tree a.value) (imbalance_tree i) spec
form_tree-Check a None spec = search (rules, forms.the_lemmas)
form_tree-Check a (Some b) spec = search (rules, forms.the_lemmas)

pub form_tree-CheckDatapoint : (a : Box Node Global) (rs : DatapointRules) (out : CheckOut) → form_tree (form.CheckDatapoint a rs out) ≡ nodes.check_datapoint (node_tree a.value) (point_rules_tree rs) out
form_tree-CheckDatapoint a rs out = search (rules, forms.the_lemmas)

pub form_tree-CheckHierarchy : (a : Box Node Global) (rs : HierRules) (m : Mode) (out : CheckOut) → form_tree (form.CheckHierarchy a rs m out) ≡ nodes.check_hierarchy (node_tree a.value) rs m out
form_tree-CheckHierarchy a rs m out = search (rules, forms.the_lemmas)

pub form_tree-Hierarchy : (a : Box Node Global) (rs : HierRules) (m : Mode) (i : HierInput) (out : HierOut) → form_tree (form.Hierarchy a rs m i out) ≡ nodes.hierarchy (node_tree a.value) rs m i out
form_tree-Hierarchy a rs m i out = search (rules, forms.the_lemmas)

-- the tree of a node of this form
tree_with : (n : Node) (f : NodeForm) (t : FormTree) → n.form ≡ f → form_tree f ≡ t → node_tree n ≡ nodes.node n.structure t
tree_with n f t e d = node_tree-is n ∙ ap (λ (g : NodeForm). nodes.node n.structure (form_tree g)) e ∙ ap (nodes.node n.structure) d

pub measures_fit : (p : Settings) (env : Environment) (n : Node) (op : MeasureOp) (a : Box Node Global) (d : DataSet) → n.form ≡ form.Measures op a → IsMade p (known_in env) (node_tree n) → Gives p env (node_tree a.value) d → IsMeasured p (measure_tree op) d.structure n.structure
measures_fit p env n op a d e made g =
    subst (λ (s : Structure). IsMeasured p (measure_tree op) s n.structure) (sym g.structure)
    (subst (IsMade p (known_in env)) (tree_with n (form.Measures op a) (nodes.measures (measure_tree op) (node_tree a.value)) e (form_tree-Measures op a)) made).1.1

pub aggregate_fits : (p : Settings) (env : Environment) (n : Node) (a : Box Node Global) (spec : AggSpec) (d : DataSet) → n.form ≡ form.Aggregate a spec → IsMade p (known_in env) (node_tree n) → Gives p env (node_tree a.value) d → IsAggregated (agg_tree spec) d.structure n.structure
aggregate_fits p env n a spec d e made g =
    subst (λ (s : Structure). IsAggregated (agg_tree spec) s n.structure) (sym g.structure)
    (subst (IsMade p (known_in env)) (tree_with n (form.Aggregate a spec) (nodes.aggregate (node_tree a.value) (agg_tree spec)) e (form_tree-Aggregate a spec)) made).1.1.aggregated

pub analytic_fits : (p : Settings) (env : Environment) (n : Node) (a : Box Node Global) (spec : AnalyticSpec) (d : DataSet) → n.form ≡ form.Analytic a spec → IsMade p (known_in env) (node_tree n) → Gives p env (node_tree a.value) d → IsWindowed p (analytic_tree spec) d.structure n.structure
analytic_fits p env n a spec d e made g =
    subst (λ (s : Structure). IsWindowed p (analytic_tree spec) s n.structure) (sym g.structure)
    (subst (IsMade p (known_in env)) (tree_with n (form.Analytic a spec) (nodes.analytic_of (node_tree a.value) (analytic_tree spec)) e (form_tree-Analytic a spec)) made).1.1

pub time_fits : (p : Settings) (env : Environment) (n : Node) (a : Box Node Global) (op : TimeOp) (d : DataSet) → n.form ≡ form.Time a op → IsMade p (known_in env) (node_tree n) → Gives p env (node_tree a.value) d → IsTimed op d.structure n.structure
time_fits p env n a op d e made g =
    subst (λ (s : Structure). IsTimed op s n.structure) (sym g.structure)
    (subst (IsMade p (known_in env)) (tree_with n (form.Time a op) (nodes.time (node_tree a.value) op) e (form_tree-Time a op)) made).1.1

pub choose_fits : (p : Settings) (env : Environment) (n : Node) (c a b : Box Node Global) (t d o : DataSet) → n.form ≡ form.Choose c a b → IsMade p (known_in env) (node_tree n) → Gives p env (node_tree c.value) t → Gives p env (node_tree a.value) d → Gives p env (node_tree b.value) o → IsChoice t.structure d.structure o.structure n.structure
choose_fits p env n c a b t d o e made gt gd go =
    subst (λ (s : Structure). IsChoice s d.structure o.structure n.structure) (sym gt.structure)
    (subst (λ (s : Structure). IsChoice (structure_of (node_tree c.value)) s o.structure n.structure) (sym gd.structure)
    (subst (λ (s : Structure). IsChoice (structure_of (node_tree c.value)) (structure_of (node_tree a.value)) s n.structure) (sym go.structure)
    (subst (IsMade p (known_in env)) (tree_with n (form.Choose c a b) (nodes.choose (node_tree c.value) (node_tree a.value) (node_tree b.value)) e (form_tree-Choose c a b)) made).1.3))

-- what is made of a node's form
made_form : (p : Settings) (env : Environment) (n : Node) (f : NodeForm) (t : FormTree) → n.form ≡ f → form_tree f ≡ t → IsMade p (known_in env) (node_tree n) → IsMadeForm p (known_in env) n.structure t
made_form p env n f t e tree made = (subst (IsMade p (known_in env)) (tree_with n f t e tree) made).1

-- what is given of a node's form
pub one_given_at : (p : Settings) (env : Environment) (n : Node) (f : NodeForm) (t : FormTree) (d : DataSet) → n.form ≡ f → form_tree f ≡ t → GivesOne p env (form_tree n.form) d → GivesOne p env t d
one_given_at p env n f t d is tree g = subst (λ (x : FormTree). GivesOne p env x d) (ap form_tree is ∙ tree) g

pub two_given_at : (p : Settings) (env : Environment) (n : Node) (f : NodeForm) (t : FormTree) (d e : DataSet) → n.form ≡ f → form_tree f ≡ t → GivesTwo p env (form_tree n.form) d e → GivesTwo p env t d e
two_given_at p env n f t d e is tree g = subst (λ (x : FormTree). GivesTwo p env x d e) (ap form_tree is ∙ tree) g

-- what is made of a node's form holds of the data set that its operand gives
pub one_fits : (Fits : Structure → Structure → Type 0) (p : Settings) (env : Environment) (n : Node) (f : NodeForm) (t : FormTree) (a : NodeTree) (d : DataSet) → n.form ≡ f → form_tree f ≡ t → (IsMadeForm p (known_in env) n.structure t → Fits (structure_of a) n.structure) → IsMade p (known_in env) (node_tree n) → Gives p env a d
    → Fits d.structure n.structure
one_fits Fits p env n f t a d is tree fits made g = subst (λ (s : Structure). Fits s n.structure) (sym g.structure) (fits (made_form p env n f t is tree made))

-- what is made of a node's form holds of the data sets that its operands give
pub two_fit : (Fits : Structure → Structure → Structure → Type 0) (p : Settings) (env : Environment) (n : Node) (f : NodeForm) (t : FormTree) (a b : NodeTree) (d e : DataSet)
    → n.form ≡ f → form_tree f ≡ t → (IsMadeForm p (known_in env) n.structure t → Fits (structure_of a) (structure_of b) n.structure) → IsMade p (known_in env) (node_tree n) → Gives p env a d → Gives p env b e
    → Fits d.structure e.structure n.structure
two_fit Fits p env n f t a b d e is tree fits made g k =
    subst (λ (s : Structure). Fits s e.structure n.structure) (sym g.structure)
    (subst (λ (s : Structure). Fits (structure_of a) s n.structure) (sym k.structure) (fits (made_form p env n f t is tree made)))

pub several_fit : (p : Settings) (env : Environment) (n : Node) (f : NodeForm) (ns : List Node) (ds : List DataSet) (t : FormTree)
    → n.form ≡ f → form_tree f ≡ t → (IsMadeForm p (known_in env) n.structure t → AreCombined (node_structures (nodes_of (map node_tree ns))) n.structure) → IsMade p (known_in env) (node_tree n) → nodes_value p env (nodes_of (map node_tree ns)) ≡ Ok ds
    → AreCombined (structures_of ds) n.structure
several_fit p env n f ns ds t is tree fits made g =
    subst (λ (ss : List Structure). AreCombined ss n.structure) (sym (nodes_structures p env (nodes_of (map node_tree ns)) ds g)) (fits (made_form p env n f t is tree made))

pub join_fits : (p : Settings) (env : Environment) (n : Node) (os : Vec JoinOperand Global) (spec : JoinSpec) (ds : List DataSet)
    → n.form ≡ form.Join os spec → IsMade p (known_in env) (node_tree n) → operands_value p env (operands_of (map operand_tree os.items)) ≡ Ok ds → IsJoined spec.kind (structures_of ds) n.structure
join_fits p env n os spec ds is made g =
    let trees = operands_of (map operand_tree os.items) in
    subst (λ (ss : List Structure). IsJoined spec.kind ss n.structure) (sym (operands_structures p env trees ds g)) (made_form p env n (form.Join os spec) (nodes.join trees spec) is (form_tree-Join os spec) made).1

operands_named : (os : List JoinOperand) → map (λ o. o.alias) (map operand_tree os) ≡ map (λ o. o.alias) os
operands_named [] = refl
operands_named (o ∷ os) =
    let e : operand_tree o ≡ record { node = node_tree o.node; alias = o.alias } = search (rules, operand.the_lemmas) in
    ap (λ (t : OperandTree). t.alias ∷ map (λ o. o.alias) (map operand_tree os)) e ∙ ap (λ (l : List (List ℕ)). o.alias ∷ l) (operands_named os)

pub join_named : (p : Settings) (env : Environment) (n : Node) (os : Vec JoinOperand Global) (spec : JoinSpec) (ds : List DataSet)
    → n.form ≡ form.Join os spec → IsMade p (known_in env) (node_tree n) → operands_value p env (operands_of (map operand_tree os.items)) ≡ Ok ds
    → IsJoinedFrom spec.kind (under_aliases (map (λ o. o.alias) os.items) (structures_of ds)) n.structure
join_named p env n os spec ds is made g =
    let trees = map operand_tree os.items in
    subst (λ (xs : List Operand). IsJoinedFrom spec.kind xs n.structure)
    (operands_under p env trees ds g ∙ ap (λ (names : List (List ℕ)). under_aliases names (structures_of ds)) (operands_named os.items))
    (made_form p env n (form.Join os spec) (nodes.join (operands_of trees) spec) is (form_tree-Join os spec) made).2

pub check_fits : (p : Settings) (env : Environment) (n : Node) (a : Box Node Global) (i : Option (Box Node Global)) (spec : CheckSpec) (d : DataSet) (o : Option DataSet)
    → n.form ≡ form.Check a i spec → IsMade p (known_in env) (node_tree n) → Gives p env (node_tree a.value) d → maybe_value p env (imbalance_tree i) ≡ Ok o
    → IsChecked p spec (option_map (λ x. x.structure) o) d.structure n.structure
check_fits p env n a i spec d o is made g k =
    subst (λ (s : Structure). IsChecked p spec (option_map (λ x. x.structure) o) s n.structure) (sym g.structure)
    (subst (λ (x : Option Structure). IsChecked p spec x (structure_of (node_tree a.value)) n.structure) (sym (given_structure p env (imbalance_tree i) o k))
    (made_form p env n (form.Check a i spec) (nodes.check (node_tree a.value) (imbalance_tree i) spec) is (form_tree-Check a i spec) made).2)

-- an operator on one operand
pub one_operand : {A : Type 0} (view : A → DataSet) (p : Settings) (env : Environment) (n : Node) (f : NodeForm) (t : FormTree) (a : NodeTree) (d : DataSet) (op : DataSet → Outcome (List Row)) (r : Result A ScalarErr)
    → n.form ≡ f → form_tree f ≡ t → form_value p env n.structure t ≡ with_operand a (node_value p env a) op → Gives p env a d → AnswersBy view r (with_structure n.structure (op d))
    → Evaluates view p env (node_tree n) r
one_operand view p env n f t a d op r e tree value g h =
    subst (λ (u : NodeTree). Evaluates view p env u r) (sym (tree_with n f t e tree))
    (applied view p env (nodes.node n.structure t) (op d) r (value ∙ then p env a d op g) h)

-- the same points under other names
pub renamed : {A : Type 0} (view : A → DataSet) (p : Settings) (env : Environment) (n : Node) (a : Box Node Global) (pairs : List Renaming) (d : DataSet) (r : Result A ScalarErr)
    → n.form ≡ form.Rename a pairs → Gives p env (node_tree a.value) d → AnswersBy view r (Ok (data_set n.structure d.points)) → Evaluates view p env (node_tree n) r
renamed view p env n a pairs d r e g h =
    let t = nodes.rename (node_tree a.value) pairs in
    subst (λ (u : NodeTree). Evaluates view p env u r) (sym (tree_with n (form.Rename a pairs) t e (form_tree-Rename a pairs)))
    (applied view p env (nodes.node n.structure t) (Ok d.points) r g.points h)

-- a filter, from what becomes of its operand
pub filter_fits : (p : Settings) (env : Environment) (n : Node) (a : Box Node Global) (c : CompExpr) → n.form ≡ form.Filter a c → IsMade p (known_in env) (node_tree n)
    → IsMade p (known_in env) (node_tree a.value) × IsFiltered p (comp_exp_of c) (structure_of (node_tree a.value)) n.structure
filter_fits p env n a c is made = made_form p env n (form.Filter a c) (nodes.filter (node_tree a.value) (comp_exp_of c)) is (form_tree-Filter a c) made

pub filter_gives : {A : Type 0} (view : A → DataSet) (p : Settings) (env : Environment) (n : Node) (a : Box Node Global) (c : CompExpr) (r : Result A ScalarErr)
    → n.form ≡ form.Filter a c → AnswersBy view r (with_structure n.structure (after (node_value p env (node_tree a.value)) (filter_of p (comp_exp_of c)))) → Evaluates view p env (node_tree n) r
filter_gives view p env n a c r is h =
    let t = nodes.filter (node_tree a.value) (comp_exp_of c) in
    subst (λ (u : NodeTree). Evaluates view p env u r) (sym (tree_with n (form.Filter a c) t is (form_tree-Filter a c)))
    (applied view p env (nodes.node n.structure t) (after (node_value p env (node_tree a.value)) (filter_of p (comp_exp_of c))) r refl h)

module _ (p : Settings) (env : Environment) (a : NodeTree) (e : CompExp) (s : Structure) where
  pub filter_after : {A : Type 0} (view : A → DataSet) (d : DataSet) (r : Result A ScalarErr) → Gives p env a d → AnswersBy view r (with_structure s (filter_of p e d.points)) → AnswersBy view r (with_structure s (after (node_value p env a) (filter_of p e)))
  filter_after view d r g h = subst (λ (m : Outcome (List Row)). AnswersBy view r (with_structure s (after m (filter_of p e)))) (sym g.points) h

  pub filter_stops : {A B : Type 0} (view : A → DataSet) (other : B → DataSet) (f : ScalarErr) → Evaluates view p env a (Err f) → AnswersBy other (Err f) (with_structure s (after (node_value p env a) (filter_of p e)))
  filter_stops view other err.DivZero h = ap (λ (m : Outcome (List Row)). with_structure s (after m (filter_of p e))) h
  filter_stops view other err.Range h = ap (λ (m : Outcome (List Row)). with_structure s (after m (filter_of p e))) h
  filter_stops view other err.OutOfMemory h = tt

module _ (p : Settings) (env : Environment) (n : Node) (os : Vec JoinOperand Global) (spec : JoinSpec) (is : n.form ≡ form.Join os spec) (e : CompExp) (s : Structure) where
  abbrev trees : OperandTrees
  trees = operands_of (map operand_tree os.items)

  join_is : node_value p env (node_tree n) ≡ after (operands_value p env trees) (λ ds. Ok (join_of spec.kind ds))
  join_is = ap (node_value p env) (tree_with n (form.Join os spec) (nodes.join trees spec) is (form_tree-Join os spec))

  filtered_is : with_structure s (after (node_value p env (node_tree n)) (filter_of p e)) ≡ with_structure s (after (after (operands_value p env trees) (λ ds. Ok (join_of spec.kind ds))) (filter_of p e))
  filtered_is = ap (λ (m : Outcome (List Row)). with_structure s (after m (filter_of p e))) join_is

  pub filter_joined : {A : Type 0} (view : A → DataSet) (ds : List DataSet) (r : Result A ScalarErr) → operands_value p env trees ≡ Ok ds → AnswersBy view r (with_structure s (filter_of p e (join_of spec.kind ds))) → AnswersBy view r (with_structure s (after (node_value p env (node_tree n)) (filter_of p e)))
  filter_joined view ds r g h =
      subst (λ (m : Outcome DataSet). AnswersBy view r m)
      (sym (filtered_is ∙ ap (λ (m : Outcome (List DataSet)). with_structure s (after (after m (λ ds. Ok (join_of spec.kind ds))) (filter_of p e))) g)) h

  pub filter_operands_stop : {A B : Type 0} (views : A → List DataSet) (other : B → DataSet) (f : ScalarErr) → AnswersBy views (Err f) (operands_value p env trees) → AnswersBy other (Err f) (with_structure s (after (node_value p env (node_tree n)) (filter_of p e)))
  filter_operands_stop views other err.DivZero h = filtered_is ∙ ap (λ (m : Outcome (List DataSet)). with_structure s (after (after m (λ ds. Ok (join_of spec.kind ds))) (filter_of p e))) h
  filter_operands_stop views other err.Range h = filtered_is ∙ ap (λ (m : Outcome (List DataSet)). with_structure s (after (after m (λ ds. Ok (join_of spec.kind ds))) (filter_of p e))) h
  filter_operands_stop views other err.OutOfMemory h = tt

-- an operator on two
pub two_operands : {A : Type 0} (view : A → DataSet) (p : Settings) (env : Environment) (n : Node) (f : NodeForm) (t : FormTree) (a b : NodeTree) (d e : DataSet) (op : DataSet → DataSet → Outcome (List Row)) (r : Result A ScalarErr)
    → n.form ≡ f → form_tree f ≡ t → form_value p env n.structure t ≡ with_operand a (node_value p env a) (λ x. with_operand b (node_value p env b) (op x)) → Gives p env a d → Gives p env b e
    → AnswersBy view r (with_structure n.structure (op d e)) → Evaluates view p env (node_tree n) r
two_operands view p env n f t a b d e op r is tree value g k h =
    subst (λ (u : NodeTree). Evaluates view p env u r) (sym (tree_with n f t is tree))
    (applied view p env (nodes.node n.structure t) (op d e) r (value ∙ then p env a d (λ x. with_operand b (node_value p env b) (op x)) g ∙ then p env b e (op d) k) h)

-- `if`
pub choice_gives : {A : Type 0} (view : A → DataSet) (p : Settings) (env : Environment) (n : Node) (c a b : Box Node Global) (t d o : DataSet) (r : Result A ScalarErr)
    → n.form ≡ form.Choose c a b → Gives p env (node_tree c.value) t → Gives p env (node_tree a.value) d → Gives p env (node_tree b.value) o
    → AnswersBy view r (Ok (data_set n.structure (choice_of t d o n.structure))) → Evaluates view p env (node_tree n) r
choice_gives view p env n c a b t d o r is g h k answer =
    let tree = nodes.choose (node_tree c.value) (node_tree a.value) (node_tree b.value) in
    subst (λ (u : NodeTree). Evaluates view p env u r) (sym (tree_with n (form.Choose c a b) tree is (form_tree-Choose c a b)))
    (applied view p env (nodes.node n.structure tree) (Ok (choice_of t d o n.structure)) r
    (then p env (node_tree c.value) t (λ x. with_operand (node_tree a.value) (node_value p env (node_tree a.value)) (λ y. with_operand (node_tree b.value) (node_value p env (node_tree b.value)) (λ z. Ok (choice_of x y z n.structure)))) g
    ∙ then p env (node_tree a.value) d (λ y. with_operand (node_tree b.value) (node_value p env (node_tree b.value)) (λ z. Ok (choice_of t y z n.structure))) h
    ∙ then p env (node_tree b.value) o (λ z. Ok (choice_of t d z n.structure)) k) answer)

-- the second of two operands has the fault
two_stop : {A B : Type 0} (view : A → DataSet) (other : B → DataSet) (p : Settings) (env : Environment) (n : Node) (f : NodeForm) (t : FormTree) (a b : NodeTree) (d : DataSet) (op : DataSet → DataSet → Outcome (List Row)) (e : ScalarErr)
    → n.form ≡ f → form_tree f ≡ t → form_value p env n.structure t ≡ with_operand a (node_value p env a) (λ x. with_operand b (node_value p env b) (op x)) → Gives p env a d → Evaluates view p env b (Err e)
    → Evaluates other p env (node_tree n) (Err e)
two_stop view other p env n f t a b d op e is tree value g k =
    subst (λ (u : NodeTree). Evaluates other p env u (Err e)) (sym (tree_with n f t is tree))
    (stops view other p env b (nodes.node n.structure t) e (λ fault h. value ∙ then p env a d (λ x. with_operand b (node_value p env b) (op x)) g ∙ ap (λ (m : Outcome (List Row)). with_operand b m (op d)) h) k)

pub second_stops : {A B : Type 0} (view : A → DataSet) (other : B → DataSet) (p : Settings) (env : Environment) (n : Node) (a b : Box Node Global) (d : DataSet) (e : ScalarErr)
    → ((x : ScalarOp) × n.form ≡ form.Pair x a b) ⊎ ((n.form ≡ form.SetDiff a b) ⊎ ((n.form ≡ form.SymDiff a b) ⊎ ((x : Retain) × n.form ≡ form.ExistsIn a b x)))
    → Gives p env (node_tree a.value) d → Evaluates view p env (node_tree b.value) (Err e) → Evaluates other p env (node_tree n) (Err e)
second_stops view other p env n a b d e (inl is) g k =
    two_stop view other p env n (form.Pair is.0 a b) (nodes.pair is.0 (node_tree a.value) (node_tree b.value)) (node_tree a.value) (node_tree b.value) d (λ x y. pair_of p is.0 x y n.structure) e is.1 (form_tree-Pair is.0 a b) refl g k
second_stops view other p env n a b d e (inr (inl is)) g k =
    two_stop view other p env n (form.SetDiff a b) (nodes.set_diff (node_tree a.value) (node_tree b.value)) (node_tree a.value) (node_tree b.value) d (λ x y. Ok (difference_of x y n.structure)) e is (form_tree-SetDiff a b) refl g k
second_stops view other p env n a b d e (inr (inr (inl is))) g k =
    two_stop view other p env n (form.SymDiff a b) (nodes.sym_diff (node_tree a.value) (node_tree b.value)) (node_tree a.value) (node_tree b.value) d (λ x y. Ok (symmetric_difference_of x y n.structure)) e is (form_tree-SymDiff a b) refl g k
second_stops view other p env n a b d e (inr (inr (inr is))) g k =
    two_stop view other p env n (form.ExistsIn a b is.0) (nodes.exists_in (node_tree a.value) (node_tree b.value) is.0) (node_tree a.value) (node_tree b.value) d (λ x y. Ok (existence_of x y is.0)) e is.1 (form_tree-ExistsIn a b is.0) refl g k

-- ---- `check`
pub check_gives : {A : Type 0} (view : A → DataSet) (p : Settings) (env : Environment) (n : Node) (a : Box Node Global) (i : Option (Box Node Global)) (spec : CheckSpec) (d : DataSet) (o : Option DataSet) (r : Result A ScalarErr)
    → n.form ≡ form.Check a i spec → Gives p env (node_tree a.value) d → maybe_value p env (imbalance_tree i) ≡ Ok o
    → AnswersBy view r (Ok (data_set n.structure (check_of p spec d o))) → Evaluates view p env (node_tree n) r
check_gives view p env n a i spec d o r is g k answer =
    let tree = nodes.check (node_tree a.value) (imbalance_tree i) spec in
    subst (λ (u : NodeTree). Evaluates view p env u r) (sym (tree_with n (form.Check a i spec) tree is (form_tree-Check a i spec)))
    (applied view p env (nodes.node n.structure tree) (Ok (check_of p spec d o)) r
    (then p env (node_tree a.value) d (λ x. after (maybe_value p env (imbalance_tree i)) (λ y. Ok (check_of p spec x y))) g
    ∙ ap (λ (m : Outcome (Option DataSet)). after m (λ y. Ok (check_of p spec d y))) k) answer)

-- the imbalance has the fault
pub imbalance_stops : {A B : Type 0} (views : A → Option DataSet) (other : B → DataSet) (p : Settings) (env : Environment) (n : Node) (a : Box Node Global) (i : Option (Box Node Global)) (spec : CheckSpec) (d : DataSet) (e : ScalarErr)
    → n.form ≡ form.Check a i spec → Gives p env (node_tree a.value) d → AnswersBy views (Err e) (maybe_value p env (imbalance_tree i)) → Evaluates other p env (node_tree n) (Err e)
imbalance_stops views other p env n a i spec d e is g k =
    let tree = nodes.check (node_tree a.value) (imbalance_tree i) spec in
    subst (λ (u : NodeTree). Evaluates other p env u (Err e)) (sym (tree_with n (form.Check a i spec) tree is (form_tree-Check a i spec)))
    (answered e (maybe_value p env (imbalance_tree i)) k (then p env (node_tree a.value) d (λ x. after (maybe_value p env (imbalance_tree i)) (λ y. Ok (check_of p spec x y))) g))
  where
    value : Outcome (List Row)
    value = node_value p env (nodes.node n.structure (nodes.check (node_tree a.value) (imbalance_tree i) spec))

    answered : (e : ScalarErr) (m : Outcome (Option DataSet)) → AnswersBy views (Err e) m → value ≡ after m (λ y. Ok (check_of p spec d y)) → Evaluates other p env (nodes.node n.structure (nodes.check (node_tree a.value) (imbalance_tree i) spec)) (Err e)
    answered err.DivZero m k h = h ∙ ap (λ (x : Outcome (Option DataSet)). after x (λ y. Ok (check_of p spec d y))) k
    answered err.Range m k h = h ∙ ap (λ (x : Outcome (Option DataSet)). after x (λ y. Ok (check_of p spec d y))) k
    answered err.OutOfMemory m k h = tt

-- ---- a name
-- a name's node is made over what is held: its structure is that of the data set
made_named : (p : Settings) (env : Environment) (n : Node) (name : List ℕ) → n.form ≡ form.Named name → IsMade p (known_in env) (node_tree n) → option_map (λ d. d.structure) (lookup (same_name name) env) ≡ Some n.structure
made_named p env n name e made = sym (known_looked name env) ∙ (subst (IsMade p (known_in env)) (tree_with n (form.Named name) (nodes.named name) e (form_tree-Named name)) made).1

pub name_is_held : (p : Settings) (env : Environment) (n : Node) (name : List ℕ) → n.form ≡ form.Named name → IsMade p (known_in env) (node_tree n) → lookup (same_name name) env ≡ None → ⊥
name_is_held p env n name e made none =
    let h : None ≡ Some n.structure = sym (ap (λ (o : Option DataSet). option_map (λ d. d.structure) o) none) ∙ made_named p env n name e made in
    cc

pub name_gives : (p : Settings) (env : Environment) (n : Node) (name : List ℕ) (d : DataSet) → n.form ≡ form.Named name → IsMade p (known_in env) (node_tree n) → lookup (same_name name) env ≡ Some d → Gives p env (node_tree n) d
name_gives p env n name d e made found =
    let looked : Some d.structure ≡ Some n.structure = sym (ap (λ (o : Option DataSet). option_map (λ d. d.structure) o) found) ∙ made_named p env n name e made in
    let same : d.structure ≡ n.structure = cc in
    let there : data_of name env ≡ Some d = data_looked name env ∙ found in
    subst (λ (t : NodeTree). Gives p env t d) (sym (tree_with n (form.Named name) (nodes.named name) e (form_tree-Named name)))
    (record { structure = same; points = ap (λ (o : Option DataSet). Ok (option_map_or (λ d. d.points) o [])) there })
