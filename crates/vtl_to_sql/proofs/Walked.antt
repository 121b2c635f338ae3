-- Expressions as trees, and the tables of several operands one behind the other.
use Rattle.std.proofs.Common.{◌≡◌, ◌⊎◌, inl, inr, ℕ, List, [], ◌∷◌, ◌++◌, map, length, ◌<◌, ◌≤◌, arith, append_assoc, None, Some, refl, rules, sym, ap, subst, ◌∙◌}
use Rattle.std.specs.Prelude.{Box, Vec, false}
use Rattle.std.specs.declared.alloc.Global.{Global}
use Rattle.std.proofs.lemmas.List.{map-append}
use Rattle.vtl_decimal.specs.Settings.{Settings}
use Rattle.vtl_cell.specs.declared.operator.ScalarOp.{ScalarOp}
use Rattle.vtl_syntax.specs.declared.word_groups.CheckOut.{CheckOut}
use Rattle.vtl_syntax.specs.declared.word_groups.Retain.{Retain}
use Rattle.vtl_text.specs.declared.shared_text.Txt.{Txt}
use Rattle.vtl_tree.specs.CompExp.{CompExp}
use Rattle.vtl_tree.specs.View.{comp_exp_of}
use Rattle.vtl_tree.specs.declared.expression.CompExpr.{CompExpr}
use Rattle.vtl_tree.specs.declared.structure.Structure.{Structure}
use Rattle.vtl_tree.specs.declared.renaming.Renaming.{Renaming}
use Rattle.vtl_tree.specs.Trees as nodes
use Rattle.vtl_tree.specs.Trees.{FormTree, NodeTree, OperandTrees}
use Rattle.vtl_tree.specs.NodeView.{agg_tree, analytic_tree, form_tree, item_tree, measure_tree, node_tree, operand_tree, point_rules_tree}
use Rattle.vtl_tree.specs.declared.clauses.CalcItem.{CalcItem}
use Rattle.vtl_tree.specs.declared.clauses.SubItem.{SubItem}
use Rattle.vtl_tree.specs.declared.nodes.JoinOperand.{JoinOperand}
use Rattle.vtl_tree.specs.declared.nodes.MeasureOp.{MeasureOp}
use Rattle.vtl_tree.specs.declared.nodes.Node as node
use Rattle.vtl_tree.specs.declared.nodes.Node.{Node}
use Rattle.vtl_tree.specs.declared.nodes.NodeForm as forms
use Rattle.vtl_tree.specs.declared.nodes.NodeForm.{NodeForm, out-NodeForm, roll-NodeForm}
use Rattle.vtl_tree.specs.declared.nodes.NodeForm.TheOpen.{NodeForm-F}
use Rattle.vtl_tree.specs.declared.nodes.NodeForm.TheVariants as form
use Rattle.vtl_tree.specs.declared.nodes.NodeForm.TheViews.{roll-out-NodeForm}
use Rattle.vtl_tree.specs.declared.specifications.AggSpec.{AggSpec}
use Rattle.vtl_tree.specs.declared.specifications.AnalyticSpec.{AnalyticSpec}
use Rattle.vtl_tree.specs.declared.specifications.CheckSpec.{CheckSpec}
use Rattle.vtl_tree.specs.declared.specifications.JoinSpec.{JoinSpec}
use Rattle.vtl_tree.specs.declared.rules.DatapointRules.{DatapointRules}
use Rattle.sql_tree.specs.Trees.{StatementTree, Text}
use Rattle.joins_to_sql.specs.FilteredJoins.{filtered_made}
use Rattle.selects_to_sql.specs.Queries.{filter_query}
use Rattle.selects_to_sql.specs.Tables.{Made, create_for, Sources, and_then, over, stored, with_one, with_two}
use Rattle.vtl_to_sql.specs.FormQueries.{query_of_one, query_of_two}
use Rattle.vtl_to_sql.specs.Tables.{filter_made, made_of, made_of_filter, made_of_form, source_of, sources_of, takes_filter}

-- ---- trees of forms

pub tree_of_named : (f : NodeForm) (name : Txt) → f ≡ form.Named name → form_tree f ≡ nodes.named name
tree_of_named f name e = ap form_tree e ∙ search (rules, forms.the_lemmas)

pub tree_of_calc : (f : NodeForm) (a : Box Node Global) (items : List CalcItem) → f ≡ form.Calc a items → form_tree f ≡ nodes.calc (node_tree a.value) (map item_tree items)
tree_of_calc f a items e = ap form_tree e ∙ search (rules, forms.the_lemmas)

pub tree_of_sub : (f : NodeForm) (a : Box Node Global) (values : List SubItem) → f ≡ form.Sub a values → form_tree f ≡ nodes.sub (node_tree a.value) values
tree_of_sub f a values e = ap form_tree e ∙ search (rules, forms.the_lemmas)

pub tree_of_aggregate : (f : NodeForm) (a : Box Node Global) (spec : AggSpec) → f ≡ form.Aggregate a spec → form_tree f ≡ nodes.aggregate (node_tree a.value) (agg_tree spec)
tree_of_aggregate f a spec e = ap form_tree e ∙ search (rules, forms.the_lemmas)

pub tree_of_analytic : (f : NodeForm) (a : Box Node Global) (spec : AnalyticSpec) → f ≡ form.Analytic a spec → form_tree f ≡ nodes.analytic_of (node_tree a.value) (analytic_tree spec)
tree_of_analytic f a spec e = ap form_tree e ∙ search (rules, forms.the_lemmas)

pub tree_of_measures : (f : NodeForm) (op : MeasureOp) (a : Box Node Global) → f ≡ form.Measures op a → form_tree f ≡ nodes.measures (measure_tree op) (node_tree a.value)
tree_of_measures f op a e = ap form_tree e ∙ search (rules, forms.the_lemmas)

pub tree_of_filter : (f : NodeForm) (a : Box Node Global) (c : CompExpr) → f ≡ form.Filter a c → form_tree f ≡ nodes.filter (node_tree a.value) (comp_exp_of c)
tree_of_filter f a c e = ap form_tree e ∙ search (rules, forms.the_lemmas)

pub tree_of_rename : (f : NodeForm) (a : Box Node Global) (pairs : List Renaming) → f ≡ form.Rename a pairs → form_tree f ≡ nodes.rename (node_tree a.value) pairs
tree_of_rename f a pairs e = ap form_tree e ∙ search (rules, forms.the_lemmas)

pub tree_of_pivot : (f : NodeForm) (a : Box Node Global) (id m : Txt) → f ≡ form.Pivot a id m → form_tree f ≡ nodes.pivot (node_tree a.value) id m
tree_of_pivot f a id m e = ap form_tree e ∙ search (rules, forms.the_lemmas)

pub tree_of_unpivot : (f : NodeForm) (a : Box Node Global) (id m : Txt) → f ≡ form.Unpivot a id m → form_tree f ≡ nodes.unpivot (node_tree a.value) id m
tree_of_unpivot f a id m e = ap form_tree e ∙ search (rules, forms.the_lemmas)

pub tree_of_member : (f : NodeForm) (a : Box Node Global) (m : Txt) → f ≡ form.Member a m → form_tree f ≡ nodes.member (node_tree a.value) m
tree_of_member f a m e = ap form_tree e ∙ search (rules, forms.the_lemmas)

pub tree_of_keep : (f : NodeForm) (a : Box Node Global) (names : List Txt) → f ≡ form.Keep a names → form_tree f ≡ nodes.keep (node_tree a.value) names
tree_of_keep f a names e = ap form_tree e ∙ search (rules, forms.the_lemmas)

pub tree_of_drop : (f : NodeForm) (a : Box Node Global) (names : List Txt) → f ≡ form.DropNamed a names → form_tree f ≡ nodes.drop_named (node_tree a.value) names
tree_of_drop f a names e = ap form_tree e ∙ search (rules, forms.the_lemmas)

pub tree_of_pair : (f : NodeForm) (o : ScalarOp) (a b : Box Node Global) → f ≡ form.Pair o a b → form_tree f ≡ nodes.pair o (node_tree a.value) (node_tree b.value)
tree_of_pair f o a b e = ap form_tree e ∙ search (rules, forms.the_lemmas)

pub tree_of_choose : (f : NodeForm) (c a b : Box Node Global) → f ≡ form.Choose c a b → form_tree f ≡ nodes.choose (node_tree c.value) (node_tree a.value) (node_tree b.value)
tree_of_choose f c a b e = ap form_tree e ∙ search (rules, forms.the_lemmas)

pub tree_of_difference : (f : NodeForm) (a b : Box Node Global) → f ≡ form.SetDiff a b → form_tree f ≡ nodes.set_diff (node_tree a.value) (node_tree b.value)
tree_of_difference f a b e = ap form_tree e ∙ search (rules, forms.the_lemmas)

pub tree_of_symmetric_difference : (f : NodeForm) (a b : Box Node Global) → f ≡ form.SymDiff a b → form_tree f ≡ nodes.sym_diff (node_tree a.value) (node_tree b.value)
tree_of_symmetric_difference f a b e = ap form_tree e ∙ search (rules, forms.the_lemmas)

pub tree_of_existence : (f : NodeForm) (a b : Box Node Global) (kept : Retain) → f ≡ form.ExistsIn a b kept → form_tree f ≡ nodes.exists_in (node_tree a.value) (node_tree b.value) kept
tree_of_existence f a b kept e = ap form_tree e ∙ search (rules, forms.the_lemmas)

pub tree_of_datapoint : (f : NodeForm) (a : Box Node Global) (ruled : DatapointRules) (out : CheckOut) → f ≡ form.CheckDatapoint a ruled out → form_tree f ≡ nodes.check_datapoint (node_tree a.value) (point_rules_tree ruled) out
tree_of_datapoint f a ruled out e = ap form_tree e ∙ search (rules, forms.the_lemmas)

pub tree_of_check : (f : NodeForm) (a : Box Node Global) (spec : CheckSpec) → f ≡ form.Check a None spec → form_tree f ≡ nodes.check (node_tree a.value) nodes.no_node spec
tree_of_check f a spec e = ap form_tree e ∙ search (rules, forms.the_lemmas)

pub tree_of_imbalance : (f : NodeForm) (a b : Box Node Global) (spec : CheckSpec) → f ≡ form.Check a (Some b) spec → form_tree f ≡ nodes.check (node_tree a.value) (nodes.some_node (node_tree b.value)) spec
tree_of_imbalance f a b spec e = ap form_tree e ∙ search (rules, forms.the_lemmas)

pub tree_of_join : (f : NodeForm) (os : Vec JoinOperand Global) (spec : JoinSpec) → f ≡ form.Join os spec → form_tree f ≡ nodes.join (nodes.operands_of (map operand_tree os.items)) spec
tree_of_join f os spec e = ap form_tree e ∙ search (rules, forms.the_lemmas)

-- ---- nodes

pub node_is : (n : Node) → node_tree n ≡ nodes.node n.structure (form_tree n.form)
node_is n = search (rules, node.the_lemmas)

-- ---- an operand that is more than a name
stored_form : (r : Text) (f : NodeForm) (layer : NodeForm-F NodeForm JoinOperand Node) → out-NodeForm f ≡ layer → ((name : Txt) → f ≡ form.Named name → ⊥) → (n : ℕ) (m : Made) → source_of r (form_tree f) n m ≡ stored r m
stored_form r f (NodeForm-F.Named name) is other n m = absurd (other name (sym (roll-out-NodeForm f) ∙ ap roll-NodeForm is ∙ form.rolls-Named name))
stored_form r f layer is other n m = search (rules, forms.the_lemmas)

pub source_of_other : (p : Settings) (r : Text) (a : Node) (n : ℕ) → ((name : Txt) → a.form ≡ form.Named name → ⊥) → sources_of p r (node_tree a) n ≡ stored r (made_of_form p r a.structure (form_tree a.form) n)
source_of_other p r a n other = ap (λ (b : NodeTree). sources_of p r b n) (node_is a) ∙ stored_form r a.form (out-NodeForm a.form) refl other n (made_of_form p r a.structure (form_tree a.form) n)

-- ---- filters

abbrev trees_of : List JoinOperand → OperandTrees
trees_of os = nodes.operands_of (map operand_tree os)

-- of a join
pub filter_of_join : (p : Settings) (r : Text) (s : Structure) (a : Node) (os : Vec JoinOperand Global) (all : List JoinOperand) (spec : JoinSpec) (e : CompExp) (n : ℕ) → a.form ≡ form.Join os spec → all ≡ os.items
    → filtered_made p (Some e) (made_of_form p r a.structure (nodes.join (trees_of all) spec) n) ≡ made_of_filter p r s (node_tree a) e n
filter_of_join p r s a os all spec e n is same =
    ap (λ (l : List JoinOperand). filtered_made p (Some e) (made_of_form p r a.structure (nodes.join (trees_of l) spec) n)) same
    ∙ sym (ap (λ (b : NodeTree). made_of_filter p r s b e n) (node_is a ∙ ap (nodes.node a.structure) (tree_of_join a.form os spec is)))

-- of anything else
without_filter : (s : Structure) (f : NodeForm) (layer : NodeForm-F NodeForm JoinOperand Node) → out-NodeForm f ≡ layer → ((os : Vec JoinOperand Global) (spec : JoinSpec) → f ≡ form.Join os spec → ⊥) → takes_filter (nodes.node s (form_tree f)) ≡ false
without_filter s f (NodeForm-F.Join os spec) is other = absurd (other os spec (sym (roll-out-NodeForm f) ∙ ap roll-NodeForm is ∙ form.rolls-Join os spec))
without_filter s f layer is other = search (rules, forms.the_lemmas)

pub filter_of_other : (p : Settings) (r : Text) (s : Structure) (a : Node) (e : CompExp) (n : ℕ) → ((os : Vec JoinOperand Global) (spec : JoinSpec) → a.form ≡ form.Join os spec → ⊥) → over (sources_of p r (node_tree a) n) (with_one (filter_query p e s)) ≡ made_of_filter p r s (node_tree a) e n
filter_of_other p r s a e n other =
    let b = node_tree a in
    let taken : takes_filter b ≡ false = ap takes_filter (node_is a) ∙ without_filter a.structure a.form (out-NodeForm a.form) refl other in
    sym (ap (λ t. filter_made p e s t (made_of p r b n) (sources_of p r b n)) taken)

pub filter_of_form : (p : Settings) (r : Text) (s : Structure) (f : NodeForm) (a : Box Node Global) (c : CompExpr) (n : ℕ) → f ≡ form.Filter a c → made_of_filter p r s (node_tree a.value) (comp_exp_of c) n ≡ made_of_form p r s (form_tree f) n
filter_of_form p r s f a c n is = sym (ap (λ (t : FormTree). made_of_form p r s t n) (tree_of_filter f a c is))

-- ---- forms of one operand, and of two that are no list
abbrev IsOf : NodeForm → Box Node Global → Type 0
IsOf f a =
    ((op : MeasureOp) × f ≡ form.Measures op a)
    ⊎ ((items : List CalcItem) × f ≡ form.Calc a items)
    ⊎ ((values : List SubItem) × f ≡ form.Sub a values)
    ⊎ ((id : Txt) × (m : Txt) × f ≡ form.Pivot a id m)
    ⊎ ((spec : AggSpec) × f ≡ form.Aggregate a spec)
    ⊎ ((spec : AnalyticSpec) × f ≡ form.Analytic a spec)
    ⊎ ((id : Txt) × (m : Txt) × f ≡ form.Unpivot a id m)
    ⊎ ((m : Txt) × f ≡ form.Member a m)
    ⊎ ((names : List Txt) × f ≡ form.Keep a names)
    ⊎ ((names : List Txt) × f ≡ form.DropNamed a names)
    ⊎ ((ruled : DatapointRules) × (out : CheckOut) × f ≡ form.CheckDatapoint a ruled out)

one_at : (p : Settings) (r : Text) (s : Structure) (b : NodeTree) (n : ℕ) (f t : FormTree) → f ≡ t → made_of_form p r s t n ≡ over (sources_of p r b n) (with_one (query_of_one p t s))
    → made_of_form p r s f n ≡ over (sources_of p r b n) (with_one (query_of_one p f s))
one_at p r s b n f t is made = subst (λ (u : FormTree). made_of_form p r s u n ≡ over (sources_of p r b n) (with_one (query_of_one p u s))) (sym is) made

pub one_made : (p : Settings) (r : Text) (s : Structure) (f : NodeForm) (a : Box Node Global) (n : ℕ) → IsOf f a → made_of_form p r s (form_tree f) n ≡ over (sources_of p r (node_tree a.value) n) (with_one (query_of_one p (form_tree f) s))
one_made p r s f a n (inl (op, e)) = let b = node_tree a.value in one_at p r s b n (form_tree f) (nodes.measures (measure_tree op) b) (tree_of_measures f op a e) refl
one_made p r s f a n (inr (inl (items, e))) = let b = node_tree a.value in one_at p r s b n (form_tree f) (nodes.calc b (map item_tree items)) (tree_of_calc f a items e) refl
one_made p r s f a n (inr (inr (inl (values, e)))) = let b = node_tree a.value in one_at p r s b n (form_tree f) (nodes.sub b values) (tree_of_sub f a values e) refl
one_made p r s f a n (inr (inr (inr (inl (id, m, e))))) = let b = node_tree a.value in one_at p r s b n (form_tree f) (nodes.pivot b id m) (tree_of_pivot f a id m e) refl
one_made p r s f a n (inr (inr (inr (inr (inl (spec, e)))))) = let b = node_tree a.value in one_at p r s b n (form_tree f) (nodes.aggregate b (agg_tree spec)) (tree_of_aggregate f a spec e) refl
one_made p r s f a n (inr (inr (inr (inr (inr (inl (spec, e))))))) = let b = node_tree a.value in one_at p r s b n (form_tree f) (nodes.analytic_of b (analytic_tree spec)) (tree_of_analytic f a spec e) refl
one_made p r s f a n (inr (inr (inr (inr (inr (inr (inl (id, m, e)))))))) = let b = node_tree a.value in one_at p r s b n (form_tree f) (nodes.unpivot b id m) (tree_of_unpivot f a id m e) refl
one_made p r s f a n (inr (inr (inr (inr (inr (inr (inr (inl (m, e))))))))) = let b = node_tree a.value in one_at p r s b n (form_tree f) (nodes.member b m) (tree_of_member f a m e) refl
one_made p r s f a n (inr (inr (inr (inr (inr (inr (inr (inr (inl (names, e)))))))))) = let b = node_tree a.value in one_at p r s b n (form_tree f) (nodes.keep b names) (tree_of_keep f a names e) refl
one_made p r s f a n (inr (inr (inr (inr (inr (inr (inr (inr (inr (inl (names, e))))))))))) = let b = node_tree a.value in one_at p r s b n (form_tree f) (nodes.drop_named b names) (tree_of_drop f a names e) refl
one_made p r s f a n (inr (inr (inr (inr (inr (inr (inr (inr (inr (inr (ruled, out, e))))))))))) = let b = node_tree a.value in one_at p r s b n (form_tree f) (nodes.check_datapoint b (point_rules_tree ruled) out) (tree_of_datapoint f a ruled out e) refl

-- ---- a naming

-- one that renames nothing is its operand
pub nothing_renamed : (p : Settings) (r : Text) (s : Structure) (f : NodeForm) (a : Box Node Global) (pairs : List Renaming) (n : ℕ) → f ≡ form.Rename a pairs → length pairs < 1
    → made_of_form p r a.value.structure (form_tree a.value.form) n ≡ made_of_form p r s (form_tree f) n
nothing_renamed p r s f a [] n e h = sym (ap (λ (b : NodeTree). made_of p r b n) (node_is a.value)) ∙ sym (ap (λ (t : FormTree). made_of_form p r s t n) (tree_of_rename f a [] e))
nothing_renamed p r s f a (x ∷ xs) n e h = absurd (omega (arith, h))

pub one_renamed : (p : Settings) (r : Text) (s : Structure) (f : NodeForm) (a : Box Node Global) (pairs : List Renaming) (n : ℕ) → f ≡ form.Rename a pairs → 1 ≤ length pairs
    → made_of_form p r s (form_tree f) n ≡ over (sources_of p r (node_tree a.value) n) (with_one (query_of_one p (form_tree f) s))
one_renamed p r s f a [] n e h = absurd (omega (arith, h))
one_renamed p r s f a (x ∷ xs) n e h = let b = node_tree a.value in one_at p r s b n (form_tree f) (nodes.rename b (x ∷ xs)) (tree_of_rename f a (x ∷ xs) e) refl

abbrev AreOf : NodeForm → (a b : Box Node Global) → Type 0
AreOf f a b =
    ((o : ScalarOp) × f ≡ form.Pair o a b)
    ⊎ f ≡ form.SetDiff a b
    ⊎ f ≡ form.SymDiff a b
    ⊎ ((kept : Retain) × f ≡ form.ExistsIn a b kept)

two_at : (p : Settings) (r : Text) (s : Structure) (c d : NodeTree) (n : ℕ) (f t : FormTree) → f ≡ t → made_of_form p r s t n ≡ over (and_then (sources_of p r c n) (sources_of p r d)) (with_two (query_of_two p t s))
    → made_of_form p r s f n ≡ over (and_then (sources_of p r c n) (sources_of p r d)) (with_two (query_of_two p f s))
two_at p r s c d n f t is made = subst (λ (u : FormTree). made_of_form p r s u n ≡ over (and_then (sources_of p r c n) (sources_of p r d)) (with_two (query_of_two p u s))) (sym is) made

pub two_made : (p : Settings) (r : Text) (s : Structure) (f : NodeForm) (a b : Box Node Global) (n : ℕ) → AreOf f a b
    → made_of_form p r s (form_tree f) n ≡ over (and_then (sources_of p r (node_tree a.value) n) (sources_of p r (node_tree b.value))) (with_two (query_of_two p (form_tree f) s))
two_made p r s f a b n (inl (o, e)) = let c = node_tree a.value in let d = node_tree b.value in two_at p r s c d n (form_tree f) (nodes.pair o c d) (tree_of_pair f o a b e) refl
two_made p r s f a b n (inr (inl e)) = let c = node_tree a.value in let d = node_tree b.value in two_at p r s c d n (form_tree f) (nodes.set_diff c d) (tree_of_difference f a b e) refl
two_made p r s f a b n (inr (inr (inl e))) = let c = node_tree a.value in let d = node_tree b.value in two_at p r s c d n (form_tree f) (nodes.sym_diff c d) (tree_of_symmetric_difference f a b e) refl
two_made p r s f a b n (inr (inr (inr (kept, e)))) = let c = node_tree a.value in let d = node_tree b.value in two_at p r s c d n (form_tree f) (nodes.exists_in c d kept) (tree_of_existence f a b kept e) refl

-- ---- `check`, of one operand or of two
pub check_made : (p : Settings) (r : Text) (s : Structure) (f : NodeForm) (a : Box Node Global) (spec : CheckSpec) (n : ℕ) → f ≡ form.Check a None spec → made_of_form p r s (form_tree f) n ≡ over (sources_of p r (node_tree a.value) n) (with_one (query_of_one p (form_tree f) s))
check_made p r s f a spec n e = let b = node_tree a.value in one_at p r s b n (form_tree f) (nodes.check b nodes.no_node spec) (tree_of_check f a spec e) refl

pub imbalance_made : (p : Settings) (r : Text) (s : Structure) (f : NodeForm) (a b : Box Node Global) (spec : CheckSpec) (n : ℕ) → f ≡ form.Check a (Some b) spec
    → made_of_form p r s (form_tree f) n ≡ over (and_then (sources_of p r (node_tree a.value) n) (sources_of p r (node_tree b.value))) (with_two (query_of_two p (form_tree f) s))
imbalance_made p r s f a b spec n e = let c = node_tree a.value in let d = node_tree b.value in two_at p r s c d n (form_tree f) (nodes.check c (nodes.some_node d) spec) (tree_of_imbalance f a b spec e) refl

-- ---- tables

-- the tables of operands behind those of others
pub behind_others : (os : Sources) (f : ℕ → Sources) (old between new : List StatementTree) (next : ℕ) → between ≡ old ++ map create_for os.tables → next ≡ os.next → new ≡ between ++ map create_for (f next).tables
    → new ≡ old ++ map create_for (and_then os f).tables
behind_others os f old between new next b n e =
    let theirs = (f os.next).tables in
    e ∙ ap (λ (m : ℕ). between ++ map create_for (f m).tables) n
    ∙ ap (λ l. l ++ map create_for theirs) b
    ∙ append_assoc old (map create_for os.tables) (map create_for theirs)
    ∙ ap (λ l. old ++ l) (sym (map-append create_for os.tables theirs))

-- the names of two operands
pub behind_names : (os : Sources) (f : ℕ → Sources) (x y : Text) (next : ℕ) → x ∷ [] ≡ os.names → next ≡ os.next → y ∷ [] ≡ (f next).names → x ∷ y ∷ [] ≡ (and_then os f).names
behind_names os f x y next a n b = ap (λ l. l ++ y ∷ []) a ∙ ap (λ l. os.names ++ l) (b ∙ ap (λ (m : ℕ). (f m).names) n)
