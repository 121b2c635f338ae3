-- Constants of expressions that a program holds.
use Rattle.std.proofs.Common.{◌≡◌, ℕ, suc, ◌+◌, ◌<◌, ◌^◌, arith, refl, ℕ, Bool, rules, true, false, cond, List, [], ◌∷◌, ◌++◌, map, length, Option, None, Some, find, sym, ap, subst, ◌∙◌}
use Rattle.std.specs.List.{AllByRecursion}
use Rattle.std.specs.Prelude.{Box, Vec}
use Rattle.std.specs.declared.alloc.Global.{Global}
use Rattle.std.specs.Option.{IfSome, option_map_or}
use Rattle.std.proofs.lemmas.List.{length-map}
use Rattle.vtl_lists.proofs.Alls.{all_append}
use Rattle.vtl_cell.specs.declared.kind.Kind.{Kind}
use Rattle.vtl_cell.specs.declared.operator.ScalarOp.{ScalarOp}
use Rattle.vtl_cell.specs.Held.{IsHeld}
use Rattle.vtl_cell.specs.declared.cell.Cell.TheVariants as c
use Rattle.vtl_syntax.specs.declared.statements.HierRule.{HierRule}
use Rattle.vtl_syntax.specs.declared.word_groups.CheckOut.{CheckOut}
use Rattle.vtl_syntax.specs.declared.word_groups.HierInput.{HierInput}
use Rattle.vtl_syntax.specs.declared.word_groups.HierOut.{HierOut}
use Rattle.vtl_syntax.specs.declared.word_groups.Mode.{Mode}
use Rattle.vtl_tree.specs.CompExp.{CompExp, aggregate, call, column, const}
use Rattle.vtl_tree.specs.Structure.{columns_of}
use Rattle.vtl_tree.specs.View.{comp_exp_of, comp_exps_of}
use Rattle.vtl_tree.specs.declared.expression.CompExpr as exprs
use Rattle.vtl_tree.specs.declared.expression.CompExpr.{CompExpr}
use Rattle.vtl_tree.specs.declared.expression.CompExpr.TheVariants as expr
use Rattle.vtl_tree.specs.Trees as nodes
use Rattle.vtl_tree.specs.NodeView.{form_tree, item_tree, measure_tree, node_tree, operand_tree, point_rule_tree, point_rules_tree, value_tree}
use Rattle.vtl_tree.specs.declared.clauses.CalcItem.{CalcItem}
use Rattle.vtl_scripts.specs.Made.{operands_in}
use Rattle.vtl_tree.specs.Names.{name_of}
use Rattle.vtl_tree.specs.RuleItems.{items_of, signed_item}
use Rattle.vtl_tree.specs.declared.rules.DatapointRules.{DatapointRules}
use Rattle.vtl_tree.specs.declared.rules.HierRules.{HierRules}
use Rattle.vtl_tree.specs.declared.specifications.CheckSpec.{CheckSpec}
use Rattle.vtl_tree.specs.declared.specifications.JoinSpec.{JoinSpec}
use Rattle.vtl_tree.specs.declared.nodes.JoinOperand.{JoinOperand}
use Rattle.vtl_tree.specs.declared.nodes.MeasureOp.{MeasureOp}
use Rattle.vtl_tree.specs.declared.nodes.Node.{Node}
use Rattle.vtl_tree.specs.declared.nodes.NodeForm as forms
use Rattle.vtl_tree.specs.declared.nodes.NodeForm.{NodeForm}
use Rattle.vtl_tree.specs.declared.nodes.NodeForm.TheVariants as form
use Rattle.vtl_tree.specs.declared.structure.Component.{Component}
use Rattle.vtl_tree.specs.declared.structure.Structure.{Structure}
use Rattle.vtl_tree.specs.Pairs.{contains}
use Rattle.vtl_tree.specs.Columns.{column_behind, column_named, columns_named, identifiers_of, measures_of}
use Rattle.vtl_meaning.specs.Operators.{calculated_exp, calculated_exps, for_measures, measured_exps, pair_exps, value_exp, with_measure, with_namesake}
use Rattle.vtl_tree.specs.Trees.{FormTree, ItemTree, MeasureTree, NodeTree, nodes_of, operands_of, structure_of}
use Rattle.vtl_walks.proofs.Laws.{operand_node}
use Rattle.expressions_to_sql.specs.Held.{AllHold, HoldsValues, IsMemberHeld, OperandsHold, asks_a_set}
use Rattle.rules_to_sql.specs.Writable.{AreErrorsHeld}
use Rattle.vtl_to_sql.specs.Accepted.{AllHoldValues, FormHoldsParts, HoldsParts, NodesHoldParts, OperandsHoldParts, RuleHoldsValues, RulesHoldTexts}
use Rattle.vtl_to_sql.proofs.Walked.{node_is}

-- ---- lists

pub of_mapped : {X Y : Type 0} (P : Y → Type 0) (f : X → Y) (xs : List X) → AllByRecursion (λ x. P (f x)) xs → AllByRecursion P (map f xs)
of_mapped P f [] h = h
of_mapped P f (x ∷ xs) h = (h.0, of_mapped P f xs h.1)

pub nodes_hold : (ns : List NodeTree) → AllByRecursion HoldsParts ns → NodesHoldParts (nodes_of ns)
nodes_hold [] h = h
nodes_hold (n ∷ ns) h = (h.0, nodes_hold ns h.1)

-- ---- operands

member_held : (e : CompExp) → HoldsValues e → IsMemberHeld e
member_held (column place name kind) h = tt
member_held (const v) h = h
member_held (call o kind args) h = tt
member_held (aggregate a kind) h = tt

members_held : (set : Bool) (es : List CompExp) → AllHoldValues es → AllHold set (comp_exps_of es)
members_held set [] h = tt
members_held false (e ∷ es) h = (h.0, members_held false es h.1)
members_held true (e ∷ es) h = (member_held e h.0, members_held true es h.1)

operands_held : (set : Bool) (es : List CompExp) → AllHoldValues es → OperandsHold set (comp_exps_of es)
operands_held set [] h = tt
operands_held set (e ∷ es) h = (h.0, members_held set es h.1)

pub call_held : (o : ScalarOp) (kind : Kind) (es : List CompExp) → AllHoldValues es → HoldsValues (call o kind (comp_exps_of es))
call_held o kind es h = operands_held (asks_a_set o) es h

-- ---- expressions of queries

columns_hold : (xs ys : List Component) → AllHoldValues (columns_named xs ys)
columns_hold xs [] = tt
columns_hold xs (y ∷ ys) = (tt, columns_hold xs ys)

measures_hold : (f : Component → Component → CompExp) → ((x y : Component) → HoldsValues (f x y)) → (xs ys : List Component) → AllHoldValues (for_measures f xs ys)
measures_hold f h [] ys = tt
measures_hold f h (x ∷ xs) [] = tt
measures_hold f h (x ∷ xs) (y ∷ ys) = (h x y, measures_hold f h xs ys)

pub measured_held : (m : MeasureTree) (a s : Structure) → AllHoldValues m.before → AllHoldValues m.after → AllHoldValues (measured_exps m a s)
measured_held m a s before after =
    all_append HoldsValues (columns_named (columns_of a) (identifiers_of s)) (for_measures (with_measure m (columns_of a)) (measures_of a) (measures_of s)) (columns_hold (columns_of a) (identifiers_of s))
    (measures_hold (with_measure m (columns_of a)) (λ x y. call_held m.op y.kind (m.before ++ column_named (columns_of a) x.name ∷ m.after) (all_append HoldsValues m.before (column_named (columns_of a) x.name ∷ m.after) before (tt, after))) (measures_of a) (measures_of s))

pub pair_held : (o : ScalarOp) (a b s : Structure) → AllHoldValues (pair_exps o a b s)
pair_held o a b s = go (contains a b)
  where
    namesakes : (n : ℕ) (xs ys us ms : List Component) → AllHoldValues (for_measures (with_namesake o (column_named xs) (column_behind n ys)) us ms)
    namesakes n xs ys us ms = measures_hold (with_namesake o (column_named xs) (column_behind n ys)) (λ x y. call_held o y.kind (column_named xs x.name ∷ column_behind n ys x.name ∷ []) (tt, (tt, tt))) us ms

    turned : (n : ℕ) (xs ys us ms : List Component) → AllHoldValues (for_measures (with_namesake o (column_behind n ys) (column_named xs)) us ms)
    turned n xs ys us ms = measures_hold (with_namesake o (column_behind n ys) (column_named xs)) (λ x y. call_held o y.kind (column_behind n ys x.name ∷ column_named xs x.name ∷ []) (tt, (tt, tt))) us ms

    go : (leads : Bool) → AllHoldValues (cond leads
        (columns_named (columns_of a) (identifiers_of s) ++ for_measures (with_namesake o (column_named (columns_of a)) (column_behind (length (columns_of a)) (columns_of b))) (measures_of a) (measures_of s))
        (columns_named (columns_of b) (identifiers_of s) ++ for_measures (with_namesake o (column_behind (length (columns_of b)) (columns_of a)) (column_named (columns_of b))) (measures_of a) (measures_of s)))
    go true = all_append HoldsValues (columns_named (columns_of a) (identifiers_of s)) _ (columns_hold (columns_of a) (identifiers_of s)) (namesakes (length (columns_of a)) (columns_of a) (columns_of b) (measures_of a) (measures_of s))
    go false = all_append HoldsValues (columns_named (columns_of b) (identifiers_of s)) _ (columns_hold (columns_of b) (identifiers_of s)) (turned (length (columns_of b)) (columns_of b) (columns_of a) (measures_of a) (measures_of s))

-- the value of the first target for which a test holds, or a column
target_held : (test : ItemTree → Bool) (items : List ItemTree) (e : CompExp) → AllByRecursion (λ i. HoldsValues (value_exp i.value)) items → HoldsValues e → HoldsValues (option_map_or (λ i. value_exp i.value) (find test items) e)
target_held test [] e h k = k
target_held test (i ∷ is) e h k = go (test i) (target_held test is e h.1 k)
  where
    go : (b : Bool) → HoldsValues (option_map_or (λ i. value_exp i.value) (find test is) e) → HoldsValues (option_map_or (λ i. value_exp i.value) (cond b (Some i) (find test is)) e)
    go true later = h.0
    go false later = later

pub calculated_held : (items : List ItemTree) (a s : Structure) → AllByRecursion (λ i. HoldsValues (value_exp i.value)) items → AllHoldValues (calculated_exps items a s)
calculated_held items a s h = go (columns_of s)
  where
    go : (ys : List Component) → AllHoldValues (map (calculated_exp items (columns_of a)) ys)
    go [] = tt
    go (y ∷ ys) = (target_held _ items (column_named (columns_of a) y.name) h tt, go ys)

-- ---- the program's trees

pub apply_held : (e : CompExpr) (o : ScalarOp) (kind : Kind) (args : Vec CompExpr Global) → e ≡ expr.Apply o kind args → AllByRecursion (λ x. HoldsValues (comp_exp_of x)) args.items → HoldsValues (comp_exp_of e)
apply_held e o kind args is h =
    let tree : comp_exp_of (expr.Apply o kind args) ≡ call o kind (comp_exps_of (map comp_exp_of args.items)) = search (rules, exprs.the_lemmas) in
    subst HoldsValues (sym (ap comp_exp_of is ∙ tree)) (call_held o kind (map comp_exp_of args.items) (of_mapped HoldsValues comp_exp_of args.items h))

form_held : (n : Node) (f : NodeForm) (t : FormTree) → n.form ≡ f → form_tree f ≡ t → FormHoldsParts n.structure t → HoldsParts (node_tree n)
form_held n f t e d h = subst HoldsParts (sym (node_is n ∙ ap (λ (g : NodeForm). nodes.node n.structure (form_tree g)) e ∙ ap (nodes.node n.structure) d)) h

pub measures_node_held : (n : Node) (m : MeasureOp) (a : Box Node Global) → n.form ≡ form.Measures m a → HoldsParts (node_tree a.value) → AllByRecursion (λ x. HoldsValues (comp_exp_of x)) m.before → AllByRecursion (λ x. HoldsValues (comp_exp_of x)) m.after → HoldsParts (node_tree n)
measures_node_held n m a e h before after =
    let tree : form_tree (form.Measures m a) ≡ nodes.measures (measure_tree m) (node_tree a.value) = search (rules, forms.the_lemmas) in
    form_held n (form.Measures m a) (nodes.measures (measure_tree m) (node_tree a.value)) e tree
    (h, measured_held (measure_tree m) (structure_of (node_tree a.value)) n.structure (of_mapped HoldsValues comp_exp_of m.before before) (of_mapped HoldsValues comp_exp_of m.after after))

pub calc_node_held : (n : Node) (a : Box Node Global) (items : List CalcItem) → n.form ≡ form.Calc a items → HoldsParts (node_tree a.value) → AllByRecursion (λ i. HoldsValues (value_exp (value_tree i.value))) items → HoldsParts (node_tree n)
calc_node_held n a items e h held =
    let tree : form_tree (form.Calc a items) ≡ nodes.calc (node_tree a.value) (map item_tree items) = search (rules, forms.the_lemmas) in
    form_held n (form.Calc a items) (nodes.calc (node_tree a.value) (map item_tree items)) e tree
    (h, calculated_held (map item_tree items) (structure_of (node_tree a.value)) n.structure (of_mapped (λ (i : ItemTree). HoldsValues (value_exp i.value)) item_tree items held))

pub pair_node_held : (n : Node) (o : ScalarOp) (a b : Box Node Global) → n.form ≡ form.Pair o a b → HoldsParts (node_tree a.value) → HoldsParts (node_tree b.value) → HoldsParts (node_tree n)
pair_node_held n o a b e h k =
    let tree : form_tree (form.Pair o a b) ≡ nodes.pair o (node_tree a.value) (node_tree b.value) = search (rules, forms.the_lemmas) in
    form_held n (form.Pair o a b) (nodes.pair o (node_tree a.value) (node_tree b.value)) e tree (h, k, pair_held o (structure_of (node_tree a.value)) (structure_of (node_tree b.value)) n.structure)

pub union_node_held : (n : Node) (ns : Vec Node Global) → n.form ≡ form.Union ns → AllByRecursion (λ m. HoldsParts (node_tree m)) ns.items → HoldsParts (node_tree n)
union_node_held n ns e h =
    let tree : form_tree (form.Union ns) ≡ nodes.union (nodes_of (map node_tree ns.items)) = search (rules, forms.the_lemmas) in
    form_held n (form.Union ns) (nodes.union (nodes_of (map node_tree ns.items))) e tree (nodes_hold (map node_tree ns.items) (of_mapped HoldsParts node_tree ns.items h))

pub intersect_node_held : (n : Node) (ns : Vec Node Global) → n.form ≡ form.Intersect ns → AllByRecursion (λ m. HoldsParts (node_tree m)) ns.items → HoldsParts (node_tree n)
intersect_node_held n ns e h =
    let tree : form_tree (form.Intersect ns) ≡ nodes.intersect (nodes_of (map node_tree ns.items)) = search (rules, forms.the_lemmas) in
    form_held n (form.Intersect ns) (nodes.intersect (nodes_of (map node_tree ns.items))) e tree (nodes_hold (map node_tree ns.items) (of_mapped HoldsParts node_tree ns.items h))

operands_hold_parts : (os : List JoinOperand) → AllByRecursion (λ o. HoldsParts (node_tree o.node)) os → OperandsHoldParts (operands_of (map operand_tree os))
operands_hold_parts [] h = tt
operands_hold_parts (o ∷ os) h = (subst HoldsParts (sym (operand_node o)) h.0, operands_hold_parts os h.1)

as_many_operands : (os : List JoinOperand) → length (operands_in (operands_of (map operand_tree os))) ≡ length os
as_many_operands [] = refl
as_many_operands (o ∷ os) = ap suc (as_many_operands os)

pub join_node_held : (n : Node) (os : Vec JoinOperand Global) (spec : JoinSpec) → n.form ≡ form.Join os spec → AllByRecursion (λ o. HoldsParts (node_tree o.node)) os.items → length os.items + 1 < 2 ^ 64 → HoldsParts (node_tree n)
join_node_held n os spec e h few =
    let tree : form_tree (form.Join os spec) ≡ nodes.join (operands_of (map operand_tree os.items)) spec = search (rules, forms.the_lemmas) in
    form_held n (form.Join os spec) (nodes.join (operands_of (map operand_tree os.items)) spec) e tree (operands_hold_parts os.items h, omega (arith, few, as_many_operands os.items))

pub check_node_held : (n : Node) (a : Box Node Global) (i : Option (Box Node Global)) (spec : CheckSpec) → n.form ≡ form.Check a i spec → HoldsParts (node_tree a.value) → IfSome i (λ b. HoldsParts (node_tree b.value)) → AreErrorsHeld spec.errorcode spec.errorlevel → HoldsParts (node_tree n)
check_node_held n a None spec e h k errors =
    let tree : form_tree (form.Check a None spec) ≡ nodes.check (node_tree a.value) nodes.no_node spec = search (rules, forms.the_lemmas) in
    form_held n (form.Check a None spec) (nodes.check (node_tree a.value) nodes.no_node spec) e tree (h, tt, errors)
check_node_held n a (Some b) spec e h k errors =
    let tree : form_tree (form.Check a (Some b) spec) ≡ nodes.check (node_tree a.value) (nodes.some_node (node_tree b.value)) spec = search (rules, forms.the_lemmas) in
    form_held n (form.Check a (Some b) spec) (nodes.check (node_tree a.value) (nodes.some_node (node_tree b.value)) spec) e tree (h, k, errors)

pub datapoint_node_held : (n : Node) (a : Box Node Global) (ruled : DatapointRules) (out : CheckOut) → n.form ≡ form.CheckDatapoint a ruled out → HoldsParts (node_tree a.value) → AllByRecursion (λ r. RuleHoldsValues (point_rule_tree r)) ruled.rules → length ruled.rules < 2 ^ 64 → HoldsParts (node_tree n)
datapoint_node_held n a ruled out e h held few =
    let tree : form_tree (form.CheckDatapoint a ruled out) ≡ nodes.check_datapoint (node_tree a.value) (point_rules_tree ruled) out = search (rules, forms.the_lemmas) in
    form_held n (form.CheckDatapoint a ruled out) (nodes.check_datapoint (node_tree a.value) (point_rules_tree ruled) out) e tree (h, of_mapped RuleHoldsValues point_rule_tree ruled.rules held, omega (arith, few, length-map ruled.rules point_rule_tree))

-- the texts of a rule's items
pub items_held : (r : HierRule) → IsHeld (c.Text (name_of r.item)) → IsHeld (c.Text (name_of r.first)) → AllByRecursion (λ x. IsHeld (c.Text (signed_item x))) r.others → AllByRecursion (λ item. IsHeld (c.Text item)) (items_of r)
items_held r left first others = (left, (first, of_mapped (λ item. IsHeld (c.Text item)) signed_item r.others others))

pub checked_node_held : (n : Node) (a : Box Node Global) (ruled : HierRules) (m : Mode) (o : CheckOut) → n.form ≡ form.CheckHierarchy a ruled m o → HoldsParts (node_tree a.value) → RulesHoldTexts ruled.rules → HoldsParts (node_tree n)
checked_node_held n a ruled m o e h held =
    let tree : form_tree (form.CheckHierarchy a ruled m o) ≡ nodes.check_hierarchy (node_tree a.value) ruled m o = search (rules, forms.the_lemmas) in
    form_held n (form.CheckHierarchy a ruled m o) (nodes.check_hierarchy (node_tree a.value) ruled m o) e tree (h, held)

pub computed_node_held : (n : Node) (a : Box Node Global) (ruled : HierRules) (m : Mode) (i : HierInput) (o : HierOut) → n.form ≡ form.Hierarchy a ruled m i o → HoldsParts (node_tree a.value) → RulesHoldTexts ruled.rules → HoldsParts (node_tree n)
computed_node_held n a ruled m i o e h held =
    let tree : form_tree (form.Hierarchy a ruled m i o) ≡ nodes.hierarchy (node_tree a.value) ruled m i o = search (rules, forms.the_lemmas) in
    form_held n (form.Hierarchy a ruled m i o) (nodes.hierarchy (node_tree a.value) ruled m i o) e tree (h, held)
