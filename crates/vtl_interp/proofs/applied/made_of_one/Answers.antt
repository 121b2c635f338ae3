use Rattle.std.proofs.Common.{◌≡◌, ◌∷◌, [], Ok, map, refl, subst}
use Rattle.std.specs.Prelude.{IfOk}
use Rattle.vtl_scalar.specs.Answers.{Answers}
use Rattle.vtl_tree.specs.Trees as nodes
use Rattle.vtl_tree.specs.Trees.{structure_of}
use Rattle.vtl_tree.specs.NodeView.{agg_tree, analytic_tree, item_tree, measure_tree, node_tree, point_rules_tree}
use Rattle.vtl_tree.specs.declared.choices.Choice.TheVariants as choice
use Rattle.vtl_tree.specs.declared.names.Wanted.TheVariants as wanted
use Rattle.vtl_tree.specs.declared.nodes.NodeForm.TheVariants as form
use Rattle.vtl_meaning.specs.Aggregates.{aggregate_of}
use Rattle.vtl_meaning.specs.Analytics.{analytic_of}
use Rattle.vtl_sets.specs.DataSets.{data_set, with_structure}
use Rattle.vtl_meaning.specs.Made.{IsLeft, IsRenamed}
use Rattle.vtl_meaning.specs.Operators.{calculated_of, left_of, measured_of, sub_of}
use Rattle.vtl_meaning.specs.Shapes.{IsChosen, IsRenamedBy}
use Rattle.vtl_meaning.specs.Turned.{pivot_of, unpivot_of}
use Rattle.vtl_rulings.specs.Hierarchies.{hierarchy_of}
use Rattle.vtl_rulings.specs.HierarchyChecks.{check_hierarchy_of, ruled_by}
use Rattle.vtl_rulings.specs.HierarchyShapes.{IsHierarchyChecked, IsHierarchyMade}
use Rattle.vtl_rulings.specs.Ordered.{HasOrder}
use Rattle.vtl_rulings.specs.PointChecks.{datapoint_of}
use Rattle.vtl_rulings.specs.Shaped.{IsPointChecked}
use Rattle.vtl_timing.specs.Timed.{timed_of}
use Rattle.vtl_interp.specs.Evaluated.{Gives}
use Rattle.vtl_interp.proofs.NodesEvaluated.{aggregate_fits, analytic_fits, form_tree-Aggregate, form_tree-Analytic, form_tree-Calc, form_tree-CheckDatapoint, form_tree-CheckHierarchy, form_tree-DropNamed, form_tree-Hierarchy, form_tree-Keep, form_tree-Measures, form_tree-Member, form_tree-Pivot, form_tree-Rename, form_tree-Sub, form_tree-Time, form_tree-Unpivot, measures_fit, one_fits, one_given_at, one_operand, renamed, time_fits}
use Rattle.vtl_interp.proofs.applied.made_of_one.Goals as goal

pub map_measures-requires : goal.map_measures-requires
map_measures-requires c =
    let n = c.args.node.now in
    let v = c.args.a in
    let x = c.in-Measures in
    measures_fit c.args.p.now c.requires.0 n x.op x.a v x.is c.requires.1
    (one_given_at c.args.p.now c.requires.0 n (form.Measures x.op x.a) (nodes.measures (measure_tree x.op) (node_tree x.a.value)) v x.is (form_tree-Measures x.op x.a) c.requires.2)

pub returns-in-Measures : goal.returns-in-Measures
returns-in-Measures c env made g =
    let n = c.args.node.now in
    let s = n.structure in
    let v = c.args.a in
    let x = c.in-Measures in
    let a = node_tree x.a.value in
    one_operand (λ d. d) c.args.p.now env n (form.Measures x.op x.a) (nodes.measures (measure_tree x.op) a) a v (λ d. measured_of c.args.p.now (measure_tree x.op) d s) c.map_measures.result x.is (form_tree-Measures x.op x.a) refl
    (one_given_at c.args.p.now env n (form.Measures x.op x.a) (nodes.measures (measure_tree x.op) a) v x.is (form_tree-Measures x.op x.a) g)
    c.map_measures.ensures

pub keep_columns-requires-clause-left : goal.keep_columns-requires-clause-left
keep_columns-requires-clause-left c =
    let n = c.args.node.now in
    let v = c.args.a in
    let x = c.in-Member in
    let a = node_tree x.a.value in
    one_fits IsLeft c.args.p.now c.requires.0 n (form.Member x.a x.m) (nodes.member a x.m) a v x.is (form_tree-Member x.a x.m) (λ m. m.1) c.requires.1
    (one_given_at c.args.p.now c.requires.0 n (form.Member x.a x.m) (nodes.member a x.m) v x.is (form_tree-Member x.a x.m) c.requires.2)

pub keep_columns-requires-clause-chosen : goal.keep_columns-requires-clause-chosen
keep_columns-requires-clause-chosen c =
    let n = c.args.node.now in
    let v = c.args.a in
    let x = c.in-Member in
    let a = node_tree x.a.value in (
      wanted.Measure,
      choice.Keep,
      (x.m ∷ []),
      one_fits (IsChosen wanted.Measure choice.Keep (x.m ∷ [])) c.args.p.now c.requires.0 n (form.Member x.a x.m) (nodes.member a x.m) a v x.is (form_tree-Member x.a x.m) (λ m. m.2) c.requires.1
          (one_given_at c.args.p.now c.requires.0 n (form.Member x.a x.m) (nodes.member a x.m) v x.is (form_tree-Member x.a x.m) c.requires.2),
    )

pub returns-in-Member : goal.returns-in-Member
returns-in-Member c env made g =
    let n = c.args.node.now in
    let s = n.structure in
    let v = c.args.a in
    let x = c.in-Member in
    let a = node_tree x.a.value in
    one_operand (λ d. d) c.args.p.now env n (form.Member x.a x.m) (nodes.member a x.m) a v (λ d. Ok (left_of d s)) c.answered.result x.is (form_tree-Member x.a x.m) refl
    (one_given_at c.args.p.now env n (form.Member x.a x.m) (nodes.member a x.m) v x.is (form_tree-Member x.a x.m) g)
    (c.answered.ensures (data_set s (left_of v s)) c.keep_columns.ensures)

pub keep_columns-requires-in-Keep-clause-left : goal.keep_columns-requires-in-Keep-clause-left
keep_columns-requires-in-Keep-clause-left c =
    let n = c.args.node.now in
    let v = c.args.a in
    let x = c.in-Keep in
    let a = node_tree x.a.value in
    one_fits IsLeft c.args.p.now c.requires.0 n (form.Keep x.a x.names) (nodes.keep a x.names) a v x.is (form_tree-Keep x.a x.names) (λ m. m.1) c.requires.1
    (one_given_at c.args.p.now c.requires.0 n (form.Keep x.a x.names) (nodes.keep a x.names) v x.is (form_tree-Keep x.a x.names) c.requires.2)

pub keep_columns-requires-in-Keep-clause-chosen : goal.keep_columns-requires-in-Keep-clause-chosen
keep_columns-requires-in-Keep-clause-chosen c =
    let n = c.args.node.now in
    let v = c.args.a in
    let x = c.in-Keep in
    let a = node_tree x.a.value in (
      wanted.Value,
      choice.Keep,
      x.names,
      one_fits (IsChosen wanted.Value choice.Keep x.names) c.args.p.now c.requires.0 n (form.Keep x.a x.names) (nodes.keep a x.names) a v x.is (form_tree-Keep x.a x.names) (λ m. m.2) c.requires.1
          (one_given_at c.args.p.now c.requires.0 n (form.Keep x.a x.names) (nodes.keep a x.names) v x.is (form_tree-Keep x.a x.names) c.requires.2),
    )

pub returns-in-Keep : goal.returns-in-Keep
returns-in-Keep c env made g =
    let n = c.args.node.now in
    let s = n.structure in
    let v = c.args.a in
    let x = c.in-Keep in
    let a = node_tree x.a.value in
    one_operand (λ d. d) c.args.p.now env n (form.Keep x.a x.names) (nodes.keep a x.names) a v (λ d. Ok (left_of d s)) c.answered-in-Keep.result x.is (form_tree-Keep x.a x.names) refl
    (one_given_at c.args.p.now env n (form.Keep x.a x.names) (nodes.keep a x.names) v x.is (form_tree-Keep x.a x.names) g)
    (c.answered-in-Keep.ensures (data_set s (left_of v s)) c.keep_columns-in-Keep.ensures)

pub keep_columns-requires-in-DropNamed-clause-left : goal.keep_columns-requires-in-DropNamed-clause-left
keep_columns-requires-in-DropNamed-clause-left c =
    let n = c.args.node.now in
    let v = c.args.a in
    let x = c.in-DropNamed in
    let a = node_tree x.a.value in
    one_fits IsLeft c.args.p.now c.requires.0 n (form.DropNamed x.a x.names) (nodes.drop_named a x.names) a v x.is (form_tree-DropNamed x.a x.names) (λ m. m.1) c.requires.1
    (one_given_at c.args.p.now c.requires.0 n (form.DropNamed x.a x.names) (nodes.drop_named a x.names) v x.is (form_tree-DropNamed x.a x.names) c.requires.2)

pub keep_columns-requires-in-DropNamed-clause-chosen : goal.keep_columns-requires-in-DropNamed-clause-chosen
keep_columns-requires-in-DropNamed-clause-chosen c =
    let n = c.args.node.now in
    let v = c.args.a in
    let x = c.in-DropNamed in
    let a = node_tree x.a.value in (
      wanted.Value,
      choice.Drop,
      x.names,
      one_fits (IsChosen wanted.Value choice.Drop x.names) c.args.p.now c.requires.0 n (form.DropNamed x.a x.names) (nodes.drop_named a x.names) a v x.is (form_tree-DropNamed x.a x.names) (λ m. m.2) c.requires.1
          (one_given_at c.args.p.now c.requires.0 n (form.DropNamed x.a x.names) (nodes.drop_named a x.names) v x.is (form_tree-DropNamed x.a x.names) c.requires.2),
    )

pub returns-in-DropNamed : goal.returns-in-DropNamed
returns-in-DropNamed c env made g =
    let n = c.args.node.now in
    let s = n.structure in
    let v = c.args.a in
    let x = c.in-DropNamed in
    let a = node_tree x.a.value in
    one_operand (λ d. d) c.args.p.now env n (form.DropNamed x.a x.names) (nodes.drop_named a x.names) a v (λ d. Ok (left_of d s)) c.answered-in-DropNamed.result x.is (form_tree-DropNamed x.a x.names) refl
    (one_given_at c.args.p.now env n (form.DropNamed x.a x.names) (nodes.drop_named a x.names) v x.is (form_tree-DropNamed x.a x.names) g)
    (c.answered-in-DropNamed.ensures (data_set s (left_of v s)) c.keep_columns-in-DropNamed.ensures)

pub returns-in-Calc : goal.returns-in-Calc
returns-in-Calc c env made g =
    let n = c.args.node.now in
    let s = n.structure in
    let v = c.args.a in
    let x = c.in-Calc in
    let a = node_tree x.a.value in
    one_operand (λ d. d) c.args.p.now env n (form.Calc x.a x.items) (nodes.calc a (map item_tree x.items)) a v (λ d. calculated_of c.args.p.now (map item_tree x.items) d s) c.calc.result x.is (form_tree-Calc x.a x.items) refl
    (one_given_at c.args.p.now env n (form.Calc x.a x.items) (nodes.calc a (map item_tree x.items)) v x.is (form_tree-Calc x.a x.items) g)
    (subst (λ items. Answers c.calc.result (with_structure s (calculated_of c.args.p.now (map item_tree items) v s))) c.as_slice.ensures c.calc.ensures)

pub returns-in-Sub : goal.returns-in-Sub
returns-in-Sub c env made g =
    let n = c.args.node.now in
    let s = n.structure in
    let v = c.args.a in
    let x = c.in-Sub in
    let a = node_tree x.a.value in
    one_operand (λ d. d) c.args.p.now env n (form.Sub x.a x.values) (nodes.sub a x.values) a v (λ d. Ok (sub_of x.values d s)) c.answered-in-Sub.result x.is (form_tree-Sub x.a x.values) refl
    (one_given_at c.args.p.now env n (form.Sub x.a x.values) (nodes.sub a x.values) v x.is (form_tree-Sub x.a x.values) g)
    (c.answered-in-Sub.ensures (data_set s (sub_of x.values v s)) (subst (λ items. IfOk c.sub.result (λ d. d ≡ data_set s (sub_of items v s))) c.as_slice-in-Sub.ensures c.sub.ensures))

pub rename-requires-clause-made : goal.rename-requires-clause-made
rename-requires-clause-made c =
    let n = c.args.node.now in
    let v = c.args.a in
    let x = c.in-Rename in
    let a = node_tree x.a.value in
    one_fits IsRenamed c.args.p.now c.requires.0 n (form.Rename x.a x.pairs) (nodes.rename a x.pairs) a v x.is (form_tree-Rename x.a x.pairs) (λ m. m.1) c.requires.1
    (one_given_at c.args.p.now c.requires.0 n (form.Rename x.a x.pairs) (nodes.rename a x.pairs) v x.is (form_tree-Rename x.a x.pairs) c.requires.2)

pub rename-requires-clause-pairs : goal.rename-requires-clause-pairs
rename-requires-clause-pairs c =
    let n = c.args.node.now in
    let v = c.args.a in
    let x = c.in-Rename in
    let a = node_tree x.a.value in (
      x.pairs,
      one_fits (IsRenamedBy x.pairs) c.args.p.now c.requires.0 n (form.Rename x.a x.pairs) (nodes.rename a x.pairs) a v x.is (form_tree-Rename x.a x.pairs) (λ m. m.2) c.requires.1
          (one_given_at c.args.p.now c.requires.0 n (form.Rename x.a x.pairs) (nodes.rename a x.pairs) v x.is (form_tree-Rename x.a x.pairs) c.requires.2),
    )

pub returns-in-Rename : goal.returns-in-Rename
returns-in-Rename c env made g =
    let n = c.args.node.now in
    let v = c.args.a in
    let x = c.in-Rename in
    renamed (λ d. d) c.args.p.now env n x.a x.pairs v c.answered-in-Rename.result x.is
    (one_given_at c.args.p.now env n (form.Rename x.a x.pairs) (nodes.rename (node_tree x.a.value) x.pairs) v x.is (form_tree-Rename x.a x.pairs) g)
    (c.answered-in-Rename.ensures (data_set n.structure v.points) c.rename.ensures)

pub returns-in-Unpivot : goal.returns-in-Unpivot
returns-in-Unpivot c env made g =
    let n = c.args.node.now in
    let s = n.structure in
    let v = c.args.a in
    let x = c.in-Unpivot in
    let a = node_tree x.a.value in
    one_operand (λ d. d) c.args.p.now env n (form.Unpivot x.a x.id x.m) (nodes.unpivot a x.id x.m) a v (λ d. Ok (unpivot_of d)) c.answered-in-Unpivot.result x.is (form_tree-Unpivot x.a x.id x.m) refl
    (one_given_at c.args.p.now env n (form.Unpivot x.a x.id x.m) (nodes.unpivot a x.id x.m) v x.is (form_tree-Unpivot x.a x.id x.m) g)
    (c.answered-in-Unpivot.ensures (data_set s (unpivot_of v)) c.unpivot.ensures)

pub returns-in-Pivot : goal.returns-in-Pivot
returns-in-Pivot c env made g =
    let n = c.args.node.now in
    let s = n.structure in
    let v = c.args.a in
    let x = c.in-Pivot in
    let a = node_tree x.a.value in
    one_operand (λ d. d) c.args.p.now env n (form.Pivot x.a x.id x.m) (nodes.pivot a x.id x.m) a v (λ d. Ok (pivot_of d x.id x.m)) c.answered-in-Pivot.result x.is (form_tree-Pivot x.a x.id x.m) refl
    (one_given_at c.args.p.now env n (form.Pivot x.a x.id x.m) (nodes.pivot a x.id x.m) v x.is (form_tree-Pivot x.a x.id x.m) g)
    (c.answered-in-Pivot.ensures (data_set s (pivot_of v x.id x.m)) c.pivot.ensures)

pub aggregate-requires : goal.aggregate-requires
aggregate-requires c =
    let n = c.args.node.now in
    let v = c.args.a in
    let x = c.in-Aggregate in
    aggregate_fits c.args.p.now c.requires.0 n x.a x.spec v x.is c.requires.1
    (one_given_at c.args.p.now c.requires.0 n (form.Aggregate x.a x.spec) (nodes.aggregate (node_tree x.a.value) (agg_tree x.spec)) v x.is (form_tree-Aggregate x.a x.spec) c.requires.2)

pub returns-in-Aggregate : goal.returns-in-Aggregate
returns-in-Aggregate c env made g =
    let n = c.args.node.now in
    let s = n.structure in
    let v = c.args.a in
    let x = c.in-Aggregate in
    let a = node_tree x.a.value in
    one_operand (λ d. d) c.args.p.now env n (form.Aggregate x.a x.spec) (nodes.aggregate a (agg_tree x.spec)) a v (λ d. aggregate_of c.args.p.now (agg_tree x.spec) d s) c.aggregate.result x.is (form_tree-Aggregate x.a x.spec) refl
    (one_given_at c.args.p.now env n (form.Aggregate x.a x.spec) (nodes.aggregate a (agg_tree x.spec)) v x.is (form_tree-Aggregate x.a x.spec) g)
    c.aggregate.ensures

pub analytic-requires : goal.analytic-requires
analytic-requires c =
    let n = c.args.node.now in
    let v = c.args.a in
    let x = c.in-Analytic in
    analytic_fits c.args.p.now c.requires.0 n x.a x.spec v x.is c.requires.1
    (one_given_at c.args.p.now c.requires.0 n (form.Analytic x.a x.spec) (nodes.analytic_of (node_tree x.a.value) (analytic_tree x.spec)) v x.is (form_tree-Analytic x.a x.spec) c.requires.2)

pub returns-in-Analytic : goal.returns-in-Analytic
returns-in-Analytic c env made g =
    let n = c.args.node.now in
    let s = n.structure in
    let v = c.args.a in
    let x = c.in-Analytic in
    let a = node_tree x.a.value in
    one_operand (λ d. d) c.args.p.now env n (form.Analytic x.a x.spec) (nodes.analytic_of a (analytic_tree x.spec)) a v (λ d. analytic_of c.args.p.now (analytic_tree x.spec) d s) c.analytic.result x.is (form_tree-Analytic x.a x.spec) refl
    (one_given_at c.args.p.now env n (form.Analytic x.a x.spec) (nodes.analytic_of a (analytic_tree x.spec)) v x.is (form_tree-Analytic x.a x.spec) g)
    c.analytic.ensures

pub timed-requires : goal.timed-requires
timed-requires c =
    let n = c.args.node.now in
    let v = c.args.a in
    let x = c.in-Time in
    time_fits c.args.p.now c.requires.0 n x.a x.op v x.is c.requires.1
    (one_given_at c.args.p.now c.requires.0 n (form.Time x.a x.op) (nodes.time (node_tree x.a.value) x.op) v x.is (form_tree-Time x.a x.op) c.requires.2)

pub returns-in-Time : goal.returns-in-Time
returns-in-Time c env made g =
    let n = c.args.node.now in
    let s = n.structure in
    let v = c.args.a in
    let x = c.in-Time in
    let a = node_tree x.a.value in
    one_operand (λ d. d) c.args.p.now env n (form.Time x.a x.op) (nodes.time a x.op) a v (λ d. timed_of c.args.p.now x.op d s) c.timed.result x.is (form_tree-Time x.a x.op) refl
    (one_given_at c.args.p.now env n (form.Time x.a x.op) (nodes.time a x.op) v x.is (form_tree-Time x.a x.op) g)
    c.timed.ensures

pub check_datapoint-requires : goal.check_datapoint-requires
check_datapoint-requires c =
    let n = c.args.node.now in
    let v = c.args.a in
    let x = c.in-CheckDatapoint in
    let a = node_tree x.a.value in
    let tree = nodes.check_datapoint a (point_rules_tree x.rules) x.out in
    one_fits (IsPointChecked c.args.p.now x.out (point_rules_tree x.rules).rules) c.args.p.now c.requires.0 n (form.CheckDatapoint x.a x.rules x.out) tree a v x.is (form_tree-CheckDatapoint x.a x.rules x.out) (λ m. m.1) c.requires.1
    (one_given_at c.args.p.now c.requires.0 n (form.CheckDatapoint x.a x.rules x.out) tree v x.is (form_tree-CheckDatapoint x.a x.rules x.out) c.requires.2)

pub returns-in-CheckDatapoint : goal.returns-in-CheckDatapoint
returns-in-CheckDatapoint c env made g =
    let n = c.args.node.now in
    let v = c.args.a in
    let x = c.in-CheckDatapoint in
    let a = node_tree x.a.value in
    let tree = nodes.check_datapoint a (point_rules_tree x.rules) x.out in
    one_operand (λ d. d) c.args.p.now env n (form.CheckDatapoint x.a x.rules x.out) tree a v (λ d. datapoint_of c.args.p.now x.out (point_rules_tree x.rules).rules d) c.check_datapoint.result x.is (form_tree-CheckDatapoint x.a x.rules x.out) refl
    (one_given_at c.args.p.now env n (form.CheckDatapoint x.a x.rules x.out) tree v x.is (form_tree-CheckDatapoint x.a x.rules x.out) g)
    c.check_datapoint.ensures

pub check_hierarchy-requires : goal.check_hierarchy-requires
check_hierarchy-requires c =
    let n = c.args.node.now in
    let v = c.args.a in
    let x = c.in-CheckHierarchy in
    let a = node_tree x.a.value in
    let tree = nodes.check_hierarchy a x.rules x.mode x.out in
    one_fits (λ s. IsHierarchyChecked x.out (ruled_by x.rules s) x.rules.rules s) c.args.p.now c.requires.0 n (form.CheckHierarchy x.a x.rules x.mode x.out) tree a v x.is (form_tree-CheckHierarchy x.a x.rules x.mode x.out) (λ m. m.1) c.requires.1
    (one_given_at c.args.p.now c.requires.0 n (form.CheckHierarchy x.a x.rules x.mode x.out) tree v x.is (form_tree-CheckHierarchy x.a x.rules x.mode x.out) c.requires.2)

pub returns-in-CheckHierarchy : goal.returns-in-CheckHierarchy
returns-in-CheckHierarchy c env made g =
    let p = c.args.p.now in
    let n = c.args.node.now in
    let v = c.args.a in
    let x = c.in-CheckHierarchy in
    let a = node_tree x.a.value in
    let tree = nodes.check_hierarchy a x.rules x.mode x.out in
    let given : Gives p env a v = one_given_at p env n (form.CheckHierarchy x.a x.rules x.mode x.out) tree v x.is (form_tree-CheckHierarchy x.a x.rules x.mode x.out) g in
    one_operand (λ d. d) p env n (form.CheckHierarchy x.a x.rules x.mode x.out) tree a v (λ d. check_hierarchy_of p x.out (ruled_by x.rules (structure_of a)) x.mode d x.rules.rules) c.check_hierarchy.result x.is (form_tree-CheckHierarchy x.a x.rules x.mode x.out) refl given
    (subst (λ s. Answers c.check_hierarchy.result (with_structure n.structure (check_hierarchy_of p x.out (ruled_by x.rules s) x.mode v x.rules.rules))) given.structure c.check_hierarchy.ensures)

pub hierarchy-requires-clause-made : goal.hierarchy-requires-clause-made
hierarchy-requires-clause-made c =
    let n = c.args.node.now in
    let v = c.args.a in
    let x = c.in-Hierarchy in
    let a = node_tree x.a.value in
    let tree = nodes.hierarchy a x.rules x.mode x.input x.out in
    one_fits (λ s. IsHierarchyMade (ruled_by x.rules s) x.rules.rules s) c.args.p.now c.requires.0 n (form.Hierarchy x.a x.rules x.mode x.input x.out) tree a v x.is (form_tree-Hierarchy x.a x.rules x.mode x.input x.out) (λ m. m.1) c.requires.1
    (one_given_at c.args.p.now c.requires.0 n (form.Hierarchy x.a x.rules x.mode x.input x.out) tree v x.is (form_tree-Hierarchy x.a x.rules x.mode x.input x.out) c.requires.2)

pub hierarchy-requires-clause-order : goal.hierarchy-requires-clause-order
hierarchy-requires-clause-order c =
    let n = c.args.node.now in
    let v = c.args.a in
    let x = c.in-Hierarchy in
    let a = node_tree x.a.value in
    let tree = nodes.hierarchy a x.rules x.mode x.input x.out in
    one_fits (λ s t. HasOrder x.rules.rules x.rules.order) c.args.p.now c.requires.0 n (form.Hierarchy x.a x.rules x.mode x.input x.out) tree a v x.is (form_tree-Hierarchy x.a x.rules x.mode x.input x.out) (λ m. m.2) c.requires.1
    (one_given_at c.args.p.now c.requires.0 n (form.Hierarchy x.a x.rules x.mode x.input x.out) tree v x.is (form_tree-Hierarchy x.a x.rules x.mode x.input x.out) c.requires.2)

pub returns-in-Hierarchy : goal.returns-in-Hierarchy
returns-in-Hierarchy c env made g =
    let p = c.args.p.now in
    let n = c.args.node.now in
    let v = c.args.a in
    let x = c.in-Hierarchy in
    let a = node_tree x.a.value in
    let tree = nodes.hierarchy a x.rules x.mode x.input x.out in
    let given : Gives p env a v = one_given_at p env n (form.Hierarchy x.a x.rules x.mode x.input x.out) tree v x.is (form_tree-Hierarchy x.a x.rules x.mode x.input x.out) g in
    one_operand (λ d. d) p env n (form.Hierarchy x.a x.rules x.mode x.input x.out) tree a v (λ d. hierarchy_of p (ruled_by x.rules (structure_of a)) x.mode x.input x.rules.rules d x.out n.structure) c.hierarchy.result x.is (form_tree-Hierarchy x.a x.rules x.mode x.input x.out) refl given
    (subst (λ s. Answers c.hierarchy.result (with_structure n.structure (hierarchy_of p (ruled_by x.rules s) x.mode x.input x.rules.rules v x.out n.structure))) given.structure c.hierarchy.ensures)
