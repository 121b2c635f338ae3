use Rattle.std.proofs.Common.{rules, ◌≡◌, Err, subst, sym}
use Rattle.vtl_tree.specs.Environment.{DataSet, Environment}
use Rattle.vtl_tree.specs.NodeView.{form_tree, node_tree}
use Rattle.vtl_tree.specs.Trees.{FormTree}
use Rattle.vtl_decimal.specs.Settings.{Settings}
use Rattle.vtl_interp.specs.Evaluated.{GivesTwo}
use Rattle.vtl_interp.specs.Values.{value_view}
use Rattle.vtl_interp.proofs.Evaluates.{stops}
use Rattle.vtl_interp.proofs.applied.apply_to_two.Goals as goal

-- by equal data sets
gives_same : (p : Settings) (env : Environment) (f : FormTree) (a b d e : DataSet) → a ≡ d → b ≡ e → GivesTwo p env f d e → GivesTwo p env f a b
gives_same p env f a b d e is are g = subst (λ (x : DataSet). GivesTwo p env f x b) (sym is) (subst (λ (y : DataSet). GivesTwo p env f d y) (sym are) g)

pub made_of_two-requires : goal.made_of_two-requires
made_of_two-requires c =
    (c.requires.0, c.requires.1, gives_same c.args.p.now c.requires.0 (form_tree c.args.node.now.form) c.data.result.now c.data-2.result.now _ _ c.data.ensures c.data-2.ensures c.requires.2)

pub returns-in_err-made_of_two : goal.returns-in_err-made_of_two
returns-in_err-made_of_two c env made g =
    let p = c.args.p.now in
    let n = node_tree c.args.node.now in
    let passed : c.from_residual.result ≡ Err c.in_err-made_of_two.field-0.0 = search rules in
    rw passed (stops (λ d. d) value_view p env n n c.in_err-made_of_two.field-0.0 (λ f h. h)
    (c.in_err-made_of_two.ensures env made (gives_same p env (form_tree c.args.node.now.form) c.data.result.now c.data-2.result.now _ _ c.data.ensures c.data-2.ensures g)))

pub returns : goal.returns
returns c env made g =
    c.in_ok-made_of_two.ensures env made (gives_same c.args.p.now env (form_tree c.args.node.now.form) c.data.result.now c.data-2.result.now _ _ c.data.ensures c.data-2.ensures g)
