use Rattle.std.proofs.Common.{rules, ◌≡◌, Err, subst, sym}
use Rattle.vtl_tree.specs.Environment.{DataSet}
use Rattle.vtl_tree.specs.NodeView.{form_tree, node_tree}
use Rattle.vtl_interp.specs.Evaluated.{GivesOne}
use Rattle.vtl_interp.specs.Values.{value_view}
use Rattle.vtl_interp.proofs.Evaluates.{stops}
use Rattle.vtl_interp.proofs.applied.apply_to_one.Goals as goal

pub made_of_one-requires : goal.made_of_one-requires
made_of_one-requires c =
    (c.requires.0, c.requires.1, subst (λ (d : DataSet). GivesOne c.args.p.now c.requires.0 (form_tree c.args.node.now.form) d) (sym c.in_ok-data.ensures) c.requires.2)

pub returns-in_err-made_of_one : goal.returns-in_err-made_of_one
returns-in_err-made_of_one c env made g =
    let p = c.args.p.now in
    let n = node_tree c.args.node.now in
    let passed : c.from_residual-in_err-made_of_one.result ≡ Err c.in_err-made_of_one.field-0.0 = search rules in
    rw passed (stops (λ d. d) value_view p env n n c.in_err-made_of_one.field-0.0 (λ f h. h)
    (c.in_err-made_of_one.ensures env made (subst (λ (d : DataSet). GivesOne p env (form_tree c.args.node.now.form) d) (sym c.in_ok-data.ensures) g)))

pub returns : goal.returns
returns c env made g =
    c.in_ok-made_of_one.ensures env made (subst (λ (d : DataSet). GivesOne c.args.p.now env (form_tree c.args.node.now.form) d) (sym c.in_ok-data.ensures) g)
