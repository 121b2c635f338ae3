use Rattle.std.proofs.Common.{[], ◌∷◌, Ok, refl}
use Rattle.vtl_tree.specs.Trees as nodes
use Rattle.vtl_tree.specs.NodeView.{node_tree}
use Rattle.vtl_tree.specs.declared.nodes.NodeForm.TheVariants as form
use Rattle.vtl_meaning.specs.Made.{IsCombined, IsExistence}
use Rattle.vtl_meaning.specs.Operators.{pair_of}
use Rattle.vtl_meaning.specs.Sets.{difference_of, existence_of, symmetric_difference_of}
use Rattle.vtl_sets.specs.DataSets.{data_set}
use Rattle.vtl_interp.proofs.NodesEvaluated.{form_tree-ExistsIn, form_tree-Pair, form_tree-SetDiff, form_tree-SymDiff, two_fit, two_given_at, two_operands}
use Rattle.vtl_interp.proofs.applied.made_of_two.Goals as goal

pub returns-in-Pair : goal.returns-in-Pair
returns-in-Pair c env made g =
    let n = c.args.node.now in
    let v = c.args.a.now in
    let w = c.args.b.now in
    let x = c.in-Pair in
    let a = node_tree x.a.value in
    let b = node_tree x.b.value in
    let both = two_given_at c.args.p.now env n (form.Pair x.op x.a x.b) (nodes.pair x.op a b) v w x.is (form_tree-Pair x.op x.a x.b) g in
    two_operands (λ d. d) c.args.p.now env n (form.Pair x.op x.a x.b) (nodes.pair x.op a b) a b v w (λ d e. pair_of c.args.p.now x.op d e n.structure) c.pair_measures.result x.is (form_tree-Pair x.op x.a x.b) refl both.0 both.1 c.pair_measures.ensures

pub setdiff-requires : goal.setdiff-requires
setdiff-requires c =
    let n = c.args.node.now in
    let v = c.args.a.now in
    let w = c.args.b.now in
    let x = c.in-SetDiff in
    let a = node_tree x.a.value in
    let b = node_tree x.b.value in
    let g = two_given_at c.args.p.now c.requires.0 n (form.SetDiff x.a x.b) (nodes.set_diff a b) v w x.is (form_tree-SetDiff x.a x.b) c.requires.2 in
    two_fit (λ d e m. IsCombined d (e ∷ []) m) c.args.p.now c.requires.0 n (form.SetDiff x.a x.b) (nodes.set_diff a b) a b v w x.is (form_tree-SetDiff x.a x.b) (λ m. m.2) c.requires.1 g.0 g.1

pub returns-in-SetDiff : goal.returns-in-SetDiff
returns-in-SetDiff c env made g =
    let n = c.args.node.now in
    let v = c.args.a.now in
    let w = c.args.b.now in
    let x = c.in-SetDiff in
    let a = node_tree x.a.value in
    let b = node_tree x.b.value in
    let both = two_given_at c.args.p.now env n (form.SetDiff x.a x.b) (nodes.set_diff a b) v w x.is (form_tree-SetDiff x.a x.b) g in
    two_operands (λ d. d) c.args.p.now env n (form.SetDiff x.a x.b) (nodes.set_diff a b) a b v w (λ d e. Ok (difference_of d e n.structure)) c.answered.result x.is (form_tree-SetDiff x.a x.b) refl both.0 both.1 (c.answered.ensures (data_set n.structure (difference_of v w n.structure)) c.setdiff.ensures)

pub symdiff-requires : goal.symdiff-requires
symdiff-requires c =
    let n = c.args.node.now in
    let v = c.args.a.now in
    let w = c.args.b.now in
    let x = c.in-SymDiff in
    let a = node_tree x.a.value in
    let b = node_tree x.b.value in
    let g = two_given_at c.args.p.now c.requires.0 n (form.SymDiff x.a x.b) (nodes.sym_diff a b) v w x.is (form_tree-SymDiff x.a x.b) c.requires.2 in
    two_fit (λ d e m. IsCombined d (e ∷ []) m) c.args.p.now c.requires.0 n (form.SymDiff x.a x.b) (nodes.sym_diff a b) a b v w x.is (form_tree-SymDiff x.a x.b) (λ m. m.2) c.requires.1 g.0 g.1

pub returns-in-SymDiff : goal.returns-in-SymDiff
returns-in-SymDiff c env made g =
    let n = c.args.node.now in
    let v = c.args.a.now in
    let w = c.args.b.now in
    let x = c.in-SymDiff in
    let a = node_tree x.a.value in
    let b = node_tree x.b.value in
    let both = two_given_at c.args.p.now env n (form.SymDiff x.a x.b) (nodes.sym_diff a b) v w x.is (form_tree-SymDiff x.a x.b) g in
    two_operands (λ d. d) c.args.p.now env n (form.SymDiff x.a x.b) (nodes.sym_diff a b) a b v w (λ d e. Ok (symmetric_difference_of d e n.structure)) c.answered-in-SymDiff.result x.is (form_tree-SymDiff x.a x.b) refl both.0 both.1 (c.answered-in-SymDiff.ensures (data_set n.structure (symmetric_difference_of v w n.structure)) c.symdiff.ensures)

pub exists_in-requires : goal.exists_in-requires
exists_in-requires c =
    let n = c.args.node.now in
    let v = c.args.a.now in
    let w = c.args.b.now in
    let x = c.in-ExistsIn in
    let a = node_tree x.a.value in
    let b = node_tree x.b.value in
    let g = two_given_at c.args.p.now c.requires.0 n (form.ExistsIn x.a x.b x.retain) (nodes.exists_in a b x.retain) v w x.is (form_tree-ExistsIn x.a x.b x.retain) c.requires.2 in
    two_fit IsExistence c.args.p.now c.requires.0 n (form.ExistsIn x.a x.b x.retain) (nodes.exists_in a b x.retain) a b v w x.is (form_tree-ExistsIn x.a x.b x.retain) (λ m. m.2) c.requires.1 g.0 g.1

pub returns-in-ExistsIn : goal.returns-in-ExistsIn
returns-in-ExistsIn c env made g =
    let n = c.args.node.now in
    let v = c.args.a.now in
    let w = c.args.b.now in
    let x = c.in-ExistsIn in
    let a = node_tree x.a.value in
    let b = node_tree x.b.value in
    let both = two_given_at c.args.p.now env n (form.ExistsIn x.a x.b x.retain) (nodes.exists_in a b x.retain) v w x.is (form_tree-ExistsIn x.a x.b x.retain) g in
    two_operands (λ d. d) c.args.p.now env n (form.ExistsIn x.a x.b x.retain) (nodes.exists_in a b x.retain) a b v w (λ d e. Ok (existence_of d e x.retain)) c.answered-in-ExistsIn.result x.is (form_tree-ExistsIn x.a x.b x.retain) refl both.0 both.1 (c.answered-in-ExistsIn.ensures (data_set n.structure (existence_of v w x.retain)) c.exists_in.ensures)
