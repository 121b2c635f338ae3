-- A typed script can be evaluated from its inputs on.
use Rattle.std.proofs.Common.{◌≡◌, List, [], map, refl, sym, ap, subst, ◌∙◌}
use Rattle.std.specs.Map.{keys_of, lookup}
use Rattle.vtl_lists.proofs.Alls.{all_more}
use Rattle.vtl_decimal.specs.Settings.{Settings}
use Rattle.vtl_rows.specs.Named.{NamedTables}
use Rattle.vtl_syntax.specs.View.{statement_tree}
use Rattle.vtl_syntax.specs.declared.statements.Statement.{Statement}
use Rattle.vtl_tree.specs.NodeView.{node_tree}
use Rattle.vtl_tree.specs.declared.nodes.Node.{Node}
use Rattle.vtl_tree.specs.Environment.{Environment, known_in}
use Rattle.vtl_tree.specs.Structure.{same_name}
use Rattle.vtl_tree.specs.Structures.{Named}
use Rattle.vtl_check.specs.Checked.{IsTyped, TypedScript, nodes_of, tree_of}
use Rattle.vtl_check.specs.Names.{names_of}
use Rattle.vtl_scripts.specs.Made.{AreMadeStatements}
use Rattle.vtl_scripts.specs.Meaning.{meaning}
use Rattle.vtl_backend.specs.Inputs.{environment_of, inputs_of}
use Rattle.vtl_backend.specs.Runs.{script_meaning}
use Rattle.vtl_backend.specs.Statements.{statements_of, with_nodes}
use Rattle.vtl_check.specs.Transformations.{transformations}
use Rattle.check_laws.specs.Scripts.{AreKnownAlike}
use Rattle.vtl_interp.specs.Results.{AreReady}
use Rattle.vtl_interp.proofs.InputsRead.{known_inputs, reads_same}
use Rattle.vtl_interp.proofs.NamesRead.{statements_made_same}
use Rattle.vtl_interp.proofs.Scripts.{names_statements, new_among_fewer, results_new}

known_loaded : (t : TypedScript) (tables : NamedTables) (env : Environment) → env ≡ environment_of t tables → known_in env ≡ inputs_of t
known_loaded t tables env loaded = ap known_in loaded ∙ known_inputs tables (inputs_of t)

pub ready_at_start : (t : TypedScript) (tables : NamedTables) (env : Environment) → IsTyped t → AreMadeStatements t.settings t.declared (statements_of t) → env ≡ environment_of t tables → AreReady t.settings env [] (statements_of t)
ready_at_start t tables env typed made loaded =
    let ss = statements_of t in
    let same : AreKnownAlike t.declared (inputs_of t) (names_of (nodes_of t)) =
    all_more (λ name. lookup (same_name name) (inputs_of t) ≡ lookup (same_name name) t.declared) (λ name. lookup (same_name name) t.declared ≡ lookup (same_name name) (inputs_of t)) (λ name e. sym e) (names_of (nodes_of t)) (reads_same t.declared (nodes_of t)) in
    let read = names_statements (λ name. lookup (same_name name) t.declared ≡ lookup (same_name name) (inputs_of t)) (transformations (tree_of t)) (nodes_of t) same in
    record {
      made = subst (λ (k : Named). AreMadeStatements t.settings k ss) (sym (known_loaded t tables env loaded)) (statements_made_same t.settings ss t.declared (inputs_of t) read made);
      new_names = new_among_fewer [] (keys_of t.declared) ss (λ name h. refl) (results_new t typed);
    }

-- ---- with the parts as they are handed over
module _ (t : TypedScript) (tables : NamedTables) (env : Environment) (p : Settings) (ss : List Statement) (ns : List Node) (settings : p ≡ t.settings) (script : ss ≡ t.script) (nodes : ns ≡ t.nodes) where
  pub ready_to_run : IsTyped t → AreMadeStatements t.settings t.declared (statements_of t) → env ≡ environment_of t tables → AreReady p env [] (with_nodes (transformations (map statement_tree ss)) (map node_tree ns))
  ready_to_run typed made loaded =
      subst (λ (q : Settings). AreReady q env [] (with_nodes (transformations (map statement_tree ss)) (map node_tree ns))) (sym settings)
      (subst (λ (l : List Statement). AreReady t.settings env [] (with_nodes (transformations (map statement_tree l)) (map node_tree ns))) (sym script)
      (subst (λ (l : List Node). AreReady t.settings env [] (with_nodes (transformations (tree_of t)) (map node_tree l))) (sym nodes) (ready_at_start t tables env typed made loaded)))

  pub meant_by_run : env ≡ environment_of t tables → meaning p (with_nodes (transformations (map statement_tree ss)) (map node_tree ns)) env ≡ script_meaning t tables
  meant_by_run loaded =
      ap (λ (q : Settings). meaning q (with_nodes (transformations (map statement_tree ss)) (map node_tree ns)) env) settings
      ∙ ap (λ (l : List Statement). meaning t.settings (with_nodes (transformations (map statement_tree l)) (map node_tree ns)) env) script
      ∙ ap (λ (l : List Node). meaning t.settings (with_nodes (transformations (tree_of t)) (map node_tree l)) env) nodes
      ∙ ap (meaning t.settings (statements_of t)) loaded
