-- Typed scripts and what is held beside their nodes.
use Rattle.std.proofs.Common.{◌≡◌, ℕ, suc, ◌+◌, List, [], ◌∷◌, ◌++◌, length, map, Result, Ok, Err, refl, ap, sym, subst, ◌∙◌, arith, length-append}
use Rattle.std.specs.Map.{keys_of}
use Rattle.std.proofs.lemmas.List.{length-map}
use Rattle.vtl_decimal.specs.Settings.{Settings}
use Rattle.vtl_syntax.specs.Trees as tree
use Rattle.vtl_syntax.specs.Trees.{ScriptTree}
use Rattle.vtl_syntax.specs.View.{statement_tree}
use Rattle.vtl_syntax.specs.Written.{AreWritten}
use Rattle.vtl_syntax.specs.declared.statements.Statement.{Statement}
use Rattle.vtl_tree.specs.NotNull.{NotNull}
use Rattle.vtl_tree.specs.Structures.{Named}
use Rattle.vtl_tree.specs.Trees.{NodeTree}
use Rattle.vtl_tree.specs.NodeView.{node_tree}
use Rattle.vtl_tree.specs.declared.nodes.Node.{Node}
use Rattle.check_faults.specs.Rules.{number_of}
use Rattle.check_faults.specs.declared.rules.Rule.{Rule}
use Rattle.check_rules.specs.Definitions.{datapoint_defined, hierarchical_defined}
use Rattle.vtl_check.specs.Checked.{AreUses, IsTyped, TypedScript, env_over}
use Rattle.vtl_check.specs.Count.{count}
use Rattle.vtl_check.specs.Script.{Standing, assigned, at, defined, script_typed, statements_typed, with_result, with_ruleset}
use Rattle.vtl_check.specs.Transformations.{transformations, transformations_from}
use Rattle.vtl_check.specs.Uses.{outputs_in, reads, results_behind}
use Rattle.vtl_check.specs.declared.uses.Uses.{Uses}

same-ok : {T E : Type 0} (x y : T) (r : Result T E) → r ≡ Ok x → r ≡ Ok y → x ≡ y
same-ok x y r e d = cc

-- what holds behind a statement that breaks no rule
passed : {A B : Type 0} (i : ℕ) (r : Result A Rule) (f : A → Result B (ℕ × ℕ)) (y : B) (P : B → Type 0) → ((x : A) → f x ≡ Ok y → P y) → at i r f ≡ Ok y → P y
passed i (Ok x) f y P h e = h x e
passed i (Err broken) f y P h e = absurd (let wrong : Err (i, number_of broken) ≡ Ok y = e in cc)

-- a typed script has a node for each assignment
nodes-typed : (s : Standing) (i before : ℕ) (done : List NodeTree) (ss : ScriptTree) (ns : List NodeTree)
    → statements_typed s i before done ss ≡ Ok ns → length ns ≡ length done + length (transformations_from i ss)
nodes-typed s i before done [] ns e = sym (ap length (same-ok done ns (Ok done) refl e)) ∙ omega arith
nodes-typed s i before done (tree.assignment name kind value ∷ ss) ns e =
    passed i (assigned s before name value) (λ n. statements_typed (with_result s name n) (suc i) (before + count n) (done ++ n ∷ []) ss) ns
    (λ ns. length ns ≡ length done + suc (length (transformations_from (suc i) ss)))
    (λ n rest. nodes-typed (with_result s name n) (suc i) (before + count n) (done ++ n ∷ []) ss ns rest ∙ omega (arith, length-append done (n ∷ [])))
    e
nodes-typed s i before done (tree.datapoint name variables rules last ∷ ss) ns e =
    passed i (defined s before name (length rules) (datapoint_defined s.settings variables rules)) (λ u. statements_typed (with_ruleset s name (tree.datapoint name variables rules last)) (suc i) (before + length rules) done ss) ns
    (λ ns. length ns ≡ length done + length (transformations_from (suc i) ss))
    (λ u rest. nodes-typed (with_ruleset s name (tree.datapoint name variables rules last)) (suc i) (before + length rules) done ss ns rest)
    e
nodes-typed s i before done (tree.hierarchical name item rules last ∷ ss) ns e =
    passed i (defined s before name (length rules) (hierarchical_defined s.settings rules)) (λ u. statements_typed (with_ruleset s name (tree.hierarchical name item rules last)) (suc i) (before + length rules) done ss) ns
    (λ ns. length ns ≡ length done + length (transformations_from (suc i) ss))
    (λ u rest. nodes-typed (with_ruleset s name (tree.hierarchical name item rules last)) (suc i) (before + length rules) done ss ns rest)
    e

abbrev with_parts : List Statement → Named → NotNull → Settings → List Node → TypedScript
with_parts script declared lists settings nodes = record { script = script; declared = declared; not_null = lists; settings = settings; nodes = nodes }

pub as_many_nodes : (script : List Statement) (declared : Named) (settings : Settings) (nodes : List Node)
    → script_typed (env_over settings declared) (map statement_tree script) ≡ Ok (map node_tree nodes) → length nodes ≡ length (transformations (map statement_tree script))
as_many_nodes script declared settings nodes typed =
    sym (length-map nodes node_tree)
    ∙ nodes-typed (env_over settings declared) 1 0 [] (map statement_tree script) (map node_tree nodes) typed
    ∙ omega arith

-- the same script is written, and has as many transformations
pub written_shared : (script shared : List Statement) → shared ≡ script → AreWritten (map statement_tree script) → AreWritten (map statement_tree shared)
written_shared script shared same h = subst (λ (l : List Statement). AreWritten (map statement_tree l)) (sym same) h

-- the same script, and the uses that were found of it
pub typed_parts : (script shared : List Statement) (structures declared : Named) (lists : NotNull) (settings : Settings) (nodes : List Node) (u : Uses)
    → shared ≡ script → declared ≡ structures
    → script_typed (env_over settings structures) (map statement_tree script) ≡ Ok (map node_tree nodes)
    → u.known ≡ results_behind (reads structures (map node_tree nodes)) (transformations (map statement_tree script)) (map node_tree nodes)
    → u.inputs.items ≡ keys_of (reads structures (map node_tree nodes))
    → u.outputs.items ≡ outputs_in (transformations (map statement_tree script))
    → IsTyped (with_parts shared declared lists settings nodes) × AreUses (with_parts shared declared lists settings nodes) u
typed_parts script shared structures declared lists settings nodes u same_script same_structures typed known inputs outputs =
    let P : List Statement → Named → Type 0 = λ s d. IsTyped (with_parts s d lists settings nodes) × AreUses (with_parts s d lists settings nodes) u in
    let here : P script structures = (typed, record { known_data = known; read_names = inputs; written_names = outputs }) in
    subst (λ s. P s declared) (sym same_script) (subst (P script) (sym same_structures) here)
