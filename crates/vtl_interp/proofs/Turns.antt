-- A turn of the loop over the statements.
use Rattle.std.proofs.Common.{◌≡◌, ℕ, ◌+◌, ◌<◌, List, ◌∷◌, drop, get_or, length, map, Result, Err, sym, ap, subst, ◌∙◌, arith}
use Rattle.std.proofs.lemmas.List.{drop_more}
use Rattle.std.specs.Map.{keys_of}
use Rattle.vtl_lists.proofs.Alls.{all_more}
use Rattle.vtl_decimal.specs.Settings.{Settings}
use Rattle.vtl_decimal.specs.declared.number.Fault.TheVariants.{DivZero, Range}
use Rattle.vtl_decimal.specs.declared.number.Fault.{Fault}
use Rattle.vtl_rows.specs.Named.{NamedTables}
use Rattle.vtl_syntax.specs.declared.expressions.Expr.{Expr}
use Rattle.vtl_syntax.specs.declared.statements.Statement.{Statement}
use Rattle.vtl_syntax.specs.declared.word_groups.AssignKind.{AssignKind}
use Rattle.vtl_tree.specs.Environment.{Environment, data_of}
use Rattle.vtl_tree.specs.NodeView.{node_tree}
use Rattle.vtl_tree.specs.declared.nodes.Node.{Node}
use Rattle.vtl_scripts.specs.Meaning as meant
use Rattle.vtl_scripts.specs.Meaning.{Outputs, meaning}
use Rattle.vtl_backend.specs.Statements.{with_nodes}
use Rattle.vtl_check.specs.Transformations.{Transformation}
use Rattle.vtl_scalar.specs.declared.run_error.RunErr.{RunErr}
use Rattle.vtl_scalar.specs.declared.run_error.RunErr.TheVariants as run
use Rattle.vtl_interp.specs.Reads.{AreRead, IsReadFrom, LastPlaces}
use Rattle.vtl_interp.specs.Results.{Adds, AreReady, FaultIs, IsAdded, Remain, result_named}
use Rattle.vtl_interp.specs.declared.held.Held.{Held}
use Rattle.vtl_check.proofs.LeftLemmas.{assigned_at, left}
use Rattle.vtl_interp.proofs.NamesRead.{names_read}
use Rattle.vtl_interp.proofs.PlacesRead.{all_read}
use Rattle.vtl_interp.proofs.Scripts.{names_statements}
use Rattle.vtl_interp.proofs.Steps.{IsStep, meaning_step, meaning_stops, ready_step}

-- the transformations among the statements from a place on, with the nodes from another place on
abbrev pub left_from : List Statement → List Node → (i j : ℕ) → List meant.Statement
left_from ss ns i j = with_nodes (left ss i) (map node_tree (drop j ns))

-- a definition is passed over
pub passed_ready : (p : Settings) (ss : List Statement) (ns : List Node) (i j : ℕ) (env : Environment) (names : List (List ℕ)) → left ss i ≡ left ss (i + 1) → AreReady p env names (left_from ss ns i j) → AreReady p env names (left_from ss ns (i + 1) j)
passed_ready p ss ns i j env names e h = subst (λ (l : List Transformation). AreReady p env names (with_nodes l (map node_tree (drop j ns)))) e h

pub passed_meant : (p : Settings) (ss : List Statement) (ns : List Node) (i j : ℕ) (env : Environment) (tables : NamedTables) (all : Result Outputs (Fault × List ℕ)) → left ss i ≡ left ss (i + 1)
    → Remain all (meaning p (left_from ss ns i j) env) tables → Remain all (meaning p (left_from ss ns (i + 1) j) env) tables
passed_meant p ss ns i j env tables all e h = subst (λ (l : List Transformation). Remain all (meaning p (with_nodes l (map node_tree (drop j ns))) env) tables) e h

module _ (p : Settings) (ss : List Statement) (ns : List Node) (i j : ℕ) (name : List ℕ) (kind : AssignKind) (value : Expr) (n : Node)
    (here : left ss i ≡ assigned_at i name kind value ∷ left ss (i + 1)) (many : j + length (left ss i) ≡ length ns) (n_is : n ≡ get_or ns j n) where
  pub within : j < length ns
  within = omega (arith, ap length here, many)

  pub still_many : j + 1 + length (left ss (i + 1)) ≡ length ns
  still_many = omega (arith, ap length here, many)

  nodes : drop j ns ≡ n ∷ drop (j + 1) ns
  nodes = drop_more ns j n within ∙ ap (λ (x : Node). x ∷ drop (j + 1) ns) (sym n_is)

  pub at_turn : left_from ss ns i j ≡ result_named name kind (node_tree n) ∷ left_from ss ns (i + 1) (j + 1)
  at_turn = ap (λ (l : List Transformation). with_nodes l (map node_tree (drop j ns))) here ∙ ap (λ (l : List Node). with_nodes (assigned_at i name kind value ∷ left ss (i + 1)) (map node_tree l)) nodes

  pub ready_now : (env : Environment) (names : List (List ℕ)) → AreReady p env names (left_from ss ns i j) → AreReady p env names (result_named name kind (node_tree n) ∷ left_from ss ns (i + 1) (j + 1))
  ready_now env names ready = subst (AreReady p env names) at_turn ready

  -- the first fault is the one that is told
  pub fault_told : (before now : Held) (all : Result Outputs (Fault × List ℕ)) (e : RunErr) → Adds p before now (result_named name kind (node_tree n)) (Err e)
      → Remain all (meaning p (left_from ss ns i j) before.known.entries) before.outputs → FaultIs all e
  fault_told before now all e h r = go e h (subst (λ (l : List meant.Statement). Remain all (meaning p l before.known.entries) before.outputs) at_turn r)
    where
      go : (e : RunErr) → Adds p before now (result_named name kind (node_tree n)) (Err e) → Remain all (meaning p (result_named name kind (node_tree n) ∷ left_from ss ns (i + 1) (j + 1)) before.known.entries) before.outputs → FaultIs all e
      go (run.DivZero told) h r = meaning_stops p before.known.entries before.outputs (result_named name kind (node_tree n)) (left_from ss ns (i + 1) (j + 1)) all DivZero h.1 r ∙ ap (λ (m : List ℕ). Err (DivZero, m)) (sym h.0)
      go (run.Range told) h r = meaning_stops p before.known.entries before.outputs (result_named name kind (node_tree n)) (left_from ss ns (i + 1) (j + 1)) all Range h.1 r ∙ ap (λ (m : List ℕ). Err (Range, m)) (sym h.0)
      go run.OutOfMemory h r = tt

  pub still_reads : (last : LastPlaces) → AreRead last j (map node_tree (drop j ns)) → AreRead last (j + 1) (map node_tree (drop (j + 1) ns))
  still_reads last h = (subst (λ (l : List Node). AreRead last j (map node_tree l)) nodes h).1

  -- the statement adds its data set, and then those that no statement behind it reads are let go
  module _ (last : LastPlaces) (before held now : Environment) (tables more : NamedTables) (added : IsAdded p before held tables more (result_named name kind (node_tree n)))
      (kept : (other : List ℕ) → IsReadFrom (j + 1) last other → data_of other now ≡ data_of other held) (reads : AreRead last j (map node_tree (drop j ns))) where
    pub is_step : IsStep p before now tables more (result_named name kind (node_tree n)) (left_from ss ns (i + 1) (j + 1))
    is_step =
        let d = added.made in
        record {
          made = d;
          gives = added.gives;
          kept = all_more (IsReadFrom (j + 1) last) (λ other. data_of other ((name, d) ∷ before) ≡ data_of other now) (λ other h. sym (kept other h ∙ added.held other)) (names_read (left_from ss ns (i + 1) (j + 1)))
              (names_statements (IsReadFrom (j + 1) last) (left ss (i + 1)) (map node_tree (drop (j + 1) ns)) (all_read last (j + 1) (map node_tree (drop (j + 1) ns)) (still_reads last reads)));
          written = added.written;
        }

    pub still_ready : AreReady p before (keys_of tables) (left_from ss ns i j) → AreReady p now (keys_of more) (left_from ss ns (i + 1) (j + 1))
    still_ready ready = ready_step p before now tables more (result_named name kind (node_tree n)) (left_from ss ns (i + 1) (j + 1)) is_step (ready_now before (keys_of tables) ready)

    pub still_meant : (all : Result Outputs (Fault × List ℕ)) → Remain all (meaning p (left_from ss ns i j) before) tables → Remain all (meaning p (left_from ss ns (i + 1) (j + 1)) now) more
    still_meant all r =
        meaning_step p before now tables more (result_named name kind (node_tree n)) (left_from ss ns (i + 1) (j + 1)) all is_step
        (subst (λ (l : List meant.Statement). Remain all (meaning p l before) tables) at_turn r)
