-- Sessions from one call to the next.
use Rattle.std.proofs.Common.{◌≡◌, ℕ, Bool, true, false, List, [], ◌++◌, map, length, take, drop, Option, None, sym, ap, ◌∙◌, subst, arith, append-nil}
use Rattle.std.specs.List.{AllByRecursion}
use Rattle.std.proofs.lemmas.List.{drop_all, length-map, take_all}
use Rattle.std.specs.Map.{keys_of, set_value}
use Rattle.vtl_lists.specs.Apart.{all_apart}
use Rattle.vtl_rows.specs.Named.{NamedTables}
use Rattle.vtl_rows.specs.Tables.{Listed}
use Rattle.vtl_tree.specs.DataSet.{AreOfProfile}
use Rattle.vtl_tree.specs.Structure.{same_name}
use Rattle.vtl_check.specs.Checked.{TypedScript, tree_of}
use Rattle.vtl_check.specs.Transformations.{transformations}
use Rattle.vtl_backend.specs.Inputs.{AreInRange, AreInputs, environment_of}
use Rattle.vtl_backend.specs.Runs.{ShowMeaning, script_meaning}
use Rattle.vtl_backend.specs.Statements.{statements_of}
use Rattle.rerun_laws.specs.Depends.{is_one}
use Rattle.rerun_laws.specs.Refreshes.{fresh_without, numbers_of}
use Rattle.rerun_laws.specs.Values.{values}
use Rattle.vtl_rerun.specs.Kept.{IsInputOf}
use Rattle.vtl_rerun.specs.Lost.{left_from}
use Rattle.vtl_rerun.specs.Operands.{written_behind}
use Rattle.vtl_rerun.specs.Sessions.{AreHeld, AreParts, IsRunning, IsSession, fresh_in}
use Rattle.vtl_rerun.specs.declared.part.Part.{Part}
use Rattle.vtl_rerun.proofs.Meanings.{values_long}
use Rattle.vtl_rerun.proofs.Names.{results_apart, script_new}
use Rattle.vtl_rerun.proofs.Numbers.{all_fresh, none_fresh, stay_held}
use Rattle.vtl_rerun.proofs.Outputs.{each_named, written_whole}
use Rattle.vtl_rerun.proofs.Replacing.{replaced}
use Rattle.vtl_rerun.proofs.Results.{closed_none, kept_none}
use Rattle.vtl_rerun.proofs.Steps.{each_long, numbers_are, outputs_shown}

pub begun : (t : TypedScript) (parts : List Part) (inputs outputs : NamedTables) → AreParts t parts → AreInputs t inputs → AreInRange t inputs → IsSession t parts inputs (map (λ x. None) parts) outputs false
begun t parts inputs outputs are tables range =
    let many : length (statements_of t) ≡ length parts = (each_long [] (numbers_of (transformations (tree_of t))) (statements_of t) parts are.each).0 in
    record {
      running = record {
        are_parts = are;
        are_inputs = tables;
        in_range = range;
        are_results = record {
          kept = kept_none (values t.settings (statements_of t) (environment_of t inputs)) parts (values_long t.settings (statements_of t) (environment_of t inputs) ∙ many);
          closed = closed_none [] (statements_of t) parts many;
        };
        many = length-map parts (λ x. None);
      };
      lent = tt;
    }

-- what is not current lends nothing
pub not_current : (t : TypedScript) (parts : List Part) (inputs outputs : NamedTables) (results : List (Option Listed)) → IsRunning t parts inputs results → IsSession t parts inputs results outputs false
not_current t parts inputs outputs results r = record { running = r; lent = tt }

-- where results are kept, and none that was held goes
pub stayed : (t : TypedScript) (parts : List Part) (inputs outputs : NamedTables) (old now : List (Option Listed)) (current : Bool) → IsSession t parts inputs old outputs current → IsRunning t parts inputs now → (AreHeld old → AreHeld now) → IsSession t parts inputs now outputs current
stayed t parts inputs outputs old now true s r more = record { running = r; lent = (more s.lent.0, s.lent.1) }
stayed t parts inputs outputs old now false s r more = record { running = r; lent = tt }

pub refreshed : (t : TypedScript) (parts : List Part) (inputs outputs : NamedTables) (results : List (Option Listed)) → IsRunning t parts inputs results → AreHeld results → outputs ≡ written_behind [] parts results → IsSession t parts inputs results outputs true
refreshed t parts inputs outputs results r held is = record {
  running = r;
  lent = (held, subst (ShowMeaning (script_meaning t inputs)) (sym (is ∙ written_whole parts results apart)) (outputs_shown t parts inputs results r held));
}
  where
    apart : all_apart same_name (map (λ x. x.name) parts) ≡ true
    apart = ap (all_apart same_name) (each_named [] (numbers_of (transformations (tree_of t))) (statements_of t) parts r.are_parts.each) ∙ results_apart (keys_of t.declared) (statements_of t) (script_new t r.are_parts.structures r.are_parts.typed)

pub lent_now : (t : TypedScript) (parts : List Part) (inputs outputs : NamedTables) (results : List (Option Listed)) (current : Bool) → IsSession t parts inputs results outputs current → current ≡ true
    → (fresh_in (numbers_of (transformations (tree_of t))) results ≡ numbers_of (transformations (tree_of t))) × ShowMeaning (script_meaning t inputs) outputs
lent_now t parts inputs outputs results true s e = (all_fresh (numbers_of (transformations (tree_of t))) results (numbers_are t parts inputs results s.running) s.lent.0, s.lent.1)
lent_now t parts inputs outputs results false s e = cc

-- ---- an input that is replaced
-- what a part of a list becomes, where the whole is written back
pub spliced : (n : ℕ) (now items : List (Option Listed)) → length now ≡ length items → n ≡ length items → take n (now ++ drop (length now) items) ≡ now
spliced n now items e f =
    ap (λ l. take n (now ++ l)) (drop_all (length now) items (omega (arith, e))) ∙ ap (take n) (append-nil now) ∙ take_all n now (omega (arith, e, f))

module _ (t u : TypedScript) (parts ps : List Part) (inputs now : NamedTables) (results rs left kept : List (Option Listed)) (name : List ℕ) (table other : Listed)
    (script : t ≡ u) (running : IsRunning t parts inputs results) (input : IsInputOf u name table) (range : AreOfProfile u.settings table.rows) (same : other ≡ table) (put : now ≡ set_value (same_name name) inputs other)
    (same_parts : ps ≡ parts) (same_results : rs ≡ results) (lost : left ≡ left_from 0 name ps rs) (back : kept ≡ left) where
  left_now : kept ≡ left_from 0 name parts results
  left_now = back ∙ lost ∙ ap (λ l. left_from 0 name l rs) same_parts ∙ ap (left_from 0 name parts) same_results

  done : IsRunning t parts (set_value (same_name name) inputs table) (left_from 0 name parts results)
      × (fresh_in (numbers_of (transformations (tree_of t))) (left_from 0 name parts results) ≡ fresh_without name t (fresh_in (numbers_of (transformations (tree_of t))) results))
  done = replaced t parts inputs results name table running (subst (λ x. IsInputOf x name table) (sym script) input) (subst (λ x. AreOfProfile x.settings table.rows) (sym script) range)

  pub put_in : (outputs : NamedTables) → IsSession t parts now kept outputs false
  put_in outputs =
      not_current t parts now outputs kept
      (subst (λ l. IsRunning t parts l kept) (sym (put ∙ ap (set_value (same_name name) inputs) same)) (subst (IsRunning t parts (set_value (same_name name) inputs table)) (sym left_now) done.0))

  pub fresh_put : fresh_in (numbers_of (transformations (tree_of t))) kept ≡ fresh_without name t (fresh_in (numbers_of (transformations (tree_of t))) results)
  fresh_put = ap (fresh_in (numbers_of (transformations (tree_of t)))) left_now ∙ done.1

-- ---- a session that is made
pub begun_with : (t : TypedScript) (parts ps : List Part) (inputs outputs : NamedTables) (rs : List (Option Listed)) → AreParts t parts → AreInputs t inputs → AreInRange t inputs → ps ≡ parts → rs ≡ map (λ x. None) ps → IsSession t parts inputs rs outputs false
begun_with t parts ps inputs outputs rs are tables range same is =
    subst (λ l. IsSession t parts inputs l outputs false) (sym (is ∙ ap (map (λ (x : Part). None)) same)) (begun t parts inputs outputs are tables range)

pub begun_fresh : (ks : List ℕ) (ps : List Part) (rs : List (Option Listed)) → rs ≡ map (λ x. None) ps → fresh_in ks rs ≡ []
begun_fresh ks ps rs is = ap (fresh_in ks) is ∙ none_fresh ks ps

-- ---- a refresh
pub now_fresh : (t : TypedScript) (parts ps qs : List Part) (inputs outputs : NamedTables) (now kept shown : List (Option Listed)) → ps ≡ parts → qs ≡ parts → kept ≡ now → shown ≡ kept → IsRunning t ps inputs now → AreHeld now → outputs ≡ written_behind [] qs shown
    → IsSession t parts inputs kept outputs true
now_fresh t parts ps qs inputs outputs now kept shown same too back seen r held is =
    subst (λ l. IsSession t parts inputs l outputs true) (sym back)
    (refreshed t parts inputs outputs now (subst (λ l. IsRunning t l inputs now) same r) held (is ∙ ap (λ l. written_behind [] l shown) too ∙ ap (written_behind [] parts) (seen ∙ back)))

-- where memory runs out behind it
pub out_of_memory_behind : (ks : List ℕ) (old rs now kept : List (Option Listed)) → rs ≡ old → length rs ≡ length now → kept ≡ now → AreHeld now → AllByRecursion (λ i. is_one i (fresh_in ks kept) ≡ true) (fresh_in ks old)
out_of_memory_behind ks old rs now kept same long back held =
    subst (λ l. AllByRecursion (λ i. is_one i (fresh_in ks l) ≡ true) (fresh_in ks old)) (sym back) (stay_held ks old now (ap length (sym same) ∙ long) held)
