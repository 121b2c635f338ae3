-- The inputs of a script, one after the other.
use Rattle.std.proofs.Common.{◌≡◌, ℕ, ◌+◌, ◌<◌, Bool, true, false, List, [], ◌∷◌, ◌++◌, map, length, take, get_or, slice_get, Some, refl, sym, ap, subst, ◌∙◌}
use Rattle.std.specs.List.{list_any}
use Rattle.std.specs.Map.{keys_of, lookup}
use Rattle.std.proofs.lemmas.List.{map-append, take-map, take_more}
use Rattle.std.proofs.lemmas.Option.{get_or_from_slice_get, slice_get_within}
use Rattle.vtl_lists.specs.Apart.{all_apart}
use Rattle.vtl_lists.proofs.Alls.{all_at}
use Rattle.vtl_cell.specs.Row.{Row}
use Rattle.vtl_rows.specs.Named.{NamedTables, table_of}
use Rattle.vtl_tree.specs.Environment.{DataSet, Environment, known_in}
use Rattle.vtl_tree.specs.Structure.{same_name}
use Rattle.vtl_tree.specs.Structures.{Named}
use Rattle.vtl_tree.specs.declared.structure.Structure.{Structure}
use Rattle.vtl_text.proofs.Apart.{repeated}
use Rattle.vtl_check.specs.Checked.{TypedScript, known_of, nodes_of, tree_of}
use Rattle.vtl_check.specs.Transformations.{transformations}
use Rattle.vtl_check.proofs.DataSetsRead.{IsEntryAt, entry_at, reads_apart, still_found}
use Rattle.vtl_backend.specs.Inputs.{AreInputs, Holds, input_of, inputs_of, rows_named}
use Rattle.vtl_interp.specs.Loaded.{IsInput}
use Rattle.vtl_interp.proofs.InputsRead.{known_inputs}

-- a name is none of those before it
pub fresh_at : (xs : List (List ℕ)) (i : ℕ) (x : List ℕ) → i < length xs → x ≡ get_or xs i x → all_apart same_name xs ≡ true → list_any (same_name x) (take i xs) ≡ false
fresh_at xs i x h e apart = go (list_any (same_name x) (take i xs)) refl
  where
    go : (b : Bool) → list_any (same_name x) (take i xs) ≡ b → b ≡ false
    go false q = refl
    go true q = sym (repeated xs i x h e q ∙ apart)

pub is_input : (t : TypedScript) (tables : NamedTables) (i : ℕ) (name : List ℕ) → AreInputs t tables → IsEntryAt (inputs_of t) i name → IsInput t tables name
is_input t tables i name are it =
    record {
      structure = it.structure;
      found = still_found name it.structure (inputs_of t) (transformations (tree_of t)) (nodes_of t) it.found;
      holds = all_at (λ e. Holds e.1 (table_of e.0 tables)) (inputs_of t) i (name, it.structure) are it.entry;
    }

-- ---- turns of the loop over the inputs
pub keys_environment : (es : Environment) → keys_of (known_in es) ≡ keys_of es
keys_environment [] = refl
keys_environment (e ∷ es) = ap (λ l. e.0 ∷ l) (keys_environment es)

pub read_at : (t : TypedScript) (items : List (List ℕ)) (i : ℕ) (name : List ℕ) → items ≡ keys_of (inputs_of t) → i < length items → name ≡ get_or items i name → IsEntryAt (inputs_of t) i name
read_at t items i name e h is = entry_at (inputs_of t) i name (reads_apart t.declared (nodes_of t)) (subst (λ (l : List (List ℕ)). i < length l) e h) (is ∙ ap (λ l. get_or l i name) e)

pub fresh_input : (t : TypedScript) (tables : NamedTables) (known : Environment) (items : List (List ℕ)) (i : ℕ) (name : List ℕ) → known ≡ map (input_of tables) (take i (inputs_of t)) → items ≡ keys_of (inputs_of t) → i < length items → name ≡ get_or items i name → list_any (same_name name) (keys_of known) ≡ false
fresh_input t tables known items i name held e h is =
    let keys : keys_of known ≡ take i (keys_of (inputs_of t)) =
    sym (keys_environment known) ∙ ap (λ (l : Environment). keys_of (known_in l)) held ∙ ap keys_of (known_inputs tables (take i (inputs_of t))) ∙ sym (take-map (λ (x : List ℕ × Structure). x.0) i (inputs_of t)) in
    ap (list_any (same_name name)) keys ∙ fresh_at (keys_of (inputs_of t)) i name (subst (λ (l : List (List ℕ)). i < length l) e h) (is ∙ ap (λ l. get_or l i name) e) (reads_apart t.declared (nodes_of t))

one_more : (xs : Named) (i : ℕ) (x : List ℕ × Structure) → slice_get xs i ≡ Some x → take (i + 1) xs ≡ take i xs ++ x ∷ []
one_more xs i x e = take_more xs i x (slice_get_within xs i x e) ∙ ap (λ (y : List ℕ × Structure). take i xs ++ y ∷ []) (get_or_from_slice_get xs i x x e)

pub held_more : (t : TypedScript) (tables : NamedTables) (known now : Environment) (i : ℕ) (name : List ℕ) (d : DataSet) → IsEntryAt (inputs_of t) i name → known ≡ map (input_of tables) (take i (inputs_of t))
    → lookup (same_name name) (known_of t) ≡ Some d.structure → d.points ≡ rows_named name tables → now ≡ known ++ (name, d) ∷ []
    → now ≡ map (input_of tables) (take (i + 1) (inputs_of t))
held_more t tables known now i name d it held found points e =
    let s = it.structure in
    let there : lookup (same_name name) (known_of t) ≡ Some s = still_found name s (inputs_of t) (transformations (tree_of t)) (nodes_of t) it.found in
    let both : Some d.structure ≡ Some s = sym found ∙ there in
    let same : d.structure ≡ s = cc in
    let made : (name, d) ≡ input_of tables (name, s) = ap (λ (u : Structure). (name, record { structure = u; points = d.points })) same ∙ ap (λ (rows : List Row). (name, record { structure = s; points = rows })) points in
    e ∙ ap (λ (l : Environment). l ++ (name, d) ∷ []) held
    ∙ ap (λ (x : List ℕ × DataSet). map (input_of tables) (take i (inputs_of t)) ++ x ∷ []) made
    ∙ sym (map-append (input_of tables) (take i (inputs_of t)) ((name, s) ∷ []))
    ∙ ap (map (input_of tables)) (sym (one_more (inputs_of t) i (name, s) it.entry))
