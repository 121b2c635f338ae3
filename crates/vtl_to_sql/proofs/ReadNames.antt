-- The data sets that a script reads, by their names.
use Rattle.std.proofs.Common.{◌≡◌, ℕ, ◌+◌, ◌<◌, List, [], ◌∷◌, ◌++◌, map, length, take, get_or, slice_get, Some, sym, ap, subst, ◌∙◌, append_assoc}
use Rattle.std.specs.Map.{keys_of, lookup}
use Rattle.std.proofs.lemmas.List.{map-append, take_more}
use Rattle.std.proofs.lemmas.Option.{get_or_from_slice_get, slice_get_within}
use Rattle.vtl_tree.specs.Structure.{same_name}
use Rattle.vtl_tree.specs.Structures.{Named}
use Rattle.vtl_tree.specs.declared.structure.Structure.{Structure}
use Rattle.vtl_check.specs.Checked.{TypedScript, known_of, nodes_of, tree_of}
use Rattle.vtl_backend.specs.Inputs.{inputs_of}
use Rattle.vtl_check.specs.Transformations.{transformations}
use Rattle.vtl_check.specs.Uses.{reads}
use Rattle.vtl_check.proofs.DataSetsRead.{IsEntryAt, entry_at, reads_apart, still_found}
use Rattle.sql_tree.specs.Trees.{StatementTree}
use Rattle.vtl_to_sql.specs.Reads.{IsRead}
use Rattle.vtl_to_sql.specs.Scripts.{input_for}

-- ---- each name is read once

-- ---- its structure is the one that is looked up

-- ---- the turns of the loop over the names

at_turn : (t : TypedScript) (items : List (List ℕ)) (i : ℕ) (name : List ℕ) → items ≡ keys_of (inputs_of t) → i < length items → name ≡ get_or items i name → IsEntryAt (inputs_of t) i name
at_turn t items i name e h is = entry_at (inputs_of t) i name (reads_apart t.declared (nodes_of t)) (subst (λ (l : List (List ℕ)). i < length l) e h) (is ∙ ap (λ l. get_or l i name) e)

found_at : (t : TypedScript) (i : ℕ) (name : List ℕ) (it : IsEntryAt (inputs_of t) i name) → lookup (same_name name) (known_of t) ≡ Some it.structure
found_at t i name it = still_found name it.structure (inputs_of t) (transformations (tree_of t)) (nodes_of t) it.found

pub is_read : (t : TypedScript) (items : List (List ℕ)) (i : ℕ) (name : List ℕ) → items ≡ keys_of (inputs_of t) → i < length items → name ≡ get_or items i name → IsRead t name
is_read t items i name e h is =
    let it = at_turn t items i name e h is in
    record { structure = it.structure; found = found_at t i name it }

one_more : (xs : Named) (i : ℕ) (x : List ℕ × Structure) → slice_get xs i ≡ Some x → take (i + 1) xs ≡ take i xs ++ x ∷ []
one_more xs i x e = take_more xs i x (slice_get_within xs i x e) ∙ ap (λ (y : List ℕ × Structure). take i xs ++ y ∷ []) (get_or_from_slice_get xs i x x e)

pub read_more : (t : TypedScript) (items : List (List ℕ)) (i : ℕ) (name : List ℕ) (done before now : List StatementTree) → items ≡ keys_of (inputs_of t) → i < length items → name ≡ get_or items i name
    → before ≡ done ++ map (input_for t.not_null) (take i (inputs_of t)) → ((s : Structure) → lookup (same_name name) (known_of t) ≡ Some s → now ≡ before ++ input_for t.not_null (name, s) ∷ [])
    → now ≡ done ++ map (input_for t.not_null) (take (i + 1) (inputs_of t))
read_more t items i name done before now e h is so made =
    let it = at_turn t items i name e h is in
    let s = it.structure in
    made s (found_at t i name it)
    ∙ ap (λ l. l ++ input_for t.not_null (name, s) ∷ []) so
    ∙ append_assoc done (map (input_for t.not_null) (take i (inputs_of t))) (input_for t.not_null (name, s) ∷ [])
    ∙ ap (λ l. done ++ l) (sym (map-append (input_for t.not_null) (take i (inputs_of t)) ((name, s) ∷ [])))
    ∙ ap (λ l. done ++ map (input_for t.not_null) l) (sym (one_more (inputs_of t) i (name, s) it.entry))
