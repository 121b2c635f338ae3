-- The data sets that a script reads, each once, with the results behind them.
use Rattle.std.proofs.Common.{◌≡◌, ℕ, zero, suc, ◌<◌, Bool, true, false, cond, not, ◌||◌, List, [], ◌∷◌, ◌++◌, length, get_or, slice_get, Option, Some, None, refl, sym, ap, ◌∙◌, arith}
use Rattle.std.specs.List.{list_any}
use Rattle.std.specs.Map.{keys_of, lookup}
use Rattle.std.specs.Cmp.Lexicographic.{bytes_decides, nat_list_eq_equiv}
use Rattle.std.proofs.lemmas.Bool.{and_parts, not-true}
use Rattle.std.proofs.lemmas.List.{map-append}
use Rattle.vtl_lists.specs.Apart.{all_apart}
use Rattle.vtl_text.proofs.Apart.{apart_push}
use Rattle.vtl_tree.specs.Structure.{same_name}
use Rattle.vtl_tree.specs.Structures.{Named, has_name}
use Rattle.vtl_tree.specs.Trees.{NodeTree, structure_of}
use Rattle.vtl_tree.specs.declared.structure.Structure.{Structure}
use Rattle.vtl_check.specs.Names.{names_of}
use Rattle.vtl_check.specs.Transformations.{Transformation}
use Rattle.vtl_check.specs.Uses.{read_behind, reads, results_behind, with_declared, with_new}

-- ---- look-ups in lists of named values
module _ {X : Type 0} where
  pub found_in_front : (name : List ℕ) (es more : List (List ℕ × X)) (x : X) → lookup (same_name name) es ≡ Some x → lookup (same_name name) (es ++ more) ≡ Some x
  found_in_front name [] more x e = cc
  found_in_front name (y ∷ ys) more x e = go (same_name name y.0) (found_in_front name ys more x) e
    where
      go : (b : Bool) → (lookup (same_name name) ys ≡ Some x → lookup (same_name name) (ys ++ more) ≡ Some x) → cond b (Some y.1) (lookup (same_name name) ys) ≡ Some x → cond b (Some y.1) (lookup (same_name name) (ys ++ more)) ≡ Some x
      go true ih q = q
      go false ih q = ih q

  pub found_behind : (name : List ℕ) (es more : List (List ℕ × X)) → lookup (same_name name) es ≡ None → lookup (same_name name) (es ++ more) ≡ lookup (same_name name) more
  found_behind name [] more e = refl
  found_behind name (y ∷ ys) more e = go (same_name name y.0) (found_behind name ys more) e
    where
      go : (b : Bool) → (lookup (same_name name) ys ≡ None → lookup (same_name name) (ys ++ more) ≡ lookup (same_name name) more) → cond b (Some y.1) (lookup (same_name name) ys) ≡ None → cond b (Some y.1) (lookup (same_name name) (ys ++ more)) ≡ lookup (same_name name) more
      go true ih q = cc
      go false ih q = ih q

-- ---- each name once
one_apart : (known : Named) (name : List ℕ) (s : Structure) → all_apart same_name (keys_of known) ≡ true → all_apart same_name (keys_of (with_new known name s)) ≡ true
one_apart known name s h = go (has_name name known) refl
  where
    go : (b : Bool) → has_name name known ≡ b → all_apart same_name (keys_of (cond b known (known ++ (name, s) ∷ []))) ≡ true
    go true e = h
    go false e = ap (all_apart same_name) (map-append (λ (x : List ℕ × Structure). x.0) known ((name, s) ∷ [])) ∙ apart_push (keys_of known) name h e

pub read_apart : (declared known : Named) (names : List (List ℕ)) → all_apart same_name (keys_of known) ≡ true → all_apart same_name (keys_of (read_behind declared known names)) ≡ true
read_apart declared known [] h = h
read_apart declared known (name ∷ names) h =
    read_apart declared (with_declared known name (lookup (same_name name) declared)) names (go (lookup (same_name name) declared))
  where
    go : (o : Option Structure) → all_apart same_name (keys_of (with_declared known name o)) ≡ true
    go None = h
    go (Some s) = one_apart known name s h

pub reads_apart : (declared : Named) (ns : List NodeTree) → all_apart same_name (keys_of (reads declared ns)) ≡ true
reads_apart declared ns = read_apart declared [] (names_of ns) refl

-- ---- the entry at a place
-- a name among others that are all apart from one
name_apart : (key : List ℕ) (ks : List (List ℕ)) (i : ℕ) (name : List ℕ) → list_any (same_name key) ks ≡ false → i < length ks → name ≡ get_or ks i name → same_name key name ≡ false
name_apart key [] i name q h e = absurd (omega arith)
name_apart key (k ∷ ks) zero name q h e = at (same_name key k) q (ap (same_name key) e)
  where
    at : (b : Bool) → (b || list_any (same_name key) ks) ≡ false → same_name key name ≡ b → same_name key name ≡ false
    at true q s = cc
    at false q s = s
name_apart key (k ∷ ks) (suc i) name q h e = at (same_name key k) (λ r. name_apart key ks i name r (omega (arith, h)) e) q
  where
    at : (b : Bool) → (list_any (same_name key) ks ≡ false → same_name key name ≡ false) → (b || list_any (same_name key) ks) ≡ false → same_name key name ≡ false
    at true ih q = cc
    at false ih q = ih q

-- an entry among others
pub record IsEntryAt (es : Named) (i : ℕ) (name : List ℕ) : Type 0 where
  pub structure : Structure
  pub entry : slice_get es i ≡ Some (name, structure)
  pub found : lookup (same_name name) es ≡ Some structure

pub entry_at : (es : Named) (i : ℕ) (name : List ℕ) → all_apart same_name (keys_of es) ≡ true → i < length (keys_of es) → name ≡ get_or (keys_of es) i name → IsEntryAt es i name
entry_at [] i name apart h e = absurd (omega arith)
entry_at (x ∷ es) zero name apart h e =
    record { structure = x.1; entry = ap (λ n. Some (n, x.1)) (sym e); found = ap (λ b. cond b (Some x.1) (lookup (same_name name) es)) ((bytes_decides name x.0).1 e) }
entry_at (x ∷ es) (suc i) name apart h e =
    let parts = and_parts (not (list_any (same_name x.0) (keys_of es))) (all_apart same_name (keys_of es)) apart in
    let it = entry_at es i name parts.1 (omega (arith, h)) e in
    record {
      structure = it.structure;
      entry = it.entry;
      found = ap (λ b. cond b (Some x.1) (lookup (same_name name) es)) (nat_list_eq_equiv.symm name x.0 ∙ name_apart x.0 (keys_of es) i name (not-true (list_any (same_name x.0) (keys_of es)) parts.0) (omega (arith, h)) e) ∙ it.found;
    }

-- ---- results
-- they stand behind what is read
pub still_found : (name : List ℕ) (s : Structure) (known : Named) (ts : List Transformation) (ns : List NodeTree) → lookup (same_name name) known ≡ Some s → lookup (same_name name) (results_behind known ts ns) ≡ Some s
still_found name s known [] ns e = e
still_found name s known (t ∷ ts) [] e = e
still_found name s known (t ∷ ts) (m ∷ ns) e = still_found name s (with_new known t.name (structure_of m)) ts ns (go (has_name t.name known))
  where
    go : (b : Bool) → lookup (same_name name) (cond b known (known ++ (t.name, structure_of m) ∷ [])) ≡ Some s
    go true = e
    go false = found_in_front name known ((t.name, structure_of m) ∷ []) s e
