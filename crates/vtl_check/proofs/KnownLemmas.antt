-- Data sets that are known, as a map by name, and as it is copied.
use Rattle.std.proofs.Common.{◌≡◌, ℕ, ◌+◌, Bool, true, false, cond, ◌||◌, ◌++◌, List, [], ◌∷◌, take, slice_get, Some, is_some, option_map, Result, Ok, Err, OnOk, refl, sym, ap, ◌∙◌}
use Rattle.std.specs.List.{list_any}
use Rattle.std.specs.Map.{keys_of, lookup}
use Rattle.std.proofs.lemmas.List.{take-map, take_more}
use Rattle.std.proofs.lemmas.Option.{get_or_from_slice_get, slice_get-map, slice_get_within}
use Rattle.vtl_lists.specs.Apart.{all_apart}
use Rattle.vtl_tree.specs.Structure.{same_name}
use Rattle.vtl_tree.specs.Structures.{AreStructures, Named, has_name}
use Rattle.vtl_tree.specs.declared.structure.Structure.{Structure}
use Rattle.vtl_text.proofs.Apart.{repeated}

pub has_name-lookup : (name : List ℕ) (xs : Named) → has_name name xs ≡ is_some (lookup (same_name name) xs)
has_name-lookup name [] = refl
has_name-lookup name (e ∷ es) = go (has_name-lookup name es) (same_name name e.0)
  where
    go : has_name name es ≡ is_some (lookup (same_name name) es) → (b : Bool) → (b || has_name name es) ≡ is_some (cond b (Some e.1) (lookup (same_name name) es))
    go ih true = refl
    go ih false = ih

-- the name of an entry is none of those before it
pub new_at : (xs : Named) (i : ℕ) (name : List ℕ) (s : Structure) → AreStructures xs → slice_get xs i ≡ Some (name, s) → has_name name (take i xs) ≡ false
new_at xs i name s are e = go (has_name name (take i xs)) refl
  where
    at : slice_get (keys_of xs) i ≡ Some name
    at = slice_get-map (λ e. e.0) xs i ∙ ap (option_map (λ e. e.0)) e

    before : has_name name (take i xs) ≡ true → false ≡ all_apart same_name (keys_of xs)
    before h = repeated (keys_of xs) i name (slice_get_within (keys_of xs) i name at) (sym (get_or_from_slice_get (keys_of xs) i name name at)) (ap (list_any (same_name name)) (take-map (λ e. e.0) i xs) ∙ h)

    go : (b : Bool) → has_name name (take i xs) ≡ b → b ≡ false
    go false h = refl
    go true h = sym (before h ∙ are.distinct)

-- one more entry
pub one_more : (xs : Named) (i : ℕ) (name : List ℕ) (s : Structure) → slice_get xs i ≡ Some (name, s) → take i xs ++ (name, s) ∷ [] ≡ take (i + 1) xs
one_more xs i name s e =
    sym (take_more xs i (name, s) (slice_get_within xs i (name, s) e) ∙ ap (λ x. take i xs ++ x ∷ []) (get_or_from_slice_get xs i (name, s) (name, s) e))

-- one more name
pub name_more : (xs : Named) (i : ℕ) (name : List ℕ) (s : Structure) → slice_get xs i ≡ Some (name, s) → keys_of (take i xs) ++ name ∷ [] ≡ keys_of (take (i + 1) xs)
name_more xs i name s e =
    let at : slice_get (keys_of xs) i ≡ Some name = slice_get-map (λ e. e.0) xs i ∙ ap (option_map (λ e. e.0)) e in
    ap (λ ns. ns ++ name ∷ []) (sym (take-map (λ e. e.0) i xs))
    ∙ sym (take_more (keys_of xs) i name (slice_get_within (keys_of xs) i name at) ∙ ap (λ x. take i (keys_of xs) ++ x ∷ []) (get_or_from_slice_get (keys_of xs) i name name at))
    ∙ take-map (λ e. e.0) (i + 1) xs

-- what holds of an answer that is no error implies more
pub on_ok : {T E P Q : Type 0} (r : Result T E) → OnOk r P → (P → Q) → OnOk r Q
on_ok (Ok x) p f = f p
on_ok (Err e) p f = tt
