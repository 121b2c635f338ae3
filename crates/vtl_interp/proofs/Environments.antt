-- Look-ups in environments.
use Rattle.std.proofs.Common.{◌≡◌, ℕ, List, [], ◌∷◌, ◌++◌, Bool, true, false, cond, ◌||◌, Some, refl, ap, ◌∙◌}
use Rattle.std.specs.List.{list_any}
use Rattle.std.specs.Map.{keys_of, lookup}
use Rattle.std.specs.Option.{option_map}
use Rattle.std.specs.Cmp.Lexicographic.{nat_list_eq_equiv}
use Rattle.indexmap.specs.IndexMap.{insert_entry}
use Rattle.vtl_tree.specs.Environment.{Environment, data_of, known_in}
use Rattle.vtl_tree.specs.Structure.{same_name}

-- ---- in environments
pub data_looked : (name : List ℕ) (env : Environment) → data_of name env ≡ lookup (same_name name) env
data_looked name [] = refl
data_looked name (e ∷ es) = ap (λ b. cond b (Some e.1) (data_of name es)) (nat_list_eq_equiv.symm e.0 name) ∙ ap (cond (same_name name e.0) (Some e.1)) (data_looked name es)

pub known_looked : (name : List ℕ) (env : Environment) → lookup (same_name name) (known_in env) ≡ option_map (λ d. d.structure) (lookup (same_name name) env)
known_looked name [] = refl
known_looked name (e ∷ es) = go (same_name name e.0) (known_looked name es)
  where
    go : (b : Bool) → lookup (same_name name) (known_in es) ≡ option_map (λ d. d.structure) (lookup (same_name name) es)
        → cond b (Some e.1.structure) (lookup (same_name name) (known_in es)) ≡ option_map (λ d. d.structure) (cond b (Some e.1) (lookup (same_name name) es))
    go true ih = refl
    go false ih = ih

pub insert_new : {X : Type 0} (es : List (List ℕ × X)) (name : List ℕ) (x : X) → list_any (same_name name) (keys_of es) ≡ false → insert_entry same_name es name x ≡ es ++ (name, x) ∷ []
insert_new [] name x e = refl
insert_new (y ∷ ys) name x e = go (same_name name y.0) (insert_new ys name x) e
  where
    go : (b : Bool) → (list_any (same_name name) (keys_of ys) ≡ false → insert_entry same_name ys name x ≡ ys ++ (name, x) ∷ []) → (b || list_any (same_name name) (keys_of ys)) ≡ false → cond b ((y.0, x) ∷ ys) (y ∷ insert_entry same_name ys name x) ≡ y ∷ (ys ++ (name, x) ∷ [])
    go true ih q = cc
    go false ih q = ap (λ l. y ∷ l) (ih q)
