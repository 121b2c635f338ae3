-- The tables of written results, put one behind the other.
use Rattle.std.proofs.Common.{◌≡◌, ℕ, Bool, true, false, cond, not, ◌||◌, List, [], ◌∷◌, ◌++◌, map, Option, None, Some, refl, sym, ap, ◌∙◌, append_assoc, append-nil}
use Rattle.std.specs.List.{list_any}
use Rattle.std.specs.Map.{keys_of}
use Rattle.std.specs.Cmp.Lexicographic.{bytes_decides}
use Rattle.std.proofs.lemmas.Bool.{and_parts, not-true, or_right}
use Rattle.std.proofs.lemmas.List.{map-append}
use Rattle.std.proofs.lemmas.List.Folds.{list_any-append}
use Rattle.vtl_lists.specs.Apart.{all_apart}
use Rattle.vtl_rows.specs.Named.{NamedTables}
use Rattle.vtl_rows.specs.Tables.{Listed}
use Rattle.vtl_tree.specs.Structure.{same_name}
use Rattle.vtl_scripts.specs.Meaning.{Statement}
use Rattle.vtl_rerun.specs.Operands.{with_table, written_all, written_behind, written_by}
use Rattle.vtl_rerun.specs.Sessions.{AreEach}
use Rattle.vtl_rerun.specs.declared.part.Part.{Part}

-- a part has the name of its statement's result
pub each_named : (names : List (List ℕ)) (ks : List ℕ) (ss : List Statement) (xs : List Part) → AreEach names ks ss xs → map (λ x. x.name) xs ≡ map (λ s. s.result) ss
each_named names [] [] [] each = refl
each_named names [] [] (x ∷ xs) each = absurd each
each_named names [] (s ∷ ss) xs each = absurd each
each_named names (k ∷ ks) [] xs each = absurd each
each_named names (k ∷ ks) (s ∷ ss) [] each = absurd each
each_named names (k ∷ ks) (s ∷ ss) (x ∷ xs) each = ap (λ n. n ∷ map (λ x. x.name) xs) each.0.name ∙ ap (λ l. s.result ∷ l) (each_named (names ++ s.result ∷ []) ks ss xs each.1)

-- none of these names is that of a table
abbrev AreFree : List (List ℕ) → NamedTables → Type 0
AreFree names tables = (q : List ℕ) → list_any (same_name q) names ≡ true → list_any (same_name q) (keys_of tables) ≡ false

free_fewer : (name : List ℕ) (names : List (List ℕ)) (tables : NamedTables) → AreFree (name ∷ names) tables → AreFree names tables
free_fewer name names tables free q h = free q (or_right (same_name q name) (list_any (same_name q) names) h)

free_more : (name : List ℕ) (names : List (List ℕ)) (t : Listed) (tables : NamedTables) → list_any (same_name name) names ≡ false → AreFree (name ∷ names) tables → AreFree names (tables ++ (name, t) ∷ [])
free_more name names t tables apart free q h =
    ap (list_any (same_name q)) (map-append (λ (e : List ℕ × Listed). e.0) tables ((name, t) ∷ [])) ∙ list_any-append (same_name q) (keys_of tables) (name ∷ [])
    ∙ ap (λ b. b || (same_name q name || false)) (free q (or_right (same_name q name) (list_any (same_name q) names) h)) ∙ go (same_name q name) refl
  where
    go : (b : Bool) → same_name q name ≡ b → (same_name q name || false) ≡ false
    go true d = let k : true ≡ false = sym h ∙ ap (λ x. list_any (same_name x) names) ((bytes_decides q name).0 d) ∙ apart in cc
    go false d = ap (λ b. b || false) d

written_step : (tables : NamedTables) (xs : List Part) (rs : List (Option Listed)) → all_apart same_name (map (λ x. x.name) xs) ≡ true → AreFree (map (λ x. x.name) xs) tables → written_behind tables xs rs ≡ tables ++ written_all xs rs
written_step tables [] rs apart free = sym (append-nil tables)
written_step tables (x ∷ xs) [] apart free = sym (append-nil tables)
written_step tables (x ∷ xs) (r ∷ rs) apart free =
    go (λ more f. written_step more xs rs (and_parts (not (list_any (same_name x.name) (map (λ x. x.name) xs))) (all_apart same_name (map (λ x. x.name) xs)) apart).1 f) r x.is_written refl
  where
    other : list_any (same_name x.name) (map (λ x. x.name) xs) ≡ false
    other = not-true (list_any (same_name x.name) (map (λ x. x.name) xs)) (and_parts (not (list_any (same_name x.name) (map (λ x. x.name) xs))) (all_apart same_name (map (λ x. x.name) xs)) apart).0

    none : list_any (same_name x.name) (keys_of tables) ≡ false
    none = free x.name (ap (λ b. b || list_any (same_name x.name) (map (λ x. x.name) xs)) ((bytes_decides x.name x.name).1 refl))

    go : ((more : NamedTables) → AreFree (map (λ x. x.name) xs) more → written_behind more xs rs ≡ more ++ written_all xs rs) → (r : Option Listed) (b : Bool) → x.is_written ≡ b
        → written_behind (cond x.is_written (with_table tables x.name r) tables) xs rs ≡ tables ++ (written_by x r ++ written_all xs rs)
    go ih None true d = ap (λ b. written_behind (cond b tables tables) xs rs) d ∙ ih tables (free_fewer x.name (map (λ x. x.name) xs) tables free)
    go ih None false d = ap (λ b. written_behind (cond b tables tables) xs rs) d ∙ ih tables (free_fewer x.name (map (λ x. x.name) xs) tables free)
    go ih (Some t) false d =
        ap (λ b. written_behind (cond b (with_table tables x.name (Some t)) tables) xs rs) d ∙ ih tables (free_fewer x.name (map (λ x. x.name) xs) tables free)
        ∙ ap (λ b. tables ++ (cond b ((x.name, t) ∷ []) [] ++ written_all xs rs)) (sym d)
    go ih (Some t) true d =
        ap (λ b. written_behind (cond b (with_table tables x.name (Some t)) tables) xs rs) d
        ∙ ap (λ b. written_behind (cond b tables (tables ++ (x.name, t) ∷ [])) xs rs) none
        ∙ ih (tables ++ (x.name, t) ∷ []) (free_more x.name (map (λ x. x.name) xs) t tables other free)
        ∙ append_assoc tables ((x.name, t) ∷ []) (written_all xs rs)
        ∙ ap (λ b. tables ++ (cond b ((x.name, t) ∷ []) [] ++ written_all xs rs)) (sym d)

pub written_whole : (xs : List Part) (rs : List (Option Listed)) → all_apart same_name (map (λ x. x.name) xs) ≡ true → written_behind [] xs rs ≡ written_all xs rs
written_whole xs rs apart = written_step [] xs rs apart (λ q h. refl)
