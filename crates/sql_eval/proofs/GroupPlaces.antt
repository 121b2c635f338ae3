-- The columns of GROUP BY, found by name.
use Rattle.std.proofs.Common.{◌≡◌, ◌∙◌, ℕ, suc, ◌+◌, ◌<◌, Bool, true, false, cond, not, ◌&&◌, List, [], ◌∷◌, drop, get_or, length, Option, Some, refl, ap, sym, arith}
use Rattle.std.specs.List.{position_or_len}
use Rattle.std.specs.Map.{lookup}
use Rattle.std.specs.Prelude.{option_and_then, unwrap_or}
use Rattle.std.specs.Cmp.Lexicographic.{bytes_decides, nat_list_eq_equiv}
use Rattle.std.proofs.lemmas.List.{drop_more}
use Rattle.vtl_text.specs.Texts.{same_text}
use Rattle.sql_tree.specs.Trees.{Text}
use Rattle.sql_tree.specs.declared.parts.Column.{Column}
use Rattle.sql_check_parts.specs.Scopes.{Named, Sources, found}
use Rattle.sql_meaning.specs.Values.{same_column}
use Rattle.sql_eval.specs.GroupPlaces.{place_from}

-- ---- one column is put

module _ (old mid now : Sources ℕ) (names grown : Named ℕ) (column : Column) (place : ℕ)
    (taken : (name : Text) → lookup (same_text name) names ≡ option_and_then (λ named. lookup (same_text name) named) (lookup (same_text column.source) old))
    (others : (other : Text) → same_text column.source other ≡ false → lookup (same_text other) mid ≡ lookup (same_text other) old)
    (named : (name : Text) → lookup (same_text name) grown ≡ cond (same_text column.name name) (Some place) (lookup (same_text name) names))
    (sourced : (source : Text) → lookup (same_text source) now ≡ cond (same_text column.source source) (Some grown) (lookup (same_text source) mid)) where
  pub place_put : (x : Column) → found now x ≡ cond (same_column x column) (Some place) (found old x)
  place_put x = ap (option_and_then (λ l. lookup (same_text x.name) l)) (sourced x.source) ∙ go (same_text column.source x.source) refl
    where
      source_same : same_text column.source x.source ≡ same_text x.source column.source
      source_same = nat_list_eq_equiv.symm column.source x.source

      pick : (b : Bool) → cond b (Some place) (found old x) ≡ cond (true && b) (Some place) (found old x)
      pick true = refl
      pick false = refl

      go : (b : Bool) → same_text column.source x.source ≡ b → option_and_then (λ l. lookup (same_text x.name) l) (cond b (Some grown) (lookup (same_text x.source) mid)) ≡ cond (same_column x column) (Some place) (found old x)
      go true e =
          named x.name
          ∙ ap (λ o. cond (same_text column.name x.name) (Some place) o) (taken x.name ∙ ap (λ (n : Text). option_and_then (λ l. lookup (same_text x.name) l) (lookup (same_text n) old)) ((bytes_decides column.source x.source).0 e))
          ∙ ap (λ b. cond b (Some place) (found old x)) (nat_list_eq_equiv.symm column.name x.name)
          ∙ pick (same_text x.name column.name)
          ∙ ap (λ b. cond (b && same_text x.name column.name) (Some place) (found old x)) (sym (sym source_same ∙ e))
      go false e =
          ap (option_and_then (λ l. lookup (same_text x.name) l)) (others x.source e)
          ∙ ap (λ b. cond (b && same_text x.name column.name) (Some place) (found old x)) (sym (sym source_same ∙ e))

-- ---- one column after the other, from the last one on

pub place_next : (x : Column) (columns : List Column) (i : ℕ) (c : Column) (o now : Option ℕ) → i < length columns → c ≡ get_or columns i c → o ≡ place_from (same_column x) (i + 1) (drop (i + 1) columns) → now ≡ cond (same_column x c) (Some i) o → now ≡ place_from (same_column x) i (drop i columns)
place_next x columns i c o now h is before put =
    let e : i + 1 ≡ suc i = omega arith in
    put ∙ ap (λ p. cond (same_column x c) (Some i) p) (before ∙ ap (λ n. place_from (same_column x) n (drop (i + 1) columns)) e)
    ∙ sym (ap (place_from (same_column x) i) (drop_more columns i c h ∙ ap (λ y. y ∷ drop (i + 1) columns) (sym is)))

-- ---- the place

place_is : (p : Column → Bool) (i : ℕ) (cs : List Column) → unwrap_or (place_from p i cs) (i + length cs) ≡ i + position_or_len p cs
place_is p i [] = refl
place_is p i (c ∷ cs) = go (p c) (place_is p (suc i) cs)
  where
    go : (b : Bool) → unwrap_or (place_from p (suc i) cs) (suc i + length cs) ≡ suc i + position_or_len p cs → unwrap_or (cond b (Some i) (place_from p (suc i) cs)) (i + suc (length cs)) ≡ i + cond (not b) (1 + position_or_len p cs) 0
    go true ih = omega arith
    go false ih =
        let e : i + suc (length cs) ≡ suc i + length cs = omega arith in
        let f : suc i + position_or_len p cs ≡ i + (1 + position_or_len p cs) = omega arith in
        ap (unwrap_or (place_from p (suc i) cs)) e ∙ ih ∙ f

pub place_found : (x : Column) (columns : List Column) (o : Option ℕ) → o ≡ place_from (same_column x) 0 columns → unwrap_or o (length columns) ≡ position_or_len (same_column x) columns
place_found x columns o e =
    let n : length columns ≡ 0 + length columns = omega arith in
    let m : 0 + position_or_len (same_column x) columns ≡ position_or_len (same_column x) columns = omega arith in
    (λ i. unwrap_or (e i) (n i)) ∙ place_is (same_column x) 0 columns ∙ m
