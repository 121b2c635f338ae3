-- Columns by name, found as in a list.
use Rattle.std.proofs.Common.{◌≡◌, ℕ, suc, ◌+◌, ◌<◌, List, [], ◌∷◌, ◌++◌, map, length, get_or, take, Bool, true, false, cond, ◌||◌, Option, Some, None, IsSome, arith, refl, sym, ap, ◌∙◌, subst}
use Rattle.std.specs.List.{list_any}
use Rattle.std.specs.Map.{keys_of}
use Rattle.std.specs.Option.{option_map}
use Rattle.std.proofs.lemmas.List.{map-append, take_more}
use Rattle.vtl_text.specs.Texts.{same_text}
use Rattle.vtl_cell.specs.declared.kind.Kind.{Kind}
use Rattle.vtl_rows.specs.declared.column.Column.{Column}
use Rattle.sql_tree.specs.Trees.{Text}
use Rattle.sql_check_parts.specs.Scopes.{Columns, Named, numbered, value_among}
use Rattle.sql_meaning.specs.Tables.{column_entry}
use Rattle.sql_meaning.proofs.WindowKinds.{same_text-is}
use Rattle.sql_from.specs.Columns.{AreFound}
use Rattle.sql_from.specs.declared.columns.ColumnAt.{ColumnAt}

-- the first of two that there is
abbrev first_of : {V : Type 0} → Option V → Option V → Option V
first_of None b = b
first_of (Some x) b = Some x

value_last : {V : Type 0} (es : Named V) (key : Text) (v : V) (name : Text) → value_among (es ++ (key, v) ∷ []) name ≡ first_of (value_among es name) (cond (same_text name key) (Some v) None)
value_last [] key v name = refl
value_last {V = V} (e ∷ es) key v name = go (same_text name e.0) (value_last es key v name)
  where
    go : (b : Bool) → value_among (es ++ (key, v) ∷ []) name ≡ first_of (value_among es name) (cond (same_text name key) (Some v) None)
        → cond b (Some e.1) (value_among (es ++ (key, v) ∷ []) name) ≡ first_of (cond b (Some e.1) (value_among es name)) (cond (same_text name key) (Some v) None)
    go true ih = refl
    go false ih = ih

mapped_first : {V W : Type 0} (f : V → W) (a : Option V) (b : Bool) (v : V) → option_map f (first_of a (cond b (Some v) None)) ≡ first_of (option_map f a) (cond b (Some (f v)) None)
mapped_first f None true v = refl
mapped_first f None false v = refl
mapped_first f (Some x) b v = refl

pub numbered_last : {V : Type 0} (first : ℕ) (es : Named V) (key : Text) (v : V) → numbered first (es ++ (key, v) ∷ []) ≡ numbered first es ++ (key, first + length es) ∷ []
numbered_last {V = V} first [] key v = let e : first ≡ first + 0 = omega arith in ap (λ (n : ℕ). (key, n) ∷ []) e
numbered_last {V = V} first (e ∷ es) key v =
    let s : suc first + length es ≡ first + suc (length es) = omega arith in
    ap (λ l. (e.0, first) ∷ l) (numbered_last (suc first) es key v ∙ ap (λ (n : ℕ). numbered (suc first) es ++ (key, n) ∷ []) s)

-- ---- one column more
module _ (es : Columns) (named : Named ColumnAt) (key : Text) (kind : Kind) (before : AreFound es named) where
  pub put_found : (n : ℕ) (after : Named ColumnAt) → n ≡ 0 + length es → after ≡ named ++ (key, record { place = n; kind = kind }) ∷ [] → AreFound (es ++ (key, kind) ∷ []) after
  put_found n after e is = subst (AreFound (es ++ (key, kind) ∷ [])) (sym (is ∙ ap (λ (i : ℕ). named ++ (key, at i) ∷ []) e)) found
    where
      at : ℕ → ColumnAt
      at i = record { place = i; kind = kind }

      found : AreFound (es ++ (key, kind) ∷ []) (named ++ (key, at (0 + length es)) ∷ [])
      found = record {
        kinds = λ name. ap (option_map (λ c. c.kind)) (value_last named key (at (0 + length es)) name) ∙ mapped_first (λ c. c.kind) (value_among named name) (same_text name key) (at (0 + length es))
            ∙ ap (λ o. first_of o (cond (same_text name key) (Some kind) None)) (before.kinds name) ∙ sym (value_last es key kind name);
        places = λ name. ap (option_map (λ c. c.place)) (value_last named key (at (0 + length es)) name) ∙ mapped_first (λ c. c.place) (value_among named name) (same_text name key) (at (0 + length es))
            ∙ ap (λ o. first_of o (cond (same_text name key) (Some (0 + length es)) None)) (before.places name) ∙ sym (value_last (numbered 0 es) key (0 + length es) name)
            ∙ ap (λ l. value_among l name) (sym (numbered_last 0 es key kind));
      }

  -- one whose name is there is not found
  pub skip_found : list_any (same_text key) (keys_of named) ≡ true → AreFound (es ++ (key, kind) ∷ []) named
  skip_found there = record {
    kinds = λ name. before.kinds name ∙ sym (value_last es key kind name ∙ passed (value_among es name) kind name (λ s. known es kinds_known name s));
    places = λ name. before.places name ∙ sym (ap (λ l. value_among l name) (numbered_last 0 es key kind) ∙ value_last (numbered 0 es) key (0 + length es) name ∙ passed (value_among (numbered 0 es) name) (0 + length es) name (λ s. known (numbered 0 es) places_known name s));
  }
    where
      some_named : (xs : Named ColumnAt) → list_any (same_text key) (keys_of xs) ≡ true → IsSome (value_among xs key)
      some_named [] e = cc
      some_named (x ∷ xs) e = go (same_text key x.0) e (some_named xs)
        where
          go : (b : Bool) → (b || list_any (same_text key) (keys_of xs)) ≡ true → (list_any (same_text key) (keys_of xs) ≡ true → IsSome (value_among xs key)) → IsSome (cond b (Some x.1) (value_among xs key))
          go true e ih = refl
          go false e ih = ih e

      some_mapped : {W : Type 0} (f : ColumnAt → W) (o : Option ColumnAt) → IsSome o → IsSome (option_map f o)
      some_mapped f None h = cc
      some_mapped f (Some x) h = refl

      kinds_known : IsSome (value_among es key)
      kinds_known = subst IsSome (before.kinds key) (some_mapped (λ c. c.kind) (value_among named key) (some_named named there))

      places_known : IsSome (value_among (numbered 0 es) key)
      places_known = subst IsSome (before.places key) (some_mapped (λ c. c.place) (value_among named key) (some_named named there))

      known : {W : Type 0} (xs : Named W) → IsSome (value_among xs key) → (name : Text) → same_text name key ≡ true → IsSome (value_among xs name)
      known xs h name s = subst (λ k. IsSome (value_among xs k)) (sym (same_text-is name key s)) h

      passed : {W : Type 0} (o : Option W) (v : W) (name : Text) → (same_text name key ≡ true → IsSome o) → first_of o (cond (same_text name key) (Some v) None) ≡ o
      passed {W = W} o v name h = go o (same_text name key) h
        where
          go : (p : Option W) (b : Bool) → (b ≡ true → IsSome p) → first_of p (cond b (Some v) None) ≡ p
          go (Some x) b h = refl
          go None true h = let e = h refl in cc
          go None false h = refl

-- ---- columns in order

pub columns_more : (columns : List Column) (i : ℕ) (x : Column) (named after : Named ColumnAt) → i < length columns → x ≡ get_or columns i x → AreFound (map column_entry (take i columns) ++ (x.name, x.kind) ∷ []) after → AreFound (map column_entry (take (i + 1) columns)) after
columns_more columns i x named after h at found =
    subst (λ es. AreFound es after)
    (sym (ap (map column_entry) (take_more columns i x h ∙ ap (λ y. take i columns ++ y ∷ []) (sym at)) ∙ map-append column_entry (take i columns) (x ∷ [])))
    found
