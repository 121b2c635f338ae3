-- The tables of items, one after the other, and the names by which they are found.
use Rattle.std.proofs.Common.{◌≡◌, ◌<◌, ◌≤◌, ◌+◌, ℕ, Bool, true, false, cond, ◌||◌, List, [], ◌∷◌, ◌++◌, get_or, length, map, unwrap_or, Option, None, Some, refl, sym, ap, take, ◌∙◌, arith, append_assoc}
use Rattle.std.specs.List.{list_any}
use Rattle.std.specs.Map.{keys_of, lookup}
use Rattle.std.proofs.lemmas.List.{length-take-le, map-append, take_more}
use Rattle.vtl_decimal.specs.Settings.{Settings}
use Rattle.vtl_text.specs.Texts.{same_text}
use Rattle.vtl_tree.specs.Structure.{same_name}
use Rattle.vtl_tree.specs.declared.structure.Structure.{Structure}
use Rattle.vtl_meaning.proofs.Places.{same_name-is, same_name-sym}
use Rattle.vtl_rulings.specs.HierarchyChecks.{Ruled}
use Rattle.sql_tree.specs.Trees.{QueryTree, StatementTree, Text}
use Rattle.joins_to_sql.specs.FullJoins.{key_structure, keys_query, once_query}
use Rattle.selects_to_sql.specs.Tables.{Table, create_for, numbered, table_of}
use Rattle.hierarchies_to_sql.specs.ItemTables.{combinations_of, item_query, item_tables, others_structure, tables_by}
use Rattle.hierarchies_to_sql.specs.RuleItems.{found_by, found_else, numbered_from, tables_in}

-- ---- look-ups

none_is_some : {X : Type 0} (x : X) → None ≡ Some x → ⊥
none_is_some x e = cc

module _ (q item x : Text) where
  -- a table behind others
  pub lookup_more : (es : List (Text × Text)) → lookup (same_text q) (es ++ (item, x) ∷ []) ≡ found_else (lookup (same_text q) es) item x q
  lookup_more [] = ap (λ b. cond b (Some x) None) (same_name-sym q item)
  lookup_more (e ∷ es) = go (same_text q e.0) (lookup_more es)
    where
      go : (b : Bool) → lookup (same_text q) (es ++ (item, x) ∷ []) ≡ found_else (lookup (same_text q) es) item x q
          → cond b (Some e.1) (lookup (same_text q) (es ++ (item, x) ∷ [])) ≡ found_else (cond b (Some e.1) (lookup (same_text q) es)) item x q
      go true ih = refl
      go false ih = ih

  known : (es : List (Text × Text)) → list_any (same_text q) (keys_of es) ≡ true → lookup (same_text q) es ≡ None → ⊥
  known [] t e = cc
  known (d ∷ es) t e = go (same_text q d.0) t e (known es)
    where
      go : (b : Bool) → b || list_any (same_text q) (keys_of es) ≡ true → cond b (Some d.1) (lookup (same_text q) es) ≡ None → (list_any (same_text q) (keys_of es) ≡ true → lookup (same_text q) es ≡ None → ⊥) → ⊥
      go true t e ih = none_is_some d.1 (sym e)
      go false t e ih = ih t e

-- where an item has one, it keeps it
pub lookup_kept : (q item x : Text) (es : List (Text × Text)) → list_any (same_text item) (keys_of es) ≡ true → lookup (same_text q) es ≡ found_else (lookup (same_text q) es) item x q
lookup_kept q item x es t = go (lookup (same_text q) es) refl (same_name item q) refl
  where
    go : (o : Option Text) → lookup (same_text q) es ≡ o → (b : Bool) → same_name item q ≡ b → o ≡ found_else o item x q
    go (Some y) e b f = refl
    go None e true f =
        let same = same_name-is item q f in
        absurd (known item item x es t (ap (λ (z : Text). lookup (same_text z) es) same ∙ e))
    go None e false f = ap (λ b. cond b (Some x) None) (sym f)

-- ---- names by numbers

pub found_more : (r : Text) (n : ℕ) (items : List Text) (item q : Text) → found_by (items ++ item ∷ []) (numbered_from r n (items ++ item ∷ [])) q ≡ found_else (found_by items (numbered_from r n items) q) item (numbered r (n + length items)) q
found_more r n [] item q = let same : n ≡ n + 0 = omega arith in ap (λ m. cond (same_name item q) (Some (numbered r m)) None) same
found_more r n (i ∷ items) item q = go (same_name i q) (found_more r (n + 1) items item q)
  where
    next : (n + 1) + length items ≡ n + length (i ∷ items)
    next = omega arith

    go : (b : Bool) → found_by (items ++ item ∷ []) (numbered_from r (n + 1) (items ++ item ∷ [])) q ≡ found_else (found_by items (numbered_from r (n + 1) items) q) item (numbered r ((n + 1) + length items)) q
        → cond b (Some (numbered r n)) (found_by (items ++ item ∷ []) (numbered_from r (n + 1) (items ++ item ∷ [])) q)
        ≡ found_else (cond b (Some (numbered r n)) (found_by items (numbered_from r (n + 1) items) q)) item (numbered r (n + length (i ∷ items))) q
    go true ih = refl
    go false ih = ih ∙ ap (λ m. found_else (found_by items (numbered_from r (n + 1) items) q) item (numbered r m) q) next

pub tables_found : (items xs : List Text) (q : Text) → tables_by items xs q ≡ unwrap_or (found_by items xs q) []
tables_found [] [] q = refl
tables_found [] (x ∷ xs) q = refl
tables_found (item ∷ items) [] q = refl
tables_found (item ∷ items) (x ∷ xs) q = go (same_name item q) (tables_found items xs q)
  where
    go : (b : Bool) → tables_by items xs q ≡ unwrap_or (found_by items xs q) [] → cond b x (tables_by items xs q) ≡ unwrap_or (cond b (Some x) (found_by items xs q)) []
    go true ih = refl
    go false ih = ih

-- ---- tables

module _ (p : Settings) (r : Text) (h : Ruled) (a : Structure) (x : Text) where
  abbrev tables_from : ℕ → List Text → List Table
  tables_from n items = (item_tables p r h a (x ∷ []) items n).tables

  pub names_are : (n : ℕ) (items : List Text) → (item_tables p r h a (x ∷ []) items n).names ≡ numbered_from r n items
  names_are n [] = refl
  names_are n (item ∷ items) = ap (λ l. numbered r n ∷ l) (names_are (n + 1) items)

  pub next_is : (n : ℕ) (items : List Text) → (item_tables p r h a (x ∷ []) items n).next ≡ n + length items
  next_is n [] = omega arith
  next_is n (item ∷ items) = let same : (n + 1) + length items ≡ n + length (item ∷ items) = omega arith in next_is (n + 1) items ∙ same

  pub tables_more : (n : ℕ) (items : List Text) (item : Text) → tables_from n (items ++ item ∷ []) ≡ tables_from n items ++ table_of (numbered r (n + length items)) (item_query p h a item x) ∷ []
  tables_more n [] item = let same : n ≡ n + 0 = omega arith in ap (λ m. table_of (numbered r m) (item_query p h a item x) ∷ []) same
  tables_more n (i ∷ items) item =
      let same : (n + 1) + length items ≡ n + length (i ∷ items) = omega arith in
      ap (λ l. table_of (numbered r n) (item_query p h a i x) ∷ l) (tables_more (n + 1) items item)
      ∙ ap (λ m. table_of (numbered r n) (item_query p h a i x) ∷ (tables_from (n + 1) items ++ table_of (numbered r m) (item_query p h a item x) ∷ [])) same

  -- a further statement
  pub statements_more : (old so : List StatementTree) (n : ℕ) (items : List Text) (item : Text) → so ≡ old ++ map create_for (tables_from n items)
      → so ++ create_for (table_of (numbered r (n + length items)) (item_query p h a item x)) ∷ [] ≡ old ++ map create_for (tables_from n (items ++ item ∷ []))
  statements_more old so n items item e =
      let last = table_of (numbered r (n + length items)) (item_query p h a item x) in
      ap (λ l. l ++ create_for last ∷ []) e
      ∙ append_assoc old (map create_for (tables_from n items)) (create_for last ∷ [])
      ∙ ap (λ l. old ++ l) (sym (map-append create_for (tables_from n items) (last ∷ [])) ∙ ap (map create_for) (sym (tables_more n items item)))

  -- the tables of all items by their names
  pub all_found : (n : ℕ) (items : List Text) (named : List (Text × Text)) (q : Text) → lookup (same_text q) named ≡ found_by items (numbered_from r n items) q → tables_in named q ≡ tables_by items (item_tables p r h a (x ∷ []) items n).names q
  all_found n items named q e =
      ap (λ o. unwrap_or o []) e ∙ sym (tables_found items (numbered_from r n items) q) ∙ ap (λ l. tables_by items l q) (sym (names_are n items))

  -- ---- one item after the other

  module _ (n : ℕ) (items : List Text) (i : ℕ) (item : Text) (within : i < length items) (at : item ≡ get_or items i item) where
    one : take (i + 1) items ≡ take i items ++ item ∷ []
    one = take_more items i item within ∙ ap (λ (z : Text). take i items ++ z ∷ []) (sym at)

    count : length (take i items) ≡ i
    count = length-take-le i items (omega (arith, within))

    pub named_next : (old new : List (Text × Text)) (name : Text) (m : ℕ) → m ≡ n + i → name ≡ numbered r m → ((q : Text) → lookup (same_text q) old ≡ found_by (take i items) (numbered_from r n (take i items)) q)
        → ((q : Text) → lookup (same_text q) new ≡ found_else (lookup (same_text q) old) item name q) → (q : Text) → lookup (same_text q) new ≡ found_by (take (i + 1) items) (numbered_from r n (take (i + 1) items)) q
    named_next old new name m e f so more q =
        more q
        ∙ ap (λ o. found_else o item name q) (so q)
        ∙ ap (λ (z : Text). found_else (found_by (take i items) (numbered_from r n (take i items)) q) item z q) (f ∙ ap (numbered r) (e ∙ ap (λ k. n + k) (sym count)))
        ∙ sym (found_more r n (take i items) item q)
        ∙ ap (λ l. found_by l (numbered_from r n l) q) (sym one)

    pub statements_next : (old so new : List StatementTree) (m : ℕ) (query : QueryTree) → m ≡ n + i → query ≡ item_query p h a item x → so ≡ old ++ map create_for (tables_from n (take i items)) → new ≡ so ++ create_for (table_of (numbered r m) query) ∷ []
        → new ≡ old ++ map create_for (tables_from n (take (i + 1) items))
    statements_next old so new m query e f before is =
        is
        ∙ ap (λ k. so ++ create_for (table_of (numbered r k) query) ∷ []) (e ∙ ap (λ k. n + k) (sym count))
        ∙ ap (λ z. so ++ create_for (table_of (numbered r (n + length (take i items))) z) ∷ []) f
        ∙ statements_more old so n (take i items) item before
        ∙ ap (λ l. old ++ map create_for (tables_from n l)) (sym one)

  -- ---- the combinations

  pub combined_next : (n m : ℕ) (old so new : List StatementTree) (reference keys : Structure) (all : Text) (given once : QueryTree) → reference ≡ others_structure h a → keys ≡ key_structure reference
      → given ≡ keys_query p reference (a ∷ []) (x ∷ []) → all ≡ numbered r n → once ≡ once_query p keys all → m ≡ n + 1 → so ≡ old ++ create_for (table_of (numbered r n) given) ∷ [] → new ≡ so ++ create_for (table_of (numbered r m) once) ∷ []
      → new ≡ old ++ map create_for (combinations_of p r h a (x ∷ []) n).tables
  combined_next n m old so new reference keys all given once er ek eg ea eo em before is =
      let made = λ (k : ℕ) (q : QueryTree). create_for (table_of (numbered r k) q) in
      let own = keys_query p (others_structure h a) (a ∷ []) (x ∷ []) in
      is
      ∙ ap (λ l. l ++ made m once ∷ []) before
      ∙ append_assoc old (made n given ∷ []) (made m once ∷ [])
      ∙ ap (λ k. old ++ (made n given ∷ made k once ∷ [])) em
      ∙ ap (λ q. old ++ (made n q ∷ made (n + 1) once ∷ [])) (eg ∙ ap (λ s. keys_query p s (a ∷ []) (x ∷ [])) er)
      ∙ ap (λ q. old ++ (made n own ∷ made (n + 1) q ∷ [])) (eo ∙ ap (λ s. once_query p s all) (ek ∙ ap key_structure er) ∙ ap (once_query p (key_structure (others_structure h a))) ea)
