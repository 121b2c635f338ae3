-- The tables of rules, one after the other.
use Rattle.std.proofs.Common.{◌≡◌, ◌<◌, ◌≤◌, ◌+◌, ℕ, Bool, true, false, ◌||◌, cond, zero, suc, List, [], ◌∷◌, ◌++◌, get_or, length, map, unwrap_or, Option, None, Some, refl, sym, ap, take, ◌∙◌, arith, append_assoc, append-nil, drop}
use mathlib.Core.Path.{fun_ext}
use Rattle.std.specs.List.{list_any}
use Rattle.std.specs.Map.{keys_of, lookup, set_value}
use Rattle.std.proofs.lemmas.List.{length-take-le, map-append, take_more}
use Rattle.std.specs.Borrow.{Bor}
use Rattle.vtl_decimal.specs.Settings.{Settings}
use Rattle.vtl_text.specs.Texts.{same_text}
use Rattle.vtl_syntax.specs.declared.statements.HierRule.{HierRule}
use Rattle.vtl_syntax.specs.declared.word_groups.HierInput.{HierInput}
use Rattle.vtl_syntax.specs.declared.word_groups.Mode.{Mode}
use Rattle.vtl_tree.specs.RuleItems.{left_item}
use Rattle.vtl_tree.specs.Shown.{shown}
use Rattle.vtl_tree.specs.Structure.{same_name}
use Rattle.vtl_tree.specs.declared.structure.Structure.{Structure}
use Rattle.vtl_meaning.proofs.Places.{same_name-is, same_name-sym}
use Rattle.vtl_rulings.specs.HierarchyChecks.{Ruled}
use Rattle.sql_tree.specs.Trees.{QueryTree, StatementTree, Text}
use Rattle.selects_to_sql.specs.Tables.{Sources, create_for, numbered, table_of}
use Rattle.hierarchies_to_sql.specs.ComputedTables.{first_name, run_tables, taken_table}
use Rattle.hierarchies_to_sql.specs.ItemTables.{Tables, with_table}
use Rattle.hierarchies_to_sql.specs.RuleItems.{found_by, found_else, tables_in}
use Rattle.hierarchies_to_sql.specs.RuleSelects.{computed_query}
use Rattle.hierarchies_to_sql.proofs.ItemTableForms.{lookup_more}

-- ---- a table in place of another

module _ (q item x : Text) where
  pub put_table : (es : List (Text × Text)) → list_any (same_text item) (keys_of es) ≡ false → tables_in (es ++ (item, x) ∷ []) q ≡ with_table item x (tables_in es) q
  put_table es t = ap (λ o. unwrap_or o []) (lookup_more q item x es) ∙ go (same_name item q) refl (lookup (same_text q) es) refl
    where
      none : (l : List (Text × Text)) → list_any (same_text item) (keys_of l) ≡ false → lookup (same_text item) l ≡ None
      none [] e = refl
      none (d ∷ l) e = at (same_text item d.0) e (none l)
        where
          at : (b : Bool) → b || list_any (same_text item) (keys_of l) ≡ false → (list_any (same_text item) (keys_of l) ≡ false → lookup (same_text item) l ≡ None) → cond b (Some d.1) (lookup (same_text item) l) ≡ None
          at true e ih = cc
          at false e ih = ih e

      go : (b : Bool) → same_name item q ≡ b → (o : Option Text) → lookup (same_text q) es ≡ o → unwrap_or (found_else o item x q) [] ≡ cond b x (unwrap_or o [])
      go true e None f = ap (λ b. unwrap_or (cond b (Some x) None) []) e
      go false e None f = ap (λ b. unwrap_or (cond b (Some x) None) []) e
      go true e (Some y) f = let no : None ≡ Some y = sym (none es t) ∙ ap (λ (z : Text). lookup (same_text z) es) (same_name-is item q e) ∙ f in absurd (cc)
      go false e (Some y) f = refl

  replaced : (es : List (Text × Text)) → list_any (same_text item) (keys_of es) ≡ true → lookup (same_text q) (set_value (same_text item) es x) ≡ cond (same_name item q) (Some x) (lookup (same_text q) es)
  replaced [] t = cc
  replaced (d ∷ es) t = go (same_text item d.0) refl t (replaced es)
    where
      go : (b : Bool) → same_text item d.0 ≡ b → b || list_any (same_text item) (keys_of es) ≡ true
          → (list_any (same_text item) (keys_of es) ≡ true → lookup (same_text q) (set_value (same_text item) es x) ≡ cond (same_name item q) (Some x) (lookup (same_text q) es))
          → lookup (same_text q) (cond b ((d.0, x) ∷ es) (d ∷ set_value (same_text item) es x)) ≡ cond (same_name item q) (Some x) (cond (same_text q d.0) (Some d.1) (lookup (same_text q) es))
      go true e t ih = here (same_name item q) refl
        where
          same : same_text q d.0 ≡ same_name item q
          same = same_name-sym q d.0 ∙ ap (λ (z : Text). same_name z q) (sym (same_name-is item d.0 e))

          here : (b : Bool) → same_name item q ≡ b → cond (same_text q d.0) (Some x) (lookup (same_text q) es) ≡ cond b (Some x) (cond (same_text q d.0) (Some d.1) (lookup (same_text q) es))
          here true f = ap (λ b. cond b (Some x) (lookup (same_text q) es)) (same ∙ f)
          here false f = ap (λ b. cond b (Some x) (lookup (same_text q) es)) (same ∙ f) ∙ sym (ap (λ b. cond b (Some d.1) (lookup (same_text q) es)) (same ∙ f))
      go false e t ih = there (same_text q d.0) refl (ih t)
        where
          there : (b : Bool) → same_text q d.0 ≡ b → lookup (same_text q) (set_value (same_text item) es x) ≡ cond (same_name item q) (Some x) (lookup (same_text q) es)
              → cond b (Some d.1) (lookup (same_text q) (set_value (same_text item) es x)) ≡ cond (same_name item q) (Some x) (cond b (Some d.1) (lookup (same_text q) es))
          there false f h = h
          there true f h =
              let other : same_name item q ≡ false = ap (same_name item) (same_name-is q d.0 f) ∙ e in
              ap (λ b. cond b (Some x) (Some d.1)) (sym other)

  pub set_one : (es : List (Text × Text)) → list_any (same_text item) (keys_of es) ≡ true → tables_in (set_value (same_text item) es x) q ≡ with_table item x (tables_in es) q
  set_one es t = ap (λ o. unwrap_or o []) (replaced es t) ∙ go (same_name item q)
    where
      go : (b : Bool) → unwrap_or (cond b (Some x) (lookup (same_text q) es)) [] ≡ cond b x (unwrap_or (lookup (same_text q) es) [])
      go true = refl
      go false = refl

-- ---- rules

module _ (p : Settings) (r : Text) (h : Ruled) (m : Mode) (i : HierInput) (a : Structure) (keys : Text) (given : List Text) where
  abbrev run : Tables → List HierRule → ℕ → Sources
  run tables rules n = run_tables p r h m i a keys given tables rules n

  abbrev taken : Tables → HierRule → Text → ℕ → Sources
  taken tables rule made n = taken_table p r h m i a keys given i tables rule made n

  pub record Continues (rest all : Sources) (xs : List Text) (old so : List StatementTree) : Type 0 where
    pub names : xs ++ rest.names ≡ all.names
    pub tables : so ++ map create_for rest.tables ≡ old ++ map create_for all.tables
    pub next : rest.next ≡ all.next

  pub run_next : (T U : Tables) (rule : HierRule) (rules : List HierRule) (n k : ℕ) (names : List Text) (made : Text) (old so mid new : List StatementTree) (q : QueryTree) (all : Sources) → Continues (run T (rule ∷ rules) n) all names old so → made ≡ numbered r n → q ≡ computed_query p h a keys T m rule
      → mid ≡ so ++ create_for (table_of (numbered r n) q) ∷ [] → new ≡ mid ++ map create_for (taken T rule made (n + 1)).tables → k ≡ (taken T rule made (n + 1)).next → ((item : Text) → U item ≡ with_table (left_item rule) (first_name (taken T rule made (n + 1)).names) T item)
      → Continues (run U rules k) all (names ++ made ∷ []) old new
  run_next T U rule rules n k names made old so mid new q all before em eq is more next tables =
      let s = taken T rule made (n + 1) in
      let s0 = taken T rule (numbered r n) (n + 1) in
      let after : Sources → Sources = λ z. run (with_table (left_item rule) (first_name z.names) T) rules z.next in
      let others = after s0 in
      let same : s ≡ s0 = ap (λ x. taken T rule x (n + 1)) em in
      let rest : run U rules k ≡ others = ap (λ z. run z rules k) (fun_ext tables) ∙ ap (λ z. run (with_table (left_item rule) (first_name s.names) T) rules z) next ∙ ap after same in
      let one = create_for (table_of (numbered r n) q) in
      record {
        names = ap (λ (z : Sources). (names ++ made ∷ []) ++ z.names) rest ∙ append_assoc names (made ∷ []) others.names ∙ ap (λ x. names ++ (x ∷ others.names)) em ∙ before.names;
        tables =
            ap (λ (z : Sources). new ++ map create_for z.tables) rest
            ∙ ap (λ l. l ++ map create_for others.tables) (more ∙ ap (λ (z : Sources). mid ++ map create_for z.tables) same ∙ ap (λ l. l ++ map create_for s0.tables) is)
            ∙ append_assoc (so ++ one ∷ []) (map create_for s0.tables) (map create_for others.tables)
            ∙ append_assoc so (one ∷ []) (map create_for s0.tables ++ map create_for others.tables)
            ∙ ap (λ l. so ++ (one ∷ l)) (sym (map-append create_for s0.tables others.tables))
            ∙ ap (λ z. so ++ (create_for (table_of (numbered r n) z) ∷ map create_for (s0.tables ++ others.tables))) eq
            ∙ before.tables;
        next = ap (λ (z : Sources). z.next) rest ∙ before.next;
      }

  -- no rule is left
  pub ended : (T : Tables) (n : ℕ) (xs : List Text) (old so : List StatementTree) (all : Sources) → Continues (run T [] n) all xs old so → (xs ≡ all.names) × (so ≡ old ++ map create_for all.tables) × (n ≡ all.next)
  ended T n xs old so all e = (sym (append-nil xs) ∙ e.names, sym (append-nil so) ∙ e.tables, e.next)

pub next_rule : (rules : List (Bor HierRule)) (i : ℕ) (rule : Bor HierRule) → i < length rules → rule ≡ get_or rules i rule → shown (drop i rules) ≡ rule.now ∷ shown (drop (i + 1) rules)
next_rule [] i rule within at = absurd (omega (arith, within))
next_rule (x ∷ rules) zero rule within at = ap (λ (z : Bor HierRule). z.now ∷ shown rules) (sym at)
next_rule (x ∷ rules) (suc i) rule within at =
    let next : suc (i + 1) ≡ suc i + 1 = omega arith in
    next_rule rules i rule (omega (arith, within)) at ∙ ap (λ n. rule.now ∷ shown (drop n (x ∷ rules))) next

pub shown_more : (rules : List (Bor HierRule)) (i : ℕ) (rule : Bor HierRule) → i < length rules → rule ≡ get_or rules i rule → shown (take (i + 1) rules) ≡ shown (take i rules) ++ rule.now ∷ []
shown_more rules i rule within at = ap shown (take_more rules i rule within ∙ ap (λ (z : Bor HierRule). take i rules ++ z ∷ []) (sym at)) ∙ map-append (λ z. z.now) (take i rules) (rule ∷ [])

pub no_rule : (rules : List (Bor HierRule)) (i : ℕ) → length rules ≤ i → shown (drop i rules) ≡ []
no_rule [] zero h = refl
no_rule [] (suc i) h = refl
no_rule (x ∷ rules) zero h = absurd (omega (arith, h))
no_rule (x ∷ rules) (suc i) h = no_rule rules i (omega (arith, h))

-- ---- names by items

found_one : (items xs : List Text) (item x q : Text) → length xs ≡ length items → found_by (items ++ item ∷ []) (xs ++ x ∷ []) q ≡ found_else (found_by items xs q) item x q
found_one [] [] item x q e = refl
found_one [] (y ∷ xs) item x q e = absurd (omega (arith, e))
found_one (i ∷ items) [] item x q e = absurd (omega (arith, e))
found_one (i ∷ items) (y ∷ xs) item x q e = go (same_name i q) (found_one items xs item x q (omega (arith, e)))
  where
    go : (b : Bool) → found_by (items ++ item ∷ []) (xs ++ x ∷ []) q ≡ found_else (found_by items xs q) item x q
        → cond b (Some y) (found_by (items ++ item ∷ []) (xs ++ x ∷ []) q) ≡ found_else (cond b (Some y) (found_by items xs q)) item x q
    go true ih = refl
    go false ih = ih

pub named_one : (items xs : List Text) (i : ℕ) (item x : Text) (old new : List (Text × Text)) → i < length items → length xs ≡ length items → item ≡ get_or items i item → x ≡ get_or xs i x → ((q : Text) → lookup (same_text q) old ≡ found_by (take i items) (take i xs) q)
    → ((q : Text) → lookup (same_text q) new ≡ found_else (lookup (same_text q) old) item x q) → (q : Text) → lookup (same_text q) new ≡ found_by (take (i + 1) items) (take (i + 1) xs) q
named_one items xs i item x old new within e at bt so more q =
    let count = length-take-le i items (omega (arith, within)) in
    let counted = length-take-le i xs (omega (arith, within, e)) in
    more q
    ∙ ap (λ o. found_else o item x q) (so q)
    ∙ sym (found_one (take i items) (take i xs) item x q (counted ∙ sym count))
    ∙ ap (λ (z : Text). found_by (take i items ++ z ∷ []) (take i xs ++ x ∷ []) q) at
    ∙ ap (λ (z : Text). found_by (take i items ++ get_or items i item ∷ []) (take i xs ++ z ∷ []) q) bt
    ∙ ap (λ l. found_by l (take i xs ++ get_or xs i x ∷ []) q) (sym (take_more items i item within))
    ∙ ap (λ l. found_by (take (i + 1) items) l q) (sym (take_more xs i x (omega (arith, within, e))))
