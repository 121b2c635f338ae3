-- The first statements of a script give a front of what all of it gives.
use Rattle.std.proofs.Common.{◌≡◌, List, [], ◌∷◌, ◌++◌, Result, Ok, Err, refl, sym, ap, ◌∙◌, append_assoc, subst}
use Rattle.std.specs.Prelude.{IfOk}
use Rattle.std.proofs.lemmas.List.{append-nil}
use Rattle.vtl_cell.specs.Outcome.{Outcome}
use Rattle.vtl_lists.specs.Results.{◌>>=◌}
use Rattle.vtl_cell.specs.Row.{Row}
use Rattle.vtl_decimal.specs.Settings.{Settings}
use Rattle.sql_tree.specs.Trees as tree
use Rattle.sql_tree.specs.Trees.{QueryTree, ScriptTree, StatementTree, Text}
use Rattle.sql_check_parts.specs.Statements.{script_settings}
use Rattle.sql_meaning.specs.Fronts.{IsFrontOf}
use Rattle.sql_meaning.specs.Scripts.{Export, Inputs, Made, NamedFault, and_table, base_of, created, export_of, nothing_made, or_named, script_value, statement_made, statements_made, table_named}
use Rattle.sql_meaning.specs.Selects.{query_value}

-- exports are only added
abbrev Grows : List Export → Made → Type 0
Grows front m = (behind : List Export) × (m.exports ≡ front ++ behind)

as_it_is : (front : List Export) → front ≡ front ++ []
as_it_is front = sym (append-nil front)

module _ (p : Settings) (inputs : Inputs) where
  -- statements behind others are carried out over what those have made
  pub made_behind : (xs ys : List StatementTree) (m : Made) → statements_made p inputs m (xs ++ ys) ≡ (statements_made p inputs m xs >>= (λ n. statements_made p inputs n ys))
  made_behind [] ys m = refl
  made_behind (x ∷ xs) ys m = inside (statement_made p inputs m x) (λ n. statements_made p inputs n (xs ++ ys)) (λ n. statements_made p inputs n xs) (λ n. statements_made p inputs n ys) (λ n. made_behind xs ys n)
    where
      inside : (r : Result Made NamedFault) (f g h : Made → Result Made NamedFault) → ((n : Made) → f n ≡ (g n >>= h)) → (r >>= f) ≡ ((r >>= g) >>= h)
      inside (Ok n) f g h e = e n
      inside (Err d) f g h e = refl

  created_grows : (m : Made) (name : Text) (q : QueryTree) (r : Outcome (List Row)) → IfOk (or_named name r >>= (λ rows. Ok (and_table m name (created m.tables q rows)))) (Grows m.exports)
  created_grows m name q (Ok rows) = ([], as_it_is m.exports)
  created_grows m name q (Err f) = tt

  statement_grows : (m : Made) (s : StatementTree) → IfOk (statement_made p inputs m s) (Grows m.exports)
  statement_grows m (tree.setting digits rounding) = ([], as_it_is m.exports)
  statement_grows m (tree.input s) = ([], as_it_is m.exports)
  statement_grows m (tree.create name q) = created_grows m name q (query_value (base_of p m.tables) q)
  statement_grows m (tree.export s) = (export_of s (table_named m.tables s.name) ∷ [], refl)

  pub statements_grow : (ss : List StatementTree) (m : Made) → IfOk (statements_made p inputs m ss) (Grows m.exports)
  statements_grow [] m = ([], as_it_is m.exports)
  statements_grow (s ∷ ss) m = go (statement_made p inputs m s) (statement_grows m s) (λ n. statements_grow ss n)
    where
      further : (n k : Made) → Grows m.exports n → Grows n.exports k → Grows m.exports k
      further n k one two = (one.0 ++ two.0, two.1 ∙ ap (λ l. l ++ two.0) one.1 ∙ append_assoc m.exports one.0 two.0)

      again : (n : Made) (r : Result Made NamedFault) → Grows m.exports n → IfOk r (Grows n.exports) → IfOk r (Grows m.exports)
      again n (Ok k) one two = further n k one two
      again n (Err f) one two = tt

      go : (r : Result Made NamedFault) → IfOk r (Grows m.exports) → ((n : Made) → IfOk (statements_made p inputs n ss) (Grows n.exports)) → IfOk (r >>= (λ n. statements_made p inputs n ss)) (Grows m.exports)
      go (Ok n) one rest = again n (statements_made p inputs n ss) one (rest n)
      go (Err f) one rest = tt

  front_made : (m : Made) (xs ys : List StatementTree) → IsFrontOf (statements_made p inputs m xs >>= (λ n. Ok n.exports)) (statements_made p inputs m (xs ++ ys) >>= (λ n. Ok n.exports))
  front_made m xs ys =
      subst (λ r. IsFrontOf (statements_made p inputs m xs >>= (λ n. Ok n.exports)) (r >>= (λ n. Ok n.exports))) (sym (made_behind xs ys m)) (go (statements_made p inputs m xs))
    where
      whole : (n : Made) (r : Result Made NamedFault) → IfOk r (Grows n.exports) → IsFrontOf (Ok n.exports) (r >>= (λ k. Ok k.exports))
      whole n (Ok k) h = h
      whole n (Err f) h = tt

      go : (r : Result Made NamedFault) → IsFrontOf (r >>= (λ n. Ok n.exports)) ((r >>= (λ n. statements_made p inputs n ys)) >>= (λ n. Ok n.exports))
      go (Ok n) = whole n (statements_made p inputs n ys) (statements_grow ys n)
      go (Err f) = refl

pub front_of : (xs ys : ScriptTree) (inputs : Inputs) → IsFrontOf (script_value xs inputs) (script_value (xs ++ ys) inputs)
front_of [] ys inputs = any (script_value ys inputs)
  where
    any : (r : Result (List Export) NamedFault) → IsFrontOf (Ok []) r
    any (Ok es) = (es, refl)
    any (Err f) = tt
front_of (tree.setting digits rounding ∷ xs) ys inputs = front_made (script_settings (tree.setting digits rounding ∷ xs)) inputs nothing_made (tree.setting digits rounding ∷ xs) ys
front_of (tree.input s ∷ xs) ys inputs = front_made (script_settings []) inputs nothing_made (tree.input s ∷ xs) ys
front_of (tree.create name q ∷ xs) ys inputs = front_made (script_settings []) inputs nothing_made (tree.create name q ∷ xs) ys
front_of (tree.export s ∷ xs) ys inputs = front_made (script_settings []) inputs nothing_made (tree.export s ∷ xs) ys
