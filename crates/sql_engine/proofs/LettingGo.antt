-- Rows that no statement reads any more.
use Rattle.std.proofs.Common.{◌≡◌, inl, inr, ◌⊎◌, Bool, true, false, cond, [], ◌∷◌, Option, Some, refl, sym, ap, ◌∙◌, subst}
use Rattle.std.specs.Map.{set_value}
use Rattle.std.specs.Option.{option_map}
use Rattle.std.specs.Cmp.Lexicographic.{bytes_decides}
use Rattle.vtl_text.specs.Texts.{same_text}
use Rattle.vtl_rows.specs.Named.{NamedTables, table_of}
use Rattle.vtl_rows.specs.Tables.{Listed}
use Rattle.sql_tree.specs.Trees.{Text}
use Rattle.sql_check_parts.specs.Scopes.{Columns}
use Rattle.sql_from.specs.Held.{tables_held}
use Rattle.sql_engine.specs.Held.{MayLetGo, MayLoseRows, without_rows}
use Rattle.sql_engine.proofs.TableLookups.{columns_in}

-- the name and the columns of a table
abbrev columns_entry : Text × Listed → Text × Columns
columns_entry x = (x.0, columns_in x.1)

module _ (is_kept : Text → Bool) where
  -- ---- none, one, and one after the other

  pub none_let_go : (held : NamedTables) → MayLetGo is_kept held held
  none_let_go [] = tt
  none_let_go (t ∷ held) = (inl refl, none_let_go held)

  pub one_let_go : (name : Text) (held : NamedTables) (t : Listed) → is_kept name ≡ false → table_of name held ≡ Some t → MayLetGo is_kept held (set_value (same_text name) held (without_rows t))
  one_let_go name [] t unread e = cc
  one_let_go name (x ∷ held) t unread e = go (same_text name x.0) (λ b. (bytes_decides name x.0).0 b) (one_let_go name held t unread) e
    where
      go : (b : Bool) → (b ≡ true → name ≡ x.0) → (table_of name held ≡ Some t → MayLetGo is_kept held (set_value (same_text name) held (without_rows t)))
          → cond b (Some x.1) (table_of name held) ≡ Some t → MayLetGo is_kept (x ∷ held) (cond b ((x.0, without_rows t) ∷ held) (x ∷ set_value (same_text name) held (without_rows t)))
      go true same ih e = let here : x.1 ≡ t = cc in (inr (ap is_kept (sym (same refl)) ∙ unread, ap (λ u. (x.0, without_rows u)) (sym here)), none_let_go held)
      go false same ih e = (inl refl, ih e)

  pub let_go_both : (a b c : NamedTables) → MayLetGo is_kept a b → MayLetGo is_kept b c → MayLetGo is_kept a c
  let_go_both [] [] [] f g = tt
  let_go_both [] [] (z ∷ c) f g = absurd g
  let_go_both [] (y ∷ b) c f g = absurd f
  let_go_both (x ∷ a) [] c f g = absurd f
  let_go_both (x ∷ a) (y ∷ b) [] f g = absurd g
  let_go_both (x ∷ a) (y ∷ b) (z ∷ c) f g = (each f.0 g.0, let_go_both a b c f.1 g.1)
    where
      each : MayLoseRows is_kept x y → MayLoseRows is_kept y z → MayLoseRows is_kept x z
      each (inl p) (inl q) = inl (q ∙ p)
      each (inl p) (inr q) = inr (subst (λ (t : Text × Listed). (is_kept t.0 ≡ false) × (z ≡ (t.0, without_rows t.1))) p q)
      each (inr p) (inl q) = inr (p.0, q ∙ p.1)
      each (inr p) (inr q) = inr (p.0, q.1 ∙ ap (λ (t : Text × Listed). (t.0, without_rows t.1)) p.1)

  -- ---- what is known of the tables

  pub columns_stay : (held now : NamedTables) → MayLetGo is_kept held now → tables_held now ≡ tables_held held
  columns_stay [] [] f = refl
  columns_stay [] (u ∷ now) f = absurd f
  columns_stay (t ∷ held) [] f = absurd f
  columns_stay (t ∷ held) (u ∷ now) f = λ i. each f.0 i ∷ columns_stay held now f.1 i
    where
      each : MayLoseRows is_kept t u → columns_entry u ≡ columns_entry t
      each (inl p) = ap columns_entry p
      each (inr p) = ap columns_entry p.1

  -- the table of a name is as it was, or it is not read any more and has lost its rows
  abbrev pub LooksAs : Text → (before now : Option Listed) → Type 0
  LooksAs name before now = (now ≡ before) ⊎ ((is_kept name ≡ false) × (now ≡ option_map without_rows before))

  pub looked_up : (name : Text) (held now : NamedTables) → MayLetGo is_kept held now → LooksAs name (table_of name held) (table_of name now)
  looked_up name [] [] f = inl refl
  looked_up name [] (u ∷ now) f = absurd f
  looked_up name (t ∷ held) [] f = absurd f
  looked_up name (t ∷ held) (u ∷ now) f = at f.0 (looked_up name held now f.1)
    where
      as_before : (b : Bool) → LooksAs name (table_of name held) (table_of name now) → LooksAs name (cond b (Some t.1) (table_of name held)) (cond b (Some t.1) (table_of name now))
      as_before true ih = inl refl
      as_before false ih = ih

      lost : is_kept t.0 ≡ false → (b : Bool) → (b ≡ true → name ≡ t.0) → LooksAs name (table_of name held) (table_of name now) → LooksAs name (cond b (Some t.1) (table_of name held)) (cond b (Some (without_rows t.1)) (table_of name now))
      lost unread true same ih = inr (ap is_kept (same refl) ∙ unread, refl)
      lost unread false same ih = ih

      at : MayLoseRows is_kept t u → LooksAs name (table_of name held) (table_of name now) → LooksAs name (cond (same_text name t.0) (Some t.1) (table_of name held)) (cond (same_text name u.0) (Some u.1) (table_of name now))
      at (inl p) ih = subst (λ (x : Text × Listed). LooksAs name (cond (same_text name t.0) (Some t.1) (table_of name held)) (cond (same_text name x.0) (Some x.1) (table_of name now))) (sym p)
          (as_before (same_text name t.0) ih)
      at (inr p) ih = subst (λ (x : Text × Listed). LooksAs name (cond (same_text name t.0) (Some t.1) (table_of name held)) (cond (same_text name x.0) (Some x.1) (table_of name now))) (sym p.1)
          (lost p.0 (same_text name t.0) (λ b. (bytes_decides name t.0).0 b) ih)
