-- The transformations among the statements of a script from a place on.
use Rattle.std.proofs.Common.{◌≡◌, ℕ, suc, ◌+◌, ◌<◌, List, ◌∷◌, drop, get_or, length, map, sym, ap, ◌∙◌, refl, arith}
use Rattle.std.proofs.lemmas.List.{drop_more}
use Rattle.vtl_syntax.specs.View.{expr_tree, statement_tree}
use Rattle.vtl_syntax.specs.declared.expressions.Expr.{Expr}
use Rattle.vtl_syntax.specs.declared.statements.Statement.{Statement}
use Rattle.vtl_syntax.specs.declared.statements.Statement.TheVariants as statement
use Rattle.vtl_syntax.specs.declared.word_groups.AssignKind.{AssignKind}
use Rattle.vtl_check.specs.Transformations.{Transformation, transformations_from}

-- those of the statements that are left
abbrev pub left : List Statement → ℕ → List Transformation
left ss i = transformations_from (i + 1) (map statement_tree (drop i ss))

abbrev pub assigned_at : ℕ → List ℕ → AssignKind → Expr → Transformation
assigned_at i name kind value = record { number = i + 1; name = name; kind = kind; value = expr_tree value }

-- what is left at a statement, by what the statement is
module _ (ss : List Statement) (i : ℕ) (s : Statement) (within : i < length ss) (s_is : s ≡ get_or ss i s) where
  from_here : drop i ss ≡ s ∷ drop (i + 1) ss
  from_here = drop_more ss i s within ∙ ap (λ (x : Statement). x ∷ drop (i + 1) ss) (sym s_is)

  next : suc (i + 1) ≡ i + 1 + 1
  next = omega arith

  pub one_left : (name : List ℕ) (kind : AssignKind) (value : Expr) → s ≡ statement.Assignment name kind value → left ss i ≡ assigned_at i name kind value ∷ left ss (i + 1)
  one_left name kind value assigns =
      ap (λ (l : List Statement). transformations_from (i + 1) (map statement_tree l)) (from_here ∙ ap (λ (x : Statement). x ∷ drop (i + 1) ss) assigns)
      ∙ ap (λ n. assigned_at i name kind value ∷ transformations_from n (map statement_tree (drop (i + 1) ss))) next

  pub none_left : ((name : List ℕ) (kind : AssignKind) (value : Expr) → s ≡ statement.Assignment name kind value → ⊥) → left ss i ≡ left ss (i + 1)
  none_left defines =
      ap (λ (l : List Statement). transformations_from (i + 1) (map statement_tree l)) from_here
      ∙ go s defines
      ∙ ap (λ n. transformations_from n (map statement_tree (drop (i + 1) ss))) next
    where
      go : (x : Statement) → ((name : List ℕ) (kind : AssignKind) (value : Expr) → x ≡ statement.Assignment name kind value → ⊥)
          → transformations_from (i + 1) (statement_tree x ∷ map statement_tree (drop (i + 1) ss)) ≡ transformations_from (suc (i + 1)) (map statement_tree (drop (i + 1) ss))
      go (statement.Assignment name kind value) h = absurd (h name kind value refl)
      go (statement.Datapoint name variables rules last) h = refl
      go (statement.Hierarchical name item rules last) h = refl
