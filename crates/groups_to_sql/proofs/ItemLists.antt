-- Items one behind the other, items of other columns of the same kinds, items at fewer rows, and the rows of one table at which a condition holds.
use Rattle.std.proofs.Common.{◌≡◌, Bool, true, cond, List, [], ◌∷◌, ◌++◌, None, Ok, refl, ap, ◌∙◌, subst, arith}
use Rattle.std.specs.Prelude.{IfOk}
use Rattle.std.specs.List.{AllByRecursion, filter}
use Rattle.vtl_cell.specs.Kinds.{is_of}
use Rattle.vtl_cell.specs.Outcome.{Outcome, fault_in, faults_by, unless}
use Rattle.vtl_cell.specs.Outcomes.{is_true}
use Rattle.vtl_cell.specs.Row.{Row}
use Rattle.vtl_cell.specs.declared.cell.Cell.{Cell}
use Rattle.vtl_cell.specs.declared.cell.Cell.TheVariants as c
use Rattle.vtl_cell.specs.declared.kind.Kind.TheVariants as k
use Rattle.vtl_tree.specs.declared.structure.Component.{Component}
use Rattle.sql_tree.specs.Trees.{Exp, Text}
use Rattle.sql_check_parts.specs.Scopes.{Scope}
use Rattle.sql_meaning.specs.Tables.{Base}
use Rattle.groups_to_sql.specs.Turned.{text_constant}
use Rattle.selects_to_sql.proofs.Givens.{kinds_in}
use Rattle.selects_to_sql.proofs.SelectItems.{AreItems, IsItem, Valued}

module _ (b : Base) (s : Scope) (P : Row → Type 0) where
  -- ---- items

  pub items_behind : (fs gs : List Valued) (es ds : List Exp) (ys zs : List Component) → AreItems b s P fs es ys → AreItems b s P gs ds zs → AreItems b s P (fs ++ gs) (es ++ ds) (ys ++ zs)
  items_behind [] gs [] ds [] zs i j = j
  items_behind (f ∷ fs) gs (e ∷ es) ds (y ∷ ys) zs i j = (i.0, items_behind fs gs es ds ys zs i.1 j)
  items_behind fs gs es ds ys zs i j = absurd i

  one_like : (f : Valued) (e : Exp) (y z : Component) → y.kind ≡ z.kind → IsItem b s P f e y → IsItem b s P f e z
  one_like f e y z same i = record {
    kind = i.kind ∙ same;
    fits = i.fits;
    printed = i.printed;
    value_is = i.value_is;
    of_kind = λ r h. subst (λ q. IfOk (f r) (λ v. is_of q v ≡ true)) same (i.of_kind r h);
  }

  pub items_like : (fs : List Valued) (es : List Exp) (ys zs : List Component) → kinds_in ys ≡ kinds_in zs → AreItems b s P fs es ys → AreItems b s P fs es zs
  items_like [] [] [] [] same i = tt
  items_like [] [] [] (z ∷ zs) same i = cc
  items_like (f ∷ fs) (e ∷ es) (y ∷ ys) [] same i = cc
  items_like (f ∷ fs) (e ∷ es) (y ∷ ys) (z ∷ zs) same i =
      let one : y.kind ≡ z.kind = cc in
      let more : kinds_in ys ≡ kinds_in zs = cc in
      (one_like f e y z one i.0, items_like fs es ys zs more i.1)
  items_like fs es ys zs same i = absurd i

  -- a text is the same at each row
  pub text_item : (text : Text) (y : Component) → k.Text ≡ y.kind → IsItem b s P (λ r. Ok (c.Text text)) (text_constant text) y
  text_item text y same = record {
    kind = same;
    fits = refl;
    printed = (tt, omega arith);
    value_is = λ r h. refl;
    of_kind = λ r h. subst (λ q. is_of q (c.Text text) ≡ true) same refl;
  }

-- ---- items at fewer rows

item_where : (b : Base) (s : Scope) (P Q : Row → Type 0) (f : Valued) (e : Exp) (y : Component) → ((r : Row) → Q r → P r) → IsItem b s P f e y → IsItem b s Q f e y
item_where b s P Q f e y h i = record {
  kind = i.kind;
  fits = i.fits;
  printed = i.printed;
  value_is = λ r q. i.value_is r (h r q);
  of_kind = λ r q. i.of_kind r (h r q);
}

pub items_where : (b : Base) (s : Scope) (P Q : Row → Type 0) (fs : List Valued) (es : List Exp) (ys : List Component) → ((r : Row) → Q r → P r) → AreItems b s P fs es ys → AreItems b s Q fs es ys
items_where b s P Q [] [] [] h i = tt
items_where b s P Q (f ∷ fs) (e ∷ es) (y ∷ ys) h i = (item_where b s P Q f e y h i.0, items_where b s P Q fs es ys h i.1)
items_where b s P Q fs es ys h i = absurd i

-- ---- a condition that has this truth at each row

pub exactly_kept : (P : Row → Type 0) (v : Row → Outcome Cell) (f : Row → Bool) (d : List Row) → ((r : Row) → P r → v r ≡ Ok (c.Bool (f r))) → AllByRecursion P d → unless (faults_by (λ r. fault_in (v r)) d) (filter (λ r. is_true (v r)) d) ≡ Ok (filter f d)
exactly_kept P v f d h all = ap (λ z. unless z (filter (λ r. is_true (v r)) d)) (none d all) ∙ ap Ok (left d all)
  where
    none : (l : List Row) → AllByRecursion P l → faults_by (λ r. fault_in (v r)) l ≡ None
    none [] i = refl
    none (r ∷ l) i = rw (h r i.0) (none l i.1)

    left : (l : List Row) → AllByRecursion P l → filter (λ r. is_true (v r)) l ≡ filter f l
    left [] i = refl
    left (r ∷ l) i = ap (λ m. cond (is_true m) (r ∷ filter (λ q. is_true (v q)) l) (filter (λ q. is_true (v q)) l)) (h r i.0) ∙ ap (λ t. cond (f r) (r ∷ t) t) (left l i.1)
