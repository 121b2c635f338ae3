-- Expressions that are typed over columns, and lists of them.
use Rattle.std.proofs.Common.{◌≡◌, ℕ, zero, suc, ◌+◌, List, [], ◌∷◌, ◌++◌, length, map, Option, Some, None, refl, sym, ap, ◌∙◌, subst, arith}
use Rattle.std.specs.List.{AllByRecursion}
use Rattle.vtl_decimal.specs.Settings.{Settings}
use Rattle.vtl_cell.specs.ScalarKinds.{kinds_of}
use Rattle.vtl_cell.specs.declared.kind.Kind.{Kind}
use Rattle.vtl_cell.specs.declared.operator.ScalarOp.{ScalarOp}
use Rattle.vtl_tree.specs.CompExp.{CompExp, CompExps, column, const, call, aggregate, comp_exp, no_comp_exps}
use Rattle.vtl_tree.specs.View.{comp_exps_of}
use Rattle.vtl_tree.specs.declared.expression.AggCall.{AggCall}
use Rattle.vtl_tree.specs.declared.structure.Component.{Component}
use Rattle.vtl_tree.specs.Names.{component_of}
use Rattle.vtl_tree.specs.Kinds.{exp_kind}
use Rattle.vtl_tree.specs.Columns.{column_behind, column_named, kind_named, place_of}
use Rattle.vtl_meaning.specs.Literals.{HasLiterals}
use Rattle.vtl_meaning.specs.Made.{Aggregates, AreFor, AreTyped, AreTypedOver, IsColumnAt, IsGroupedColumn, IsTyped, IsTypedOver, kinds_in}
use Rattle.check_laws.specs.WellTyped.{IsTypedIn}
use Rattle.vtl_meaning.proofs.FoundColumns.{at-place, kind-found}

-- ---- kinds
pub kinds-listed : (es : List CompExp) → kinds_in (comp_exps_of es) ≡ map exp_kind es
kinds-listed [] = refl
kinds-listed (e ∷ es) = ap (λ ks. exp_kind e ∷ ks) (kinds-listed es)

pub listed-typed : (p : Settings) (xs : List Component) (es : List CompExp) → AllByRecursion (IsTyped p xs) es → AreTyped p xs (comp_exps_of es)
listed-typed p xs [] h = tt
listed-typed p xs (e ∷ es) h = (h.0, listed-typed p xs es h.1)

pub call-typed : (p : Settings) (xs : List Component) (o : ScalarOp) (kind : Kind) (es : List CompExp) → kinds_of o (map exp_kind es) ≡ Some kind → AllByRecursion (IsTyped p xs) es → HasLiterals o (comp_exps_of es) → IsTyped p xs (call o kind (comp_exps_of es))
call-typed p xs o kind es e h l = (ap (kinds_of o) (kinds-listed es) ∙ e, listed-typed p xs es h, l)

pub listed-over : (p : Settings) (columns : ℕ → List ℕ → Kind → Type 0) (aggregates : AggCall → Kind → Type 0) (es : List CompExp) → AllByRecursion (IsTypedOver p columns aggregates) es → AreTypedOver p columns aggregates (comp_exps_of es)
listed-over p columns aggregates [] h = tt
listed-over p columns aggregates (e ∷ es) h = (h.0, listed-over p columns aggregates es h.1)

-- over points or groups
pub call-in : (p : Settings) (grouping : Option (List (List ℕ))) (xs : List Component) (o : ScalarOp) (kind : Kind) (es : List CompExp) → kinds_of o (map exp_kind es) ≡ Some kind → AllByRecursion (IsTypedIn p grouping xs) es → HasLiterals o (comp_exps_of es) → IsTypedIn p grouping xs (call o kind (comp_exps_of es))
call-in p None xs o kind es e h l = call-typed p xs o kind es e h l
call-in p (Some names) xs o kind es e h l = (ap (kinds_of o) (kinds-listed es) ∙ e, listed-over p (IsGroupedColumn names xs) (λ a kind. Aggregates xs a.kind a.component kind) es h, l)

-- ---- more columns
pub column-before : (xs more : List Component) (i : ℕ) (name : List ℕ) (kind : Kind) → IsColumnAt i name kind xs → IsColumnAt i name kind (xs ++ more)
column-before [] more i name kind h = absurd h
column-before (x ∷ xs) more zero name kind h = h
column-before (x ∷ xs) more (suc i) name kind h = column-before xs more i name kind h

pub column-after : (front xs : List Component) (i : ℕ) (name : List ℕ) (kind : Kind) → IsColumnAt i name kind xs → IsColumnAt (length front + i) name kind (front ++ xs)
column-after [] xs i name kind h = subst (λ n. IsColumnAt n name kind xs) (omega arith) h
column-after (x ∷ front) xs i name kind h =
    let e : suc (length front + i) ≡ suc (length front) + i = omega arith in
    subst (λ n. IsColumnAt n name kind (x ∷ (front ++ xs))) e (column-after front xs i name kind h)

mutual
  -- a value without components has the same kind over any columns
  pub over-any : (p : Settings) (xs : List Component) (e : CompExp) → IsTyped p [] e → IsTyped p xs e
  over-any p xs (column place name kind) h = absurd h
  over-any p xs (const v) h = h
  over-any p xs (call o kind args) h = (h.0, all-over-any p xs args h.1, h.2)
  over-any p xs (aggregate a kind) h = absurd h

  all-over-any : (p : Settings) (xs : List Component) (es : CompExps) → AreTyped p [] es → AreTyped p xs es
  all-over-any p xs no_comp_exps h = tt
  all-over-any p xs (comp_exp e es) h = (over-any p xs e h.0, all-over-any p xs es h.1)

mutual
  -- and is typed over any groups
  pub over-groups : (p : Settings) (columns : ℕ → List ℕ → Kind → Type 0) (aggregates : AggCall → Kind → Type 0) (e : CompExp) → IsTyped p [] e → IsTypedOver p columns aggregates e
  over-groups p columns aggregates (column place name kind) h = absurd h
  over-groups p columns aggregates (const v) h = h
  over-groups p columns aggregates (call o kind args) h = (h.0, all-over-groups p columns aggregates args h.1, h.2)
  over-groups p columns aggregates (aggregate a kind) h = absurd h

  all-over-groups : (p : Settings) (columns : ℕ → List ℕ → Kind → Type 0) (aggregates : AggCall → Kind → Type 0) (es : CompExps) → AreTyped p [] es → AreTypedOver p columns aggregates es
  all-over-groups p columns aggregates no_comp_exps h = tt
  all-over-groups p columns aggregates (comp_exp e es) h = (over-groups p columns aggregates e h.0, all-over-groups p columns aggregates es h.1)

pub over-each : (p : Settings) (grouping : Option (List (List ℕ))) (xs : List Component) (e : CompExp) → IsTyped p [] e → IsTypedIn p grouping xs e
over-each p None xs e h = over-any p xs e h
over-each p (Some names) xs e h = over-groups p (IsGroupedColumn names xs) (λ a kind. Aggregates xs a.kind a.component kind) e h

-- ---- expressions for columns
-- it is typed over columns, and has this kind
abbrev pub IsFor : Settings → List Component → CompExp → Component → Type 0
IsFor p xs e y = IsTyped p xs e × (exp_kind e ≡ y.kind)

pub for-append : (p : Settings) (xs : List Component) (es ds : List CompExp) (ys zs : List Component) → AreFor p xs es ys → AreFor p xs ds zs → AreFor p xs (es ++ ds) (ys ++ zs)
for-append p xs [] ds [] zs h k = k
for-append p xs [] ds (y ∷ ys) zs h k = absurd h
for-append p xs (e ∷ es) ds [] zs h k = absurd h
for-append p xs (e ∷ es) ds (y ∷ ys) zs h k = (h.0, h.1, for-append p xs es ds ys zs h.2 k)

pub for-map : (p : Settings) (xs : List Component) (f : Component → CompExp) (ys : List Component) → AllByRecursion (λ y. IsFor p xs (f y) y) ys → AreFor p xs (map f ys) ys
for-map p xs f [] h = tt
for-map p xs f (y ∷ ys) h = (h.0.0, h.0.1, for-map p xs f ys h.1)

-- ---- a column by its name
pub named-at : (p : Settings) (xs : List Component) (name : List ℕ) (z : Component) → component_of name xs ≡ Some z → IsTyped p xs (column_named xs name)
named-at p xs name z e = subst (λ kind. IsColumnAt (place_of name xs) name kind xs) (sym (kind-found name xs z e)) (at-place name xs z e)

pub named-for : (p : Settings) (xs : List Component) (name : List ℕ) (z : Component) → component_of name xs ≡ Some z → IsFor p xs (column_named xs name) z
named-for p xs name z e = (named-at p xs name z e, kind-found name xs z e)

-- among more columns
pub named-before : (p : Settings) (xs more : List Component) (name : List ℕ) (z : Component) → component_of name xs ≡ Some z → IsFor p (xs ++ more) (column_named xs name) z
named-before p xs more name z e = (column-before xs more (place_of name xs) name (kind_named name xs) (named-at p xs name z e), kind-found name xs z e)

pub named-after : (p : Settings) (front xs : List Component) (name : List ℕ) (z : Component) → component_of name xs ≡ Some z → IsFor p (front ++ xs) (column_behind (length front) xs name) z
named-after p front xs name z e = (column-after front xs (place_of name xs) name (kind_named name xs) (named-at p xs name z e), kind-found name xs z e)
