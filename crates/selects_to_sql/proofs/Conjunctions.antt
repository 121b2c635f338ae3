-- Equalities, and conditions that hold together. What holds of a condition is carried on to those that are joined behind it.
use Rattle.std.proofs.Common.{◌≡◌, ◌≤◌, ◌+◌, ℕ, Bool, true, false, ◌&&◌, List, [], ◌∷◌, length, map, suc, Some, Ok, refl, ap, sym, ◌∙◌, arith, subst}
use Rattle.std.specs.List.{AllByRecursion, list_all}
use Rattle.vtl_cell.specs.Kinds.{is_null, is_of, kind_of}
use Rattle.vtl_cell.specs.Order.{same_cell}
use Rattle.vtl_cell.specs.Row.{Row}
use Rattle.vtl_cell.specs.ScalarKinds.{kinds_of}
use Rattle.vtl_decimal.specs.Settings.{Settings}
use Rattle.vtl_cell.specs.declared.cell.Cell.{Cell}
use Rattle.vtl_cell.specs.declared.cell.Cell.TheVariants as c
use Rattle.vtl_cell.specs.declared.kind.Kind.{Kind}
use Rattle.vtl_cell.specs.declared.kind.Kind.TheVariants as k
use Rattle.vtl_cell.specs.declared.operator.ScalarOp.TheVariants as op
use Rattle.vtl_tree.specs.CompExp.{CompExp}
use Rattle.vtl_tree.specs.Value.{called, value}
use Rattle.vtl_tree.specs.declared.structure.Component.{Component}
use Rattle.vtl_tree.specs.Kinds.{exp_kind}
use Rattle.vtl_meaning.specs.Made.{IsTyped}
use Rattle.vtl_tree.specs.Depths.{comp_depth}
use Rattle.expressions_to_sql.specs.Held.{HoldsValues}
use Rattle.expressions_to_sql.specs.ToSql.{Naming, to_sql}
use Rattle.selects_to_sql.specs.Writable.{CanBeWritten, most_joined}
use Rattle.selects_to_sql.specs.Items.{all_of, both_of}
use Rattle.selects_to_sql.specs.Queries.{both, conjunction, holds_always}
use Rattle.vtl_lists.specs.Balanced.{balanced, gathered}
use Rattle.vtl_lists.proofs.Balances.{balanced_gathered, balanced_kept, balanced_mapped, balanced_within}
use Rattle.selects_to_sql.proofs.Identifiers.{kind_is}

-- ---- equality of values that are there

equal_values : (p : Settings) (u v : Cell) → kind_of u ≡ kind_of v → is_null u ≡ false → called p k.Bool (Ok u ∷ Ok v ∷ []) op.Equal ≡ Ok (c.Bool (same_cell u v))
equal_values p (c.Bool x) (c.Bool y) e n = refl
equal_values p (c.Int x) (c.Int y) e n = refl
equal_values p (c.Num x) (c.Num y) e n = refl
equal_values p (c.Text x) (c.Text y) e n = refl
equal_values p (c.Day x) (c.Day y) e n = refl
equal_values p (c.Period x) (c.Period y) e n = refl
equal_values p u v e n = cc

pub equal_cells : (p : Settings) (kind : Kind) (u v : Cell) → is_of kind u ≡ true → is_of kind v ≡ true → is_null u ≡ false → is_null v ≡ false → called p k.Bool (Ok u ∷ Ok v ∷ []) op.Equal ≡ Ok (c.Bool (same_cell u v))
equal_cells p kind u v h i m n = equal_values p u v (kind_is kind u h m ∙ sym (kind_is kind v i n)) m

pub alike_kinds : (kind : Kind) → kinds_of op.Equal (kind ∷ kind ∷ []) ≡ Some k.Bool
alike_kinds k.Null = refl
alike_kinds k.Bool = refl
alike_kinds k.Int = refl
alike_kinds k.Num = refl
alike_kinds k.Text = refl
alike_kinds k.Day = refl
alike_kinds k.Period = refl

-- ---- both of two conditions

both_true : (p : Settings) (a b : Bool) → called p k.Bool (Ok (c.Bool a) ∷ Ok (c.Bool b) ∷ []) op.And ≡ Ok (c.Bool (a && b))
both_true p true true = refl
both_true p true false = refl
both_true p false true = refl
both_true p false false = refl

both_typed : (p : Settings) (xs : List Component) (e f : CompExp) → IsTyped p xs e → exp_kind e ≡ k.Bool → IsTyped p xs f → exp_kind f ≡ k.Bool → IsTyped p xs (both e f)
both_typed p xs e f typed boolean other_typed other_boolean =
    let first = ap (λ q. kinds_of op.And (q ∷ exp_kind f ∷ [])) boolean in
    let second = ap (λ q. kinds_of op.And (k.Bool ∷ q ∷ [])) other_boolean in
    (first ∙ second, (typed, (other_typed, tt)), refl)

both_value : (p : Settings) (r : Row) (e f : CompExp) (a b : Bool) → value p e r ≡ Ok (c.Bool a) → value p f r ≡ Ok (c.Bool b) → value p (both e f) r ≡ Ok (c.Bool (a && b))
both_value p r e f a b one other =
    ap (λ m. called p k.Bool (m ∷ value p f r ∷ []) op.And) one
    ∙ ap (λ m. called p k.Bool (Ok (c.Bool a) ∷ m ∷ []) op.And) other
    ∙ both_true p a b

-- ---- conditions joined to one

-- a boolean condition without parts that are deep
pub record IsPart (p : Settings) (xs : List Component) (e : CompExp) : Type 0 where
  pub typed : IsTyped p xs e
  pub boolean : exp_kind e ≡ k.Bool
  pub held : HoldsValues e
  pub flat : comp_depth e ≤ 2

-- each passes, in a list of all
each_part : (P Q : CompExp → Type 0) (es : List CompExp) → ((e : CompExp) → P e → Q e) → AllByRecursion P es → AllByRecursion Q es
each_part P Q [] f all = tt
each_part P Q (e ∷ es) f all = (f e all.0, each_part P Q es f all.1)

-- ---- conjunctions

module _ (p : Settings) (xs : List Component) where
  abbrev IsBoolean : CompExp → Type 0
  IsBoolean e = IsTyped p xs e × (exp_kind e ≡ k.Bool)

  conjunction_boolean : (es : List CompExp) → AllByRecursion (IsPart p xs) es → IsBoolean (conjunction es)
  conjunction_boolean es all =
      balanced_kept both IsBoolean (λ e f a b. (both_typed p xs e f a.0 a.1 b.0 b.1, refl)) holds_always es (tt, refl)
      (each_part (IsPart p xs) IsBoolean es (λ e part. (part.typed, part.boolean)) all)

  pub conjunction_kind : (es : List CompExp) → AllByRecursion (IsPart p xs) es → exp_kind (conjunction es) ≡ k.Bool
  conjunction_kind es all = (conjunction_boolean es all).1

  pub conjunction_typed : (es : List CompExp) → AllByRecursion (IsPart p xs) es → IsTyped p xs (conjunction es)
  conjunction_typed es all = (conjunction_boolean es all).0

  conjunction_held : (es : List CompExp) → AllByRecursion (IsPart p xs) es → HoldsValues (conjunction es)
  conjunction_held es all = balanced_kept both HoldsValues (λ e f a b. (a, (b, tt))) holds_always es tt (each_part (IsPart p xs) HoldsValues es (λ e part. part.held) all)

  deeper : (m : ℕ) (e f : CompExp) → comp_depth e ≤ m → comp_depth f ≤ m → comp_depth (both e f) ≤ suc m
  deeper m e f one other = omega (arith, one, other)

  conjunction_depth : (es : List CompExp) → AllByRecursion (IsPart p xs) es → length es ≤ most_joined → comp_depth (conjunction es) ≤ 10
  conjunction_depth es all few = balanced_within both (λ m e. comp_depth e ≤ m) (λ m n e less low. omega (arith, less, low)) deeper 8 2 holds_always es few (omega arith) (each_part (IsPart p xs) (λ e. comp_depth e ≤ 2) es (λ e part. part.flat) all)

  pub conjunction_written : (es : List CompExp) → AllByRecursion (IsPart p xs) es → length es ≤ most_joined → CanBeWritten (conjunction es)
  conjunction_written es all few = record { constants = conjunction_held es all; shallow = omega (arith, conjunction_depth es all few) }

-- what a condition for each item says together, where joining two keeps what they say
module _ {Z : Type 0} (Says : CompExp → Bool → Type 0) (kept : (e f : CompExp) (a b : Bool) → Says e a → Says f b → Says (both e f) (a && b)) (always : Says holds_always true) (e : Z → CompExp) (t : Z → Bool) where
  abbrev Said : Type 0
  Said = CompExp × Bool

  abbrev both_said : Said → Said → Said
  both_said a b = (both a.0 b.0, a.1 && b.1)

  abbrev IsSaid : Said → Type 0
  IsSaid a = Says a.0 a.1

  abbrev said : Z → Said
  said z = (e z, t z)

  each_said : (zs : List Z) → AllByRecursion (λ z. Says (e z) (t z)) zs → AllByRecursion IsSaid (map said zs)
  each_said [] all = tt
  each_said (z ∷ zs) all = (all.0, each_said zs all.1)

  firsts : (zs : List Z) → map (λ (a : Said). a.0) (map said zs) ≡ map e zs
  firsts [] = refl
  firsts (z ∷ zs) = ap (λ l. e z ∷ l) (firsts zs)

  seconds : (zs : List Z) → map (λ (a : Said). a.1) (map said zs) ≡ map t zs
  seconds [] = refl
  seconds (z ∷ zs) = ap (λ l. t z ∷ l) (seconds zs)

  all_hold : (zs : List Z) → gathered ◌&&◌ true (map t zs) ≡ list_all t zs
  all_hold [] = refl
  all_hold (z ∷ zs) = ap (λ b. t z && b) (all_hold zs)

  grouped : (a b d : Bool) → ((a && b) && d) ≡ (a && (b && d))
  grouped true b d = refl
  grouped false b d = refl

  last : (b : Bool) → (b && true) ≡ b
  last true = refl
  last false = refl

  pub conjunction_says : (zs : List Z) → AllByRecursion (λ z. Says (e z) (t z)) zs → Says (conjunction (map e zs)) (list_all t zs)
  conjunction_says zs all =
      let whole : Said = balanced both_said (holds_always, true) (map said zs) in
      let says : IsSaid whole = balanced_kept both_said IsSaid (λ a b one other. kept a.0 b.0 a.1 b.1 one other) (holds_always, true) (map said zs) always (each_said zs all) in
      let left : whole.0 ≡ conjunction (map e zs) = balanced_mapped both_said both (λ (a : Said). a.0) (λ a b. refl) (holds_always, true) (map said zs) ∙ ap (balanced both holds_always) (firsts zs) in
      let right : whole.1 ≡ list_all t zs =
      balanced_mapped both_said ◌&&◌ (λ (a : Said). a.1) (λ a b. refl) (holds_always, true) (map said zs) ∙ ap (balanced ◌&&◌ true) (seconds zs)
      ∙ balanced_gathered ◌&&◌ true grouped last (map t zs) ∙ all_hold zs in
      subst (λ x. Says x (list_all t zs)) left (subst (λ b. Says whole.0 b) right says)

-- what a condition for each item gives together
pub conjunction_value : {Z : Type 0} (p : Settings) (r : Row) (e : Z → CompExp) (t : Z → Bool) (zs : List Z) → AllByRecursion (λ z. value p (e z) r ≡ Ok (c.Bool (t z))) zs → value p (conjunction (map e zs)) r ≡ Ok (c.Bool (list_all t zs))
conjunction_value p r e t zs all = conjunction_says (λ x b. value p x r ≡ Ok (c.Bool b)) (both_value p r) refl e t zs all

-- it is written as all of what its conditions are written as
pub conjunction_to_sql : (p : Settings) (at : Naming) (es : List CompExp) → to_sql p at (conjunction es) ≡ all_of (map (to_sql p at) es)
conjunction_to_sql p at es = balanced_mapped both both_of (to_sql p at) (λ e f. refl) holds_always es
