-- The union of two operands: the points of the first, and behind them those of the second that are new.
use Rattle.std.proofs.Common.{◌≡◌, Bool, true, not, List, [], ◌∷◌, ◌++◌, length, get_or, sym, ap, ◌∙◌, arith}
use Rattle.std.specs.Borrow.{Bor}
use Rattle.std.specs.List.{filter, list_any}
use Rattle.std.proofs.lemmas.List.{append-nil}
use Rattle.vtl_lists.specs.Apart.{all_apart}
use Rattle.vtl_cell.specs.Row.{same_key}
use Rattle.vtl_tree.specs.DataSet.{IsDataSet}
use Rattle.vtl_tree.specs.Environment.{DataSet}
use Rattle.vtl_tree.specs.Shown.{shown}
use Rattle.vtl_tree.specs.Structure.{key_width}
use Rattle.vtl_tree.specs.declared.structure.Structure.{Structure}
use Rattle.vtl_tuples.specs.Keys.{each_once}
use Rattle.vtl_tuples.proofs.Lists.{filter_each}
use Rattle.vtl_tuples.proofs.Onces.{once_already, once_more}
use Rattle.vtl_meaning.specs.Made.{IsCombined}
use Rattle.vtl_meaning.specs.Operators.{left_of}
use Rattle.vtl_meaning.specs.Sets.{difference_of, has_point, union_of}
use Rattle.vtl_meaning.proofs.SetsKept.{first_shown, has_any, second_shown}

-- two lists, each with an item once
once_of_two : {X : Type 0} (same : X → X → Bool) (xs ys : List X) → all_apart same xs ≡ true → all_apart same ys ≡ true → each_once same (xs ++ ys) ≡ xs ++ filter (λ y. not (list_any (λ x. same x y) xs)) ys
once_of_two same xs ys e f = once_more same xs ys ∙ ap (λ l. l ++ filter (λ y. not (list_any (λ x. same x y) xs)) (each_once same ys)) (once_already same xs e) ∙ ap (λ l. xs ++ filter (λ y. not (list_any (λ x. same x y) xs)) l) (once_already same ys f)

pub united_with_reduced : (d e : DataSet) (s : Structure) → IsCombined d.structure (e.structure ∷ []) s → IsDataSet d.structure d.points → IsDataSet e.structure e.points → left_of d s ++ difference_of e d s ≡ union_of (d ∷ e ∷ []) s
united_with_reduced d e s i h k =
    let n = key_width s in
    let xs = left_of d s in
    let ys = left_of e s in
    ap (λ l. xs ++ l) (filter_each (λ y. not (has_point n xs y)) (λ y. not (list_any (λ x. same_key n x y) xs)) (λ y. ap not (has_any n xs y)) ys)
    ∙ sym (once_of_two (same_key n) xs ys (first_shown d e s i h k).distinct (second_shown d e s i h k).distinct)
    ∙ ap (λ l. each_once (same_key n) (xs ++ l)) (sym (append-nil ys))

-- a list of two operands
pub two_shown : (ds : List (Bor DataSet)) (d e : Bor DataSet) → length ds ≡ 2 → d ≡ get_or ds 0 d → e ≡ get_or ds 1 e → d.now ∷ e.now ∷ [] ≡ shown ds
two_shown [] d e n first second = absurd (omega (arith, n))
two_shown (x ∷ []) d e n first second = absurd (omega (arith, n))
two_shown (x ∷ y ∷ []) d e n first second = ap (λ (z : Bor DataSet). z.now ∷ e.now ∷ []) first ∙ ap (λ (z : Bor DataSet). x.now ∷ z.now ∷ []) second
two_shown (x ∷ y ∷ z ∷ ds) d e n first second = absurd (omega (arith, n))
