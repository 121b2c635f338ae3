-- The right side of a rule, item by item.
use Rattle.std.proofs.Common.{◌≡◌, ℕ, zero, suc, ◌<◌, ◌≤◌, List, [], ◌∷◌, drop, get_or, length, map, min, Result, Ok, Err, refl, sym, ap, ◌∙◌, arith}
use Rattle.std.specs.Result.{IsErr}
use Rattle.vtl_decimal.specs.Settings.{Settings}
use Rattle.vtl_decimal.specs.declared.number.Fault.{Fault}
use Rattle.vtl_decimal.specs.declared.number.Fault.TheVariants.{DivZero, Range}
use Rattle.vtl_cell.specs.Outcome.{Outcome}
use Rattle.vtl_cell.specs.Outcomes.{result_of}
use Rattle.vtl_cell.specs.Row.{Row}
use Rattle.vtl_cell.specs.declared.cell.Cell.{Cell}
use Rattle.vtl_cell.specs.declared.kind.Kind.{Kind}
use Rattle.vtl_scalar.specs.Answers.{Answers}
use Rattle.vtl_scalar.specs.declared.error.ScalarErr.{ScalarErr}
use Rattle.vtl_scalar.specs.declared.error.ScalarErr.TheVariants as err
use Rattle.vtl_syntax.specs.declared.parts.SignedComp.{SignedComp}
use Rattle.vtl_syntax.specs.declared.word_groups.Mode.{Mode}
use Rattle.vtl_rulings.specs.Modes.{Found, counted}
use Rattle.vtl_rulings.specs.Sides.{next_values, sign_op}

-- an answer that tells of a fault tells of it elsewhere
pub passed_on : (r : Result Cell ScalarErr) → IsErr r → (m n : Outcome Cell) → ((f : Fault) → m ≡ Err f → n ≡ Err f) → Answers r m → Answers r n
passed_on (Ok v) e m n h a = cc
passed_on (Err err.DivZero) e m n h a = h DivZero a
passed_on (Err err.Range) e m n h a = h Range a
passed_on (Err err.OutOfMemory) e m n h a = tt

module _ (p : Settings) (m : Mode) (kind : Kind) where
  -- behind a fault nothing is evaluated
  pub faulted : (f : Fault) (xs : List SignedComp) (vs : Row) → next_values p kind (Err f) xs vs ≡ Err f
  faulted f [] vs = refl
  faulted f (x ∷ xs) [] = refl
  faulted f (x ∷ xs) (v ∷ vs) = faulted f xs vs

  one_more : (t : Cell) (i : ℕ) (xs : List SignedComp) (fs : List Found) (x : SignedComp) (f : Found) → i < length xs → i < length fs → x ≡ get_or xs i x → f ≡ get_or fs i f
      → next_values p kind (Ok t) (drop i xs) (map (counted m kind) (drop i fs)) ≡ next_values p kind (result_of p (sign_op x.sign) kind (t ∷ counted m kind f ∷ [])) (drop (suc i) xs) (map (counted m kind) (drop (suc i) fs))
  one_more t i [] fs x f h l at is = absurd (omega (arith, h))
  one_more t i (y ∷ xs) [] x f h l at is = absurd (omega (arith, l))
  one_more t zero (y ∷ xs) (g ∷ fs) x f h l at is =
      ap (λ (z : SignedComp). next_values p kind (result_of p (sign_op z.sign) kind (t ∷ counted m kind g ∷ [])) xs (map (counted m kind) fs)) (sym at)
      ∙ ap (λ v. next_values p kind (result_of p (sign_op x.sign) kind (t ∷ counted m kind v ∷ [])) xs (map (counted m kind) fs)) (sym is)
  one_more t (suc i) (y ∷ xs) (g ∷ fs) x f h l at is = one_more t i xs fs x f (omega (arith, h)) (omega (arith, l)) at is

  -- one item more
  module _ (t : Cell) (i : ℕ) (xs : List SignedComp) (fs : List Found) (x : SignedComp) (f : Found) (whole : Outcome Cell) (h : i < length xs) (l : i < length fs) (at : x ≡ get_or xs i x) (is : f ≡ get_or fs i f)
      (so_far : next_values p kind (Ok t) (drop i xs) (map (counted m kind) (drop i fs)) ≡ whole) where
    pub total_fails : (g : Fault) → result_of p (sign_op x.sign) kind (t ∷ counted m kind f ∷ []) ≡ Err g → whole ≡ Err g
    total_fails g e =
        sym so_far ∙ one_more t i xs fs x f h l at is ∙ ap (λ o. next_values p kind o (drop (suc i) xs) (map (counted m kind) (drop (suc i) fs))) e ∙ faulted g (drop (suc i) xs) (map (counted m kind) (drop (suc i) fs))

  -- past the last
  pub ended : (t : Outcome Cell) (i : ℕ) (xs : List SignedComp) (fs : List Found) → min (length xs) (length fs) ≤ i → next_values p kind t (drop i xs) (map (counted m kind) (drop i fs)) ≡ t
  ended t zero [] fs h = refl
  ended t (suc i) [] fs h = refl
  ended t zero (x ∷ xs) [] h = refl
  ended t (suc i) (x ∷ xs) [] h = none (drop i xs)
    where
      none : (ys : List SignedComp) → next_values p kind t ys [] ≡ t
      none [] = refl
      none (y ∷ ys) = refl
  ended t zero (x ∷ xs) (f ∷ fs) h = absurd (omega (arith, h))
  ended t (suc i) (x ∷ xs) (f ∷ fs) h = ended t i xs fs (omega (arith, h))
