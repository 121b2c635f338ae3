-- What the column at a place depends on.
use Rattle.std.specs.Prelude.{slice_index_or}
use Rattle.std.proofs.Common.{◌≡◌, ℕ, zero, suc, ◌+◌, ◌-◌, ◌<◌, ◌≤◌, List, [], ◌∷◌, ◌++◌, append_assoc, length, length-append, map, refl, sym, ap, ◌∙◌, arith}
use Rattle.std.specs.Borrow.{Bor}
use Rattle.std.proofs.lemmas.List.{length-map}
use Rattle.vtl_tree.specs.Columns.{identifiers_of, others_of}
use Rattle.vtl_tree.specs.Shown.{shown}
use Rattle.vtl_tree.specs.Structure.{columns_of, key_width}
use Rattle.vtl_tree.specs.declared.structure.Structure.{Structure}
use Rattle.vtl_meaning.proofs.Places.{columns_split}
use Rattle.vtl_tree.specs.declared.structure.Component.{Component}
use Rattle.vtl_lineage.specs.Numbers.{Numbers, each_alone, run}

abbrev pub with_nothing : List Component → List Numbers → List Numbers
with_nothing xs others = map (λ x. []) xs ++ others

pub at_identifier : (xs : List Component) (others : List Numbers) (i : ℕ) → i < length xs → slice_index_or (with_nothing xs others) i [] ≡ []
at_identifier [] others i h = absurd (omega (arith, h))
at_identifier (x ∷ xs) others zero h = refl
at_identifier (x ∷ xs) others (suc i) h = at_identifier xs others i (omega (arith, h))

-- within a list the item that stands for none doesn't matter; past its end it is what is found
within : (others : List Numbers) (i : ℕ) (d e : Numbers) → i < length others → slice_index_or others i d ≡ slice_index_or others i e
within [] i d e h = absurd (omega (arith, h))
within (o ∷ others) zero d e h = refl
within (o ∷ others) (suc i) d e h = within others i d e (omega (arith, h))

past : (others : List Numbers) (i : ℕ) → length others ≤ i → slice_index_or others i [] ≡ []
past [] i h = refl
past (o ∷ others) zero h = absurd (omega (arith, h))
past (o ∷ others) (suc i) h = past others i (omega (arith, h))

pub at_other : (xs : List Component) (others : List Numbers) (i : ℕ) (d : Numbers) → length xs ≤ i → i - length xs < length others → slice_index_or (with_nothing xs others) i [] ≡ slice_index_or others (i - length xs) d
at_other [] others i d h k =
    let e : i ≡ i - 0 = omega arith in within others i [] d (omega (arith, k)) ∙ ap (λ n. slice_index_or others n d) e
at_other (x ∷ xs) others zero d h k = absurd (omega (arith, h))
at_other (x ∷ xs) others (suc i) d h k =
    let e : i - length xs ≡ suc i - suc (length xs) = omega arith in
    at_other xs others i d (omega (arith, h)) (omega (arith, k)) ∙ ap (λ n. slice_index_or others n d) e

pub at_none : (xs : List Component) (others : List Numbers) (i : ℕ) → length xs ≤ i → length others ≤ i - length xs → slice_index_or (with_nothing xs others) i [] ≡ []
at_none [] others i h k = past others i (omega (arith, k))
at_none (x ∷ xs) others zero h k = absurd (omega (arith, h))
at_none (x ∷ xs) others (suc i) h k = at_none xs others i (omega (arith, h)) (omega (arith, k))

-- ---- how many columns there are
pub columns_parts : (s : Structure) (xs : List (Bor Component)) → shown xs ≡ columns_of s → length xs ≡ key_width s + length (others_of s)
columns_parts s xs e = sym (length-map xs (λ x. x.now)) ∙ ap length (e ∙ columns_split s) ∙ length-append (identifiers_of s) (others_of s)

-- ---- numbers in a row
pub run_next : (first count i : ℕ) → i < count → run (first + i) (count - i) ≡ (first + i) ∷ run (first + (i + 1)) (count - (i + 1))
run_next first count i h =
    let e : count - i ≡ suc (count - (i + 1)) = omega (arith, h) in
    let f : suc (first + i) ≡ first + (i + 1) = omega arith in
    ap (run (first + i)) e ∙ ap (λ n. (first + i) ∷ run n (count - (i + 1))) f

pub run_ends : (n count i : ℕ) → count ≤ i → run n (count - i) ≡ []
run_ends n count i h = let e : count - i ≡ 0 = omega (arith, h) in ap (run n) e

pub run_step : (out : Numbers) (first count i : ℕ) → i < count → out ++ run (first + i) (count - i) ≡ (out ++ (first + i) ∷ []) ++ run (first + (i + 1)) (count - (i + 1))
run_step out first count i h =
    ap (λ l. out ++ l) (run_next first count i h) ∙ sym (append_assoc out ((first + i) ∷ []) (run (first + (i + 1)) (count - (i + 1))))

pub alone_step : (out : List Numbers) (first count i : ℕ) → i < count → out ++ each_alone (run (first + i) (count - i)) ≡ (out ++ ((first + i) ∷ []) ∷ []) ++ each_alone (run (first + (i + 1)) (count - (i + 1)))
alone_step out first count i h =
    ap (λ l. out ++ each_alone l) (run_next first count i h) ∙ sym (append_assoc out (((first + i) ∷ []) ∷ []) (each_alone (run (first + (i + 1)) (count - (i + 1)))))
