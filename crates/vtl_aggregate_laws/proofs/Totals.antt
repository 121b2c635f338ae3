-- Totals of lists of integers, and of what was appended.
use Rattle.std.proofs.Common.{◌≡◌, ℕ, zero, suc, pos, ℤ, true, List, [], ◌∷◌, ◌++◌, sym, ap, ◌∙◌}
use Rattle.std.specs.Prelude.{◌+ℤ◌, ◌*ℤ◌, ◌^◌}
use Rattle.std.specs.List.{fold, list_all}
use Rattle.std.proofs.Math.IntN.{*ℤ-zero, *ℤ_comm, +ℤ_assoc, +ℤ_comm, +ℤ_idl, +ℤ_idr, suc_ℤ-*ℤ, zero-*ℤ}
use Rattle.std.proofs.lemmas.List.Sums.{fold-append}
use Rattle.vtl_cell.specs.Groups.{is_integer, numbers_of, wholes_of}
use Rattle.vtl_cell.specs.declared.cell.Cell.{Cell}
use Rattle.vtl_cell.specs.declared.cell.Cell.TheVariants as c

abbrev pub total : List ℤ → ℤ
total ks = fold ◌+ℤ◌ (pos 0) ks

total_from : (a : ℤ) (ks : List ℤ) → fold ◌+ℤ◌ a ks ≡ a +ℤ total ks
total_from a [] = sym (+ℤ_idr a)
total_from a (k ∷ ks) =
    total_from (a +ℤ k) ks ∙ +ℤ_assoc a k (total ks) ∙ ap (λ z. a +ℤ (z +ℤ total ks)) (sym (+ℤ_idl k)) ∙ ap (λ z. a +ℤ z) (sym (total_from (pos 0 +ℤ k) ks))

pub total-append : (ks js : List ℤ) → total (ks ++ js) ≡ total ks +ℤ total js
total-append ks js = fold-append ◌+ℤ◌ (pos 0) ks js ∙ total_from (total ks) js

pub total-cons : (k : ℤ) (ks : List ℤ) → total (k ∷ ks) ≡ k +ℤ total ks
total-cons k ks = total_from (pos 0 +ℤ k) ks ∙ ap (λ z. z +ℤ total ks) (+ℤ_idl k)

times_more : (n : ℤ) (m : ℕ) → n *ℤ pos (suc m) ≡ (n *ℤ pos m) +ℤ n
times_more n m = *ℤ_comm n (pos (suc m)) ∙ suc_ℤ-*ℤ (pos m) n ∙ ap (λ z. z +ℤ n) (*ℤ_comm (pos m) n)

exchanged : (a b d e : ℤ) → (a +ℤ b) +ℤ (d +ℤ e) ≡ (a +ℤ d) +ℤ (b +ℤ e)
exchanged a b d e =
    +ℤ_assoc a b (d +ℤ e)
    ∙ ap (λ z. a +ℤ z) (sym (+ℤ_assoc b d e) ∙ ap (λ z. z +ℤ e) (+ℤ_comm b d) ∙ +ℤ_assoc d b e)
    ∙ sym (+ℤ_assoc a d (b +ℤ e))

distributed : (a n : ℤ) (m : ℕ) → (a *ℤ pos m) +ℤ (n *ℤ pos m) ≡ (a +ℤ n) *ℤ pos m
distributed a n zero = ap (λ z. z +ℤ (n *ℤ pos 0)) (*ℤ-zero a) ∙ ap (λ z. pos 0 +ℤ z) (*ℤ-zero n) ∙ sym (*ℤ-zero (a +ℤ n))
distributed a n (suc m) =
    ap (λ z. z +ℤ (n *ℤ pos (suc m))) (times_more a m)
    ∙ ap (λ z. ((a *ℤ pos m) +ℤ a) +ℤ z) (times_more n m)
    ∙ exchanged (a *ℤ pos m) a (n *ℤ pos m) n
    ∙ ap (λ z. z +ℤ (a +ℤ n)) (distributed a n m)
    ∙ sym (times_more (a +ℤ n) m)

-- of integers alone the total in units is that of the integers, in units
pub units_of_wholes : (s : ℕ) (xs : List Cell) → list_all is_integer xs ≡ true → total (numbers_of s xs) ≡ total (wholes_of xs) *ℤ pos (10 ^ s)
units_of_wholes s [] e = sym (zero-*ℤ (pos (10 ^ s)))
units_of_wholes s (c.Int n ∷ xs) e =
    total-cons (n *ℤ pos (10 ^ s)) (numbers_of s xs)
    ∙ ap (λ z. (n *ℤ pos (10 ^ s)) +ℤ z) (units_of_wholes s xs e)
    ∙ distributed n (total (wholes_of xs)) (10 ^ s)
    ∙ ap (λ z. z *ℤ pos (10 ^ s)) (sym (total-cons n (wholes_of xs)))
units_of_wholes s (c.Null ∷ xs) e = cc
units_of_wholes s (c.Bool b ∷ xs) e = cc
units_of_wholes s (c.Num k ∷ xs) e = cc
units_of_wholes s (c.Text t ∷ xs) e = cc
units_of_wholes s (c.Day d ∷ xs) e = cc
units_of_wholes s (c.Period q ∷ xs) e = cc
