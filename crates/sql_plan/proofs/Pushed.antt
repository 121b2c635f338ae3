-- Entries that are put one behind the other, item by item, where each knows the place of its item.
use Rattle.std.proofs.Common.{◌≡◌, ℕ, suc, ◌+◌, ◌<◌, List, ◌∷◌, ◌++◌, drop, length, get_or, arith, append_assoc, sym, ap, ◌∙◌}
use Rattle.std.proofs.lemmas.List.{drop_more}

module _ {A E : Type 0} (one : ℕ → A → List E) (from : ℕ → List A → List E) (begins : (n : ℕ) (x : A) (xs : List A) → from n (x ∷ xs) ≡ one n x ++ from (suc n) xs) where
  -- one item more
  pub pushed_next : (i : ℕ) (xs : List A) (x : A) (now then all : List E) → i < length xs → x ≡ get_or xs i x → now ++ from i (drop i xs) ≡ all → then ≡ now ++ one i x → then ++ from (i + 1) (drop (i + 1) xs) ≡ all
  pushed_next i xs x now then all h at e is =
      let here : List E = one i x in
      let rest : List E = from (i + 1) (drop (i + 1) xs) in
      let n : suc i ≡ i + 1 = omega arith in
      let next : drop i xs ≡ x ∷ drop (i + 1) xs = drop_more xs i x h ∙ ap (λ y. y ∷ drop (i + 1) xs) (sym at) in
      let step : from i (drop i xs) ≡ here ++ rest = ap (from i) next ∙ begins i x (drop (i + 1) xs) ∙ ap (λ (m : ℕ). here ++ from m (drop (i + 1) xs)) n in
      ap (λ (l : List E). l ++ rest) is ∙ append_assoc now here rest ∙ ap (λ (l : List E). now ++ l) (sym step) ∙ e
