-- Items each once, where those that came are remembered by their names.
use Rattle.std.proofs.Common.{◌≡◌, ◌<◌, ◌+◌, ℕ, Bool, true, false, cond, ◌||◌, List, [], ◌∷◌, ◌++◌, get_or, length, refl, sym, ap, take, ◌∙◌}
use Rattle.std.specs.List.{list_any}
use Rattle.std.proofs.lemmas.Cmp.{nat_list_eq_equiv}
use Rattle.std.proofs.lemmas.List.{take_more}
use Rattle.vtl_text.specs.Texts.{same_text}
use Rattle.vtl_tree.specs.Structure.{same_name}
use Rattle.vtl_meaning.proofs.Places.{same_name-is}
use Rattle.vtl_tuples.specs.Keys.{and_once, each_once}
use Rattle.vtl_tuples.proofs.Onces.{once_one}
use Rattle.sql_tree.specs.Trees.{Text}

turned : (x : Text) (l : List Text) → list_any (λ y. same_name y x) l ≡ list_any (same_text x) l
turned x [] = refl
turned x (y ∷ l) = ap (λ b. b || list_any (λ z. same_name z x) l) (nat_list_eq_equiv.symm y x) ∙ ap (λ b. same_text x y || b) (turned x l)

alike : (i j k : Text) → same_name k i ≡ true → same_name k j ≡ same_name i j
alike i j k e = ap (λ z. same_name z j) (same_name-is k i e)

one_more : (xs : List Text) (i : ℕ) (x : Text) → i < length xs → x ≡ get_or xs i x → each_once same_name (take (i + 1) xs) ≡ and_once same_name (each_once same_name (take i xs)) x
one_more xs i x h at = ap (each_once same_name) (take_more xs i x h ∙ ap (λ (z : Text). take i xs ++ z ∷ []) (sym at)) ∙ once_one same_name alike (take i xs) x

module _ (xs once : List Text) (i : ℕ) (x : Text) (h : i < length xs) (at : x ≡ get_or xs i x) (so : once ≡ each_once same_name (take i xs)) where
  told : (b : Bool) → list_any (same_text x) once ≡ b → each_once same_name (take (i + 1) xs) ≡ cond b once (once ++ x ∷ [])
  told b e =
      one_more xs i x h at
      ∙ ap (λ (l : List Text). and_once same_name l x) (sym so)
      ∙ ap (λ c. cond c once (once ++ x ∷ [])) (turned x once ∙ e)

  -- a further item, which did not come before
  pub once_new : list_any (same_text x) once ≡ false → once ++ x ∷ [] ≡ each_once same_name (take (i + 1) xs)
  once_new e = sym (told false e)

  -- one that came
  pub once_old : list_any (same_text x) once ≡ true → once ≡ each_once same_name (take (i + 1) xs)
  once_old e = sym (told true e)
