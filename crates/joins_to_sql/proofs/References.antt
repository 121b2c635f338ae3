-- The place of the first structure whose identifiers contain those of all, from the one that is left where each gives way to the next
-- that it does not contain.
use Rattle.std.proofs.Common.{◌≡◌, ℕ, zero, suc, ◌<◌, ◌≤◌, true, false, not, List, [], ◌∷◌, inl, inr, length, get_or, sym, ap, ◌∙◌, arith}
use Rattle.std.specs.Borrow.{Bor}
use Rattle.std.specs.List.{position_or_len}
use Rattle.std.proofs.lemmas.Bool.{cases_lt, false≢true}
use Rattle.std.proofs.lemmas.List.Sums.{fails_before_first, passes_at_first, prefix_len-le-length}
use Rattle.vtl_tree.specs.Shown.{shown}
use Rattle.vtl_tree.specs.declared.structure.Structure.{Structure}
use Rattle.vtl_meaning.specs.Joined.{contains_all}

pub shown_at : (bs : List (Bor Structure)) (i : ℕ) (b : Bor Structure) → i < length bs → b ≡ get_or bs i b → b.now ≡ get_or (shown bs) i b.now
shown_at [] i b h e = absurd (omega (arith, h))
shown_at (x ∷ bs) zero b h e = ap (λ (y : Bor Structure). y.now) e
shown_at (x ∷ bs) (suc i) b h e = shown_at bs i b (omega (arith, h)) e

module _ (ss : List Structure) where
  abbrev place : ℕ
  place = position_or_len (contains_all ss) ss

  -- what contains all is the first that does, where it is left of all
  pub found : (left : ℕ) (a : Structure) → left < length ss → a ≡ get_or ss left a → (place < length ss → left ≡ place) → contains_all ss a ≡ true → left ≡ place
  found left a h is there all = elim (cases_lt place (length ss)) [
    | inl early ↦ there early
    | inr late ↦ absurd (false≢true (sym (ap (contains_all ss) is ∙ fails_before_first (contains_all ss) ss left a (omega (arith, late, h))) ∙ all))
  ]

  -- where what is left does not contain all, nothing does
  pub none : (left : ℕ) (a : Structure) → left < length ss → a ≡ get_or ss left a → (place < length ss → left ≡ place) → contains_all ss a ≡ false → length ss ≡ place
  none left a h is there fails = elim (cases_lt place (length ss)) [
    | inl early ↦ absurd (false≢true (sym fails ∙ ap (contains_all ss) (is ∙ ap (λ n. get_or ss n a) (there early)) ∙ passes_at_first (contains_all ss) ss a early))
    | inr late ↦ let most = prefix_len-le-length (λ x. not (contains_all ss x)) ss in omega (arith, late, most)
  ]

  -- where nothing is left, nothing does
  pub nowhere : (left : ℕ) → length ss ≤ left → (place < length ss → left ≡ place) → length ss ≡ place
  nowhere left h there = elim (cases_lt place (length ss)) [
    | inl early ↦ let same = there early in absurd (omega (arith, early, same, h))
    | inr late ↦ let most = prefix_len-le-length (λ x. not (contains_all ss x)) ss in omega (arith, late, most)
  ]
