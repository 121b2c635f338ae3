-- Values that are looked up among the members of a set.
use Rattle.std.proofs.Common.{◌≡◌, ◌⊎◌, inl, inr, ℕ, suc, zero, ◌+◌, ◌*◌, ◌^◌, ◌<◌, ◌≤◌, arith, ℤ, pos, negsuc, ◌*ℤ◌, ◌<ℤ◌, Bool, true, false, cond, List, [], ◌∷◌, ◌++◌, length, get_or, take, Option, Some, None, refl, sym, ap, subst, ◌∙◌, true≢false, append_assoc}
use Rattle.std.proofs.Math.IntN.{pos-*ℤ-pos, negsuc-*ℤ-pos}
use Rattle.std.proofs.Math.Nat.{one-le-pow, mul-le-mul_right}
use Rattle.std.proofs.lemmas.Bool.{cases_order, eqb-true}
use Rattle.std.proofs.lemmas.Int.{ints}
use Rattle.std.proofs.lemmas.List.{get_or_default, take_all, take_more}
use Rattle.std.proofs.lemmas.List.Elements.{All-from_recursion}
use Rattle.std.proofs.lemmas.List.Folds.{list_any_at, list_any_none}
use Rattle.std.proofs.lemmas.List.Sorted.{length_permutation, sorted_far, ranks_by}
use Rattle.std.specs.Cmp.{IsTotalOrder, upto, int_cmp_is, int_ranks}
use Rattle.std.specs.List.{All, AllByRecursion, list_all, list_any}
use Rattle.std.specs.List.Sorted.{IsPermutation, IsSorted}
use Rattle.std.specs.Option.{is_some, option_map}
use Rattle.std.specs.Ordering.{MatchOrdering, int_cmp, is_eq, is_gt, is_lt, ordering_reverse}
use Rattle.std.specs.Prelude.{◌||◌, ◌&&◌, ◌==◌, not, if◌then◌else◌}
use Rattle.std.specs.declared.cmp.Ordering.{Ordering}
use Rattle.std.specs.declared.cmp.Ordering.TheVariants.{Less, Equal, Greater}
use Rattle.vtl_cell.proofs.Orders.{cell_cmp_total, derived_is}
use Rattle.vtl_lists.proofs.Perms.{AllByRecursion-Perm, Perm-append, Perm-append_back, Perm-append_comm, Perm-from_IsPermutation, Perm-middle, Perm-same, length-Perm}
use Rattle.vtl_cell.specs.Kinds.{is_null}
use Rattle.vtl_cell.specs.Order.{cell_cmp, kind_rank}
use Rattle.vtl_lists.specs.Perm.{Perm, empty, keep, cross, chain}
use Rattle.vtl_cell.specs.ScalarArithmetic.{units}
use Rattle.vtl_cell.specs.ScalarComparison.{combined, compared, member_of, membership_of, order_of, order_within}
use Rattle.vtl_decimal.specs.Settings.{Settings}
use Rattle.vtl_cell.specs.contracts.cell.CellOrd.TheImpl.{cmp-value}
use Rattle.vtl_cell.specs.declared.cell.Cell.{Cell}
use Rattle.vtl_cell.specs.declared.cell.Cell.TheVariants as c
use Rattle.vtl_scalar.specs.Members.{AreInOrder, are_of_one_kind, is_of_one_kind}

-- ---- whether one of two holds, where both are known
abbrev pub either : Option Bool → Option Bool → Option Bool
either = combined (λ s t. s || t)

either_nothing : (m : Option Bool) → either (Some false) m ≡ m
either_nothing None = refl
either_nothing (Some b) = refl

either_none : (m : Option Bool) → either m None ≡ None
either_none None = refl
either_none (Some b) = refl

either_last : (m : Option Bool) → either m (Some false) ≡ m
either_last None = refl
either_last (Some true) = refl
either_last (Some false) = refl

either_assoc : (l m n : Option Bool) → either l (either m n) ≡ either (either l m) n
either_assoc None m n = refl
either_assoc (Some a) None n = refl
either_assoc (Some a) (Some b) None = refl
either_assoc (Some true) (Some b) (Some d) = refl
either_assoc (Some false) (Some b) (Some d) = refl

either_swap : (l m n : Option Bool) → either l (either m n) ≡ either m (either l n)
either_swap None None n = refl
either_swap None (Some b) n = refl
either_swap (Some a) None n = refl
either_swap (Some a) (Some b) None = refl
either_swap (Some true) (Some true) (Some d) = refl
either_swap (Some true) (Some false) (Some d) = refl
either_swap (Some false) (Some true) (Some d) = refl
either_swap (Some false) (Some false) (Some d) = refl

pub member_of_two : (p : Settings) (a x y : Cell) → member_of p a (x ∷ y ∷ []) ≡ either (compared is_eq p a x) (compared is_eq p a y)
member_of_two p a x y = ap (either (compared is_eq p a x)) (either_last (compared is_eq p a y))

pub member_of_append : (p : Settings) (a : Cell) (xs ys : List Cell) → member_of p a (xs ++ ys) ≡ either (member_of p a xs) (member_of p a ys)
member_of_append p a [] ys = sym (either_nothing (member_of p a ys))
member_of_append p a (x ∷ xs) ys = ap (either (compared is_eq p a x)) (member_of_append p a xs ys) ∙ either_assoc (compared is_eq p a x) (member_of p a xs) (member_of p a ys)

pub membership_of_some : (p : Settings) (a : Cell) (xs : List Cell) → 0 < length xs → membership_of p (a ∷ xs) ≡ member_of p a xs
membership_of_some p a [] h = absurd (omega (arith, h))
membership_of_some p a (x ∷ xs) h = refl

-- ---- sets do not see the order of their members
member_of_perm : (p : Settings) (a : Cell) {xs ys : List Cell} → Perm xs ys → member_of p a xs ≡ member_of p a ys
member_of_perm p a empty = refl
member_of_perm p a (keep x q) = ap (either (compared is_eq p a x)) (member_of_perm p a q)
member_of_perm p a (cross x y xs) = either_swap (compared is_eq p a x) (compared is_eq p a y) (member_of p a xs)
member_of_perm p a (chain q r) = member_of_perm p a q ∙ member_of_perm p a r

as_listed : (p : Settings) (a : Cell) {xs ys : List Cell} → Perm xs ys → membership_of p (a ∷ xs) ≡ membership_of p (a ∷ ys)
as_listed p a empty = refl
as_listed p a (keep x q) = ap (either (compared is_eq p a x)) (member_of_perm p a q)
as_listed p a (cross x y xs) = either_swap (compared is_eq p a x) (compared is_eq p a y) (member_of p a xs)
as_listed p a (chain q r) = as_listed p a q ∙ as_listed p a r

pub membership_of_perm : (p : Settings) (a : Cell) (xs ys : List Cell) → Perm xs ys → membership_of p (a ∷ xs) ≡ membership_of p (a ∷ ys)
membership_of_perm p a xs ys q = as_listed p a q

-- ---- integers beside numbers: both in units
times_less : (u : ℕ) → 0 < u → (a b : ℤ) → a <ℤ b → (a *ℤ pos u) <ℤ (b *ℤ pos u)
times_less u h (pos a) (pos b) l =
    let below : a + 1 ≤ b = omega (arith, ints, l) in
    let grown : (a + 1) * u ≤ b * u = mul-le-mul_right u below in
    rw (pos-*ℤ-pos a u, pos-*ℤ-pos b u) (omega (arith, ints, grown, h))
times_less u h (pos a) (negsuc b) l = absurd (omega (arith, ints, l))
times_less u h (negsuc a) (pos b) l =
    let grown : 1 * u ≤ suc a * u = mul-le-mul_right u (omega arith) in
    rw (negsuc-*ℤ-pos a u, pos-*ℤ-pos b u) (omega (arith, ints, grown, h))
times_less u h (negsuc a) (negsuc b) l =
    let below : suc b + 1 ≤ suc a = omega (arith, ints, l) in
    let grown : (suc b + 1) * u ≤ suc a * u = mul-le-mul_right u below in
    rw (negsuc-*ℤ-pos a u, negsuc-*ℤ-pos b u) (omega (arith, ints, grown, h))

times_order : (u : ℕ) → 0 < u → (a b : ℤ) (o : Ordering) → MatchOrdering o (a <ℤ b) (a ≡ b) (b <ℤ a) → MatchOrdering o ((a *ℤ pos u) <ℤ (b *ℤ pos u)) (a *ℤ pos u ≡ b *ℤ pos u) ((b *ℤ pos u) <ℤ (a *ℤ pos u))
times_order u h a b Less l = times_less u h a b l
times_order u h a b Equal e = ap (λ x. x *ℤ pos u) e
times_order u h a b Greater l = times_less u h b a l

units_order : (p : Settings) (a b : ℤ) → int_cmp (units p a) (units p b) ≡ int_cmp a b
units_order p a b = sym (int_cmp_is (units p a) (units p b) (int_cmp a b) (times_order (10 ^ p.scale) (one-le-pow p.scale 10 (omega arith)) a b (int_cmp a b) (int_ranks a b)))

abbrev in_units : Settings → Cell → Cell
in_units p (c.Int n) = c.Num (units p n)
in_units p v = v

order_is : (p : Settings) (a x : Cell) → order_of p a x ≡ order_within (in_units p a) (in_units p x)
order_is p (c.Int n) (c.Int m) = ap Some (sym (units_order p n m))
order_is p (c.Int n) (c.Num k) = refl
order_is p (c.Num k) (c.Int n) = refl
order_is p (c.Num k) (c.Num l) = refl
order_is p (c.Int n) x = refl
order_is p (c.Num k) x = refl
order_is p a (c.Int n) = refl
order_is p a (c.Num k) = refl
order_is p a x = refl

units_within : (p : Settings) (x y : Cell) → kind_rank x ≡ kind_rank y → cell_cmp (in_units p x) (in_units p y) ≡ cell_cmp x y
units_within p (c.Int n) (c.Int m) same = units_order p n m
units_within p (c.Int n) y same = absurd (omega (arith, same))
units_within p x (c.Int m) same = absurd (omega (arith, same))
units_within p x y same = refl

abbrev unit_rank : ℕ → ℕ
unit_rank n = cond (n == 2) 3 n

rank_is : (p : Settings) (x : Cell) → kind_rank (in_units p x) ≡ unit_rank (kind_rank x)
rank_is p c.Null = refl
rank_is p (c.Bool b) = refl
rank_is p (c.Int n) = refl
rank_is p (c.Num k) = refl
rank_is p (c.Text t) = refl
rank_is p (c.Day d) = refl
rank_is p (c.Period q) = refl

units_rank : (p : Settings) (x y : Cell) → kind_rank x ≡ kind_rank y → kind_rank (in_units p x) ≡ kind_rank (in_units p y)
units_rank p x y same = rank_is p x ∙ ap unit_rank same ∙ sym (rank_is p y)

-- ---- below a lesser one, and above a greater one
module _ {K : Type 0} {R : K → K → Ordering} (o : IsTotalOrder R) where
  reversed : (r : Ordering) → is_gt (ordering_reverse r) ≡ is_lt r
  reversed Less = refl
  reversed Equal = refl
  reversed Greater = refl

  turned : (x y : K) → is_gt (R x y) ≡ is_lt (R y x)
  turned x y = ap is_gt (o.antisymm x y) ∙ reversed (R y x)

  gt_is : (r : Ordering) → is_gt r ≡ true → r ≡ Greater
  gt_is Less e = cc
  gt_is Equal e = cc
  gt_is Greater e = refl

  lt_is : (r : Ordering) → is_lt r ≡ true → r ≡ Less
  lt_is Less e = refl
  lt_is Equal e = cc
  lt_is Greater e = cc

  greater_before : (a x y : K) → is_lt (R y x) ≡ false → R a y ≡ Greater → R a x ≡ Greater
  greater_before a x y up e = gt_is (R a x) (go (is_gt (R a x)) refl)
    where
      go : (b : Bool) → is_gt (R a x) ≡ b → is_gt (R a x) ≡ true
      go true f = f
      go false f = absurd (true≢false (sym (ap is_gt e) ∙ upto o a x y f (turned x y ∙ up)))

  less_after : (a x y : K) → is_lt (R y x) ≡ false → R a x ≡ Less → R a y ≡ Less
  less_after a x y up e = lt_is (R a y) (go (is_lt (R a y)) refl)
    where
      go : (b : Bool) → is_lt (R a y) ≡ b → is_lt (R a y) ≡ true
      go true f = f
      go false f = absurd (true≢false (sym (ap is_lt e) ∙ sym (turned x a) ∙ upto o x y a (turned x y ∙ up) (turned y a ∙ f)))

some_is : (b : Bool) (o r : Ordering) → (if b then Some o else None) ≡ Some r → (b ≡ true) × (o ≡ r)
some_is true o r e = (refl, cc)
some_is false o r e = cc

some_when : (b : Bool) (o r : Ordering) → b ≡ true → o ≡ r → (if b then Some o else None) ≡ Some r
some_when b o r e h = rw (e, h) refl

is_some_if : (b : Bool) (o : Ordering) → is_some (if b then Some o else None) ≡ b
is_some_if true o = refl
is_some_if false o = refl

-- whether a value has an order with one of a kind
abbrev has_order : Cell → ℕ → Bool
has_order a rank = not (is_null a) && (kind_rank a == rank)

within_greater : (a x y : Cell) → kind_rank x ≡ kind_rank y → is_lt (cell_cmp y x) ≡ false → order_within a y ≡ Some Greater → order_within a x ≡ Some Greater
within_greater a x y same up e =
    let there = some_is (has_order a (kind_rank y)) (cell_cmp a y) Greater e in
    some_when (has_order a (kind_rank x)) (cell_cmp a x) Greater (ap (has_order a) same ∙ there.0) (greater_before cell_cmp_total a x y up there.1)

within_less : (a x y : Cell) → kind_rank x ≡ kind_rank y → is_lt (cell_cmp y x) ≡ false → order_within a x ≡ Some Less → order_within a y ≡ Some Less
within_less a x y same up e =
    let there = some_is (has_order a (kind_rank x)) (cell_cmp a x) Less e in
    some_when (has_order a (kind_rank y)) (cell_cmp a y) Less (ap (has_order a) (sym same) ∙ there.0) (less_after cell_cmp_total a x y up there.1)

module _ (p : Settings) (a : Cell) where
  abbrev order : Cell → Option Ordering
  order x = order_of p a x

  order_greater : (x y : Cell) → kind_rank x ≡ kind_rank y → is_lt (cell_cmp y x) ≡ false → order y ≡ Some Greater → order x ≡ Some Greater
  order_greater x y same up e =
      order_is p a x
      ∙ within_greater (in_units p a) (in_units p x) (in_units p y) (units_rank p x y same) (ap is_lt (units_within p y x (sym same)) ∙ up) (sym (order_is p a y) ∙ e)

  order_less : (x y : Cell) → kind_rank x ≡ kind_rank y → is_lt (cell_cmp y x) ≡ false → order x ≡ Some Less → order y ≡ Some Less
  order_less x y same up e =
      order_is p a y
      ∙ within_less (in_units p a) (in_units p x) (in_units p y) (units_rank p x y same) (ap is_lt (units_within p y x (sym same)) ∙ up) (sym (order_is p a x) ∙ e)

  order_alike : (x y : Cell) → kind_rank x ≡ kind_rank y → is_some (order x) ≡ is_some (order y)
  order_alike x y same =
      let b = in_units p a in let v = in_units p x in let w = in_units p y in
      ap is_some (order_is p a x) ∙ is_some_if (has_order b (kind_rank v)) (cell_cmp b v)
      ∙ ap (has_order b) (units_rank p x y same)
      ∙ sym (is_some_if (has_order b (kind_rank w)) (cell_cmp b w)) ∙ sym (ap is_some (order_is p a y))

  -- ---- what is asked of all members
  abbrev equals : Option Ordering → Bool
  equals (Some o) = is_eq o
  equals None = false

  member_step : (o : Option Ordering) (m : Option Bool) (t : Bool) → is_some o ≡ true → m ≡ Some t → either (option_map is_eq o) m ≡ Some (equals o || t)
  member_step (Some o) m t s e = ap (either (Some (is_eq o))) e
  member_step None m t s e = cc

  member_of_all : (xs : List Cell) → All (λ x. is_some (order x) ≡ true) xs → member_of p a xs ≡ Some (list_any (λ x. equals (order x)) xs)
  member_of_all [] all = refl
  member_of_all (x ∷ xs) all =
      member_step (order x) (member_of p a xs) (list_any (λ y. equals (order y)) xs) (all 0 x (omega arith)) (member_of_all xs (λ k d h. all (suc k) d (omega (arith, h))))

  pub member_of_none : (xs : List Cell) (k : ℕ) (d : Cell) → k < length xs → None ≡ order (get_or xs k d) → None ≡ member_of p a xs
  member_of_none [] k d h e = absurd (omega (arith, h))
  member_of_none (x ∷ xs) zero d h e = ap (λ o. either (option_map is_eq o) (member_of p a xs)) e
  member_of_none (x ∷ xs) (suc k) d h e = sym (either_none (compared is_eq p a x)) ∙ ap (either (compared is_eq p a x)) (member_of_none xs k d (omega (arith, h)) e)

  -- ---- by halves
  abbrev pub AreBelow : List Cell → ℕ → Type 0
  AreBelow xs low = (k : ℕ) (d : Cell) → k < low → k < length xs → order (get_or xs k d) ≡ Some Greater

  abbrev pub AreAbove : List Cell → ℕ → Type 0
  AreAbove xs high = (k : ℕ) (d : Cell) → high ≤ k → k < length xs → order (get_or xs k d) ≡ Some Less

  module _ (xs : List Cell) (o : AreInOrder xs) (i : ℕ) (x : Cell) (within : i < length xs) (at : x ≡ get_or xs i x) where
    at_any : (d : Cell) → x ≡ get_or xs i d
    at_any d = at ∙ get_or_default xs i x d within

    up : (j k : ℕ) (d : Cell) → j ≤ k → k < length xs → is_lt (cell_cmp (get_or xs k d) (get_or xs j d)) ≡ false
    up j k d h l = sorted_far (λ b e. is_lt (cell_cmp b e)) (ranks_by cell_cmp_total (λ b. b)) xs o.rises j k d h l

    pub below_more : Some Greater ≡ order x → AreBelow xs (i + 1)
    below_more e k d h l =
        order_greater (get_or xs k d) (get_or xs i d) (o.one_kind k i d l within) (up k i d (omega (arith, h)) within) (ap order (sym (at_any d)) ∙ sym e)

    pub above_more : Some Less ≡ order x → AreAbove xs i
    above_more e k d h l =
        order_less (get_or xs i d) (get_or xs k d) (o.one_kind i k d within l) (up i k d h l) (ap order (sym (at_any d)) ∙ sym e)

    pub found : Some Equal ≡ order x → Some true ≡ member_of p a xs
    found e =
        let here : (d : Cell) → order (get_or xs i d) ≡ Some Equal = λ d. ap order (sym (at_any d)) ∙ sym e in
        let all : All (λ y. is_some (order y) ≡ true) xs = λ k d l. order_alike (get_or xs k d) (get_or xs i d) (o.one_kind k i d l within) ∙ ap is_some (here d) in
        ap Some (sym (list_any_at (λ y. equals (order y)) xs i x within (ap equals (here x)))) ∙ sym (member_of_all xs all)

    pub unknown : None ≡ order x → None ≡ member_of p a xs
    unknown e = member_of_none xs i x within (e ∙ ap order at)

  known : (o : Option Ordering) → (o ≡ Some Less) ⊎ (o ≡ Some Greater) → is_some o ≡ true
  known o (inl e) = ap is_some e
  known o (inr e) = ap is_some e

  unequal : (o : Option Ordering) → (o ≡ Some Less) ⊎ (o ≡ Some Greater) → equals o ≡ false
  unequal o (inl e) = ap equals e
  unequal o (inr e) = ap equals e

  pub missed : (xs : List Cell) (low high : ℕ) → high ≤ low → AreBelow xs low → AreAbove xs high → Some false ≡ member_of p a xs
  missed xs low high h below above =
      sym (member_of_all xs (λ k d l. known (order (get_or xs k d)) (side k d l))
      ∙ ap Some (list_any_none (λ y. equals (order y)) xs (λ k d l. unequal (order (get_or xs k d)) (side k d l))))
    where
      side : (k : ℕ) (d : Cell) → k < length xs → (order (get_or xs k d) ≡ Some Less) ⊎ (order (get_or xs k d) ≡ Some Greater)
      side k d l =
          elim (cases_order k low) [
            | inl e ↦ inl (above k d (omega (arith, e, h)) l)
            | inr s ↦ elim s [
              | inl less ↦ inr (below k d less l)
              | inr more ↦ inl (above k d (omega (arith, more, h)) l)
            ]
          ]

-- ---- cells that a sort leaves in order
one_kind_of : (x : Cell) (xs : List Cell) → list_all (is_of_one_kind x) xs ≡ true → AllByRecursion (λ y. kind_rank y ≡ kind_rank x) xs
one_kind_of x [] all = tt
one_kind_of x (y ∷ ys) all =
    let both = and_parts (is_of_one_kind x y) (list_all (is_of_one_kind x) ys) all in
    (sym (eqb-true (kind_rank x) (kind_rank y) both.0), one_kind_of x ys both.1)
  where
    and_parts : (s t : Bool) → (s && t) ≡ true → (s ≡ true) × (t ≡ true)
    and_parts true t e = (refl, e)
    and_parts false t e = cc

kinds_listed : (rank : ℕ) (xs : List Cell) → AllByRecursion (λ y. kind_rank y ≡ rank) xs → (i j : ℕ) (d : Cell) → i < length xs → j < length xs → kind_rank (get_or xs i d) ≡ kind_rank (get_or xs j d)
kinds_listed rank xs all i j d h k =
    let each : All (λ y. kind_rank y ≡ rank) xs = All-from_recursion (λ y. kind_rank y ≡ rank) xs all in
    each i d h ∙ sym (each j d k)

in_order : (xs ys : List Cell) → are_of_one_kind xs ≡ true → IsPermutation xs ys → IsSorted cell_cmp ys → AreInOrder ys
in_order [] ys alike moved rising = record {
  one_kind = λ i j d h k. absurd (omega (arith, h, length_permutation [] ys moved));
  rises = rising;
}
in_order (x ∷ xs) ys alike moved rising = record {
  one_kind = kinds_listed (kind_rank x) ys (AllByRecursion-Perm (λ y. kind_rank y ≡ kind_rank x) (Perm-from_IsPermutation (x ∷ xs) ys moved) (one_kind_of x (x ∷ xs) alike));
  rises = rising;
}

pub sorted_in_order : (xs ys : List Cell) → are_of_one_kind xs ≡ true → IsPermutation xs ys → IsSorted cmp-value.it ys → AreInOrder ys
sorted_in_order xs ys alike moved rising = in_order xs ys alike moved (subst (λ compare. IsSorted compare ys) derived_is rising)

pub one_kind_by_first : (cells : List Cell) (x : Cell) → 1 ≤ length cells → x ≡ get_or cells 0 x → list_all (is_of_one_kind x) cells ≡ are_of_one_kind cells
one_kind_by_first [] x h at = absurd (omega (arith, h))
one_kind_by_first (y ∷ ys) x h at = ap (λ z. list_all (is_of_one_kind z) (y ∷ ys)) at

-- ---- members in two lists
first_more : (integers others done new : List Cell) (x y : Cell) → new ≡ integers ++ x ∷ [] → x ≡ y → Perm (integers ++ others) done → Perm (new ++ others) (done ++ y ∷ [])
first_more integers others done new x y grown same before =
    chain (Perm-same (new ++ others) (integers ++ x ∷ others) (ap (λ l. l ++ others) grown ∙ append_assoc integers (x ∷ []) others))
    (chain (Perm-middle integers x others)
    (chain (keep x before)
    (chain (Perm-append_comm (x ∷ []) done) (Perm-same (done ++ x ∷ []) (done ++ y ∷ []) (ap (λ z. done ++ z ∷ []) same)))))

second_more : (integers others done new : List Cell) (x y : Cell) → new ≡ others ++ x ∷ [] → x ≡ y → Perm (integers ++ others) done → Perm (integers ++ new) (done ++ y ∷ [])
second_more integers others done new x y grown same before =
    chain (Perm-same (integers ++ new) ((integers ++ others) ++ x ∷ []) (ap (λ l. integers ++ l) grown ∙ sym (append_assoc integers others (x ∷ []))))
    (chain (Perm-append_back (x ∷ []) before) (Perm-same (done ++ x ∷ []) (done ++ y ∷ []) (ap (λ z. done ++ z ∷ []) same)))

module _ (integers others listed : List Cell) (i : ℕ) (x y : Cell) (within : i < length listed) (at : y ≡ get_or listed i y) (same : x ≡ y) (before : Perm (integers ++ others) (take i listed)) (new_integers new_others : List Cell) where
  one_longer : Perm (take i listed ++ get_or listed i y ∷ []) (take (i + 1) listed)
  one_longer = Perm-same (take i listed ++ get_or listed i y ∷ []) (take (i + 1) listed) (sym (take_more listed i y within))

  pub put_first : new_integers ≡ integers ++ x ∷ [] → new_others ≡ others → Perm (new_integers ++ new_others) (take (i + 1) listed)
  put_first grown kept =
      chain (Perm-same (new_integers ++ new_others) (new_integers ++ others) (ap (λ l. new_integers ++ l) kept))
      (chain (first_more integers others (take i listed) new_integers x (get_or listed i y) grown (same ∙ at) before) one_longer)

  pub put_second : new_others ≡ others ++ x ∷ [] → new_integers ≡ integers → Perm (new_integers ++ new_others) (take (i + 1) listed)
  put_second grown kept =
      chain (Perm-same (new_integers ++ new_others) (integers ++ new_others) (ap (λ l. l ++ new_others) kept))
      (chain (second_more integers others (take i listed) new_others x (get_or listed i y) grown (same ∙ at) before) one_longer)

pub runs_of : (integers others run_1 run_2 listed : List Cell) (i : ℕ) → length listed ≤ i → Perm run_1 integers → Perm run_2 others → Perm (integers ++ others) (take i listed) → Perm (run_1 ++ run_2) listed
runs_of integers others run_1 run_2 listed i h p q r = chain (Perm-append p q) (chain r (Perm-same (take i listed) listed (take_all i listed h)))

pub some_moved : (xs ys : List Cell) → Perm xs ys → 0 < length ys → 0 < length xs
some_moved xs ys moved h = omega (arith, h, length-Perm moved)

module _ (p : Settings) (a : Cell) (integers others whole : List Cell) (view : integers ++ others ≡ whole) (some : 0 < length (integers ++ others)) where
  in_either : membership_of p (a ∷ whole) ≡ either (member_of p a integers) (member_of p a others)
  in_either = ap (λ l. membership_of p (a ∷ l)) (sym view) ∙ membership_of_some p a (integers ++ others) some ∙ member_of_append p a integers others

  pub unknown_in_first : None ≡ member_of p a integers → None ≡ membership_of p (a ∷ whole)
  unknown_in_first e = ap (λ m. either m (member_of p a others)) e ∙ sym in_either

  pub unknown_in_second : None ≡ member_of p a others → None ≡ membership_of p (a ∷ whole)
  unknown_in_second e = sym (either_none (member_of p a integers)) ∙ ap (either (member_of p a integers)) e ∙ sym in_either

  known_in_both : (s t : Bool) → Some s ≡ member_of p a integers → Some t ≡ member_of p a others → Some (s || t) ≡ membership_of p (a ∷ whole)
  known_in_both s t e f = ap (λ m. either m (Some t)) e ∙ ap (either (member_of p a integers)) f ∙ sym in_either

  pub found_in_first : (s t : Bool) → Some s ≡ member_of p a integers → Some t ≡ member_of p a others → s ≡ true → Some s ≡ membership_of p (a ∷ whole)
  found_in_first true t e f h = known_in_both true t e f
  found_in_first false t e f h = cc

  pub only_in_second : (s t : Bool) → Some s ≡ member_of p a integers → Some t ≡ member_of p a others → s ≡ false → Some t ≡ membership_of p (a ∷ whole)
  only_in_second true t e f h = cc
  only_in_second false t e f h = known_in_both false t e f
