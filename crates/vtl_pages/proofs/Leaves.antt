-- Values leave their blocks, the first one first.
use Rattle.std.proofs.Common.{◌≡◌, ℕ, zero, suc, ◌+◌, ◌-◌, ◌<◌, ◌≤◌, List, [], ◌∷◌, ◌++◌, length, get_or, set, replicate, reverse, Option, Some, None, refl, sym, ap, ◌∙◌, subst, arith, length-set}
use Rattle.std.proofs.lemmas.List.{get_or_append_left, set-append_left, replicate-append-replicate, reverse-append}
use Rattle.vtl_pages.specs.Joined.{joined, HaveSizes}
use Rattle.vtl_pages.specs.Laid.{laid, IsLaid}
use Rattle.vtl_pages.specs.Left.{leaving, IsLeaving}
use Rattle.vtl_pages.specs.Places.{values, IsFilled}
use Rattle.vtl_pages.specs.Stored.{block_size}
use Rattle.vtl_pages.proofs.Lays.{values-laid}

-- the first item of a list, and the others
pub first_of : {Y : Type 0} (ys : List Y) → 0 < length ys → (y : Y) × ((zs : List Y) × (ys ≡ y ∷ zs))
first_of [] lt = absurd (omega arith)
first_of (y ∷ ys) lt = (y, (ys, refl))

-- the last of some blocks is the first one when they are turned round
pub turned : {Y : Type 0} (all bs : List Y) (b : Y) → all ≡ bs ++ b ∷ [] → reverse all ≡ b ∷ reverse bs
turned all bs b e = ap reverse e ∙ reverse-append bs (b ∷ [])

module _ {X : Type 0} where
  values-leaving : (gone : ℕ) (ys : List X) (spare : ℕ) → values (leaving gone ys spare) ≡ ys
  values-leaving zero ys spare = values-laid ys spare
  values-leaving (suc gone) ys spare = values-leaving gone ys spare

  first_there : (gone : ℕ) (y : X) (ys : List X) (spare : ℕ) → get_or (leaving gone (y ∷ ys) spare) gone None ≡ Some y
  unfolding laid
  first_there zero y ys spare = refl
  first_there (suc gone) y ys spare = first_there gone y ys spare

  first_gone : (gone : ℕ) (y : X) (ys : List X) (spare : ℕ) → set (leaving gone (y ∷ ys) spare) gone None ≡ leaving (suc gone) ys spare
  unfolding laid
  first_gone zero y ys spare = refl
  first_gone (suc gone) y ys spare = ap (λ l. None ∷ l) (first_gone gone y ys spare)

  none_left : (gone spare : ℕ) → leaving {X = X} gone [] spare ≡ replicate (gone + spare) None
  unfolding laid
  none_left gone spare = replicate-append-replicate gone spare None

  -- a block whose values have all left is empty
  split : (b rest : List (Option X)) (ys : List X) (spare : ℕ) → b ++ rest ≡ leaving (length b) ys spare → (b ≡ replicate (length b) None) × (rest ≡ laid ys spare)
  split [] rest ys spare e = (refl, e)
  split (c ∷ b) rest ys spare e =
      let first : c ≡ None = cc in let others : b ++ rest ≡ leaving (length b) ys spare = cc in
      let tail = split b rest ys spare others in ((λ i. first i ∷ tail.0 i), tail.1)

  pub split_empty : (b rest : List (Option X)) (n : ℕ) → b ++ rest ≡ replicate n None → (b ≡ replicate (length b) None) × (rest ≡ replicate (n - length b) None)
  split_empty [] rest n e = let same : n - 0 ≡ n = omega arith in (refl, e ∙ ap (λ k. replicate k None) (sym same))
  split_empty (c ∷ b) rest zero e = absurd cc
  split_empty (c ∷ b) rest (suc n) e =
      let first : c ≡ None = cc in let others : b ++ rest ≡ replicate n None = cc in let less : suc n - suc (length b) ≡ n - length b = omega arith in
      let tail = split_empty b rest n others in ((λ i. first i ∷ tail.0 i), tail.1 ∙ ap (λ k. replicate k None) (sym less))

  even_sizes : (step : ℕ) (bs : List (List (Option X))) → HaveSizes (λ k. step) bs → HaveSizes (block_size step step) bs
  even_sizes step [] h = tt
  even_sizes step (b ∷ bs) h = h

  -- at first none has left
  pub none_gone : (bs : List (List (Option X))) (first step n : ℕ) → 0 < first → 0 < step → HaveSizes (block_size first step) bs → IsLaid (joined bs) n (length (joined bs)) → IsLeaving bs first step 0 n
  none_gone bs first step n some steps sized h =
      record { some = steps; within = some; sized = sized; count = h.count; places = (length (joined bs) - n, h.places) }

  module _ (b : List (Option X)) (rest : List (List (Option X))) (size step gone left : ℕ) (h : IsLeaving (b ∷ rest) size step gone left) (y : X) (ys : List X) (all : values (b ++ joined rest) ≡ y ∷ ys) where
    abbrev spare : ℕ
    spare = h.places.0

    before : b ++ joined rest ≡ leaving gone (y ∷ ys) spare
    before = h.places.1 ∙ ap (λ l. leaving gone l spare) all

    pub value_there : get_or b gone None ≡ Some y
    value_there = let long = h.sized.0 in let within = h.within in
        sym (get_or_append_left b (joined rest) None gone (omega arith)) ∙ ap (λ l. get_or l gone None) before ∙ first_there gone y ys spare

    after : (d : List (Option X)) → d ≡ set b gone None → d ++ joined rest ≡ leaving (suc gone) ys spare
    after d is = let long = h.sized.0 in let within = h.within in
        ap (λ l. l ++ joined rest) is ∙ sym (set-append_left b (joined rest) gone None (omega arith)) ∙ ap (λ l. set l gone None) before ∙ first_gone gone y ys spare

    less : left - 1 ≡ length ys
    less = let count = h.count in omega (arith, ap length all)

    -- a value has left, and the block has more places
    pub one_gone : (d : List (Option X)) → d ≡ set b gone None → gone + 1 < size → IsLeaving (d ∷ rest) size step (gone + 1) (left - 1) × (values (d ++ joined rest) ≡ ys)
    one_gone d is within =
        let next : suc gone ≡ gone + 1 = omega arith in
        let now = after d is ∙ ap (λ k. leaving k ys spare) next in let items : values (d ++ joined rest) ≡ ys = ap values now ∙ values-leaving (gone + 1) ys spare in
        (record { some = h.some; within = within; sized = (ap length is ∙ length-set b gone None ∙ h.sized.0, h.sized.1); count = less ∙ sym (ap length items); places = (spare, now ∙ ap (λ l. leaving (gone + 1) l spare) (sym items)) }, items)

    parts : (d : List (Option X)) → d ≡ set b gone None → size ≤ gone + 1 → (d ≡ replicate (length d) None) × (joined rest ≡ laid ys spare)
    parts d is last =
        let long = ap length is ∙ length-set b gone None ∙ h.sized.0 in let within = h.within in let whole : suc gone ≡ length d = omega arith in
        split d (joined rest) ys spare (after d is ∙ ap (λ k. leaving k ys spare) whole)

    pub block_empty : (d : List (Option X)) → d ≡ set b gone None → size ≤ gone + 1 → d ≡ replicate size None
    block_empty d is last = (parts d is last).0 ∙ ap (λ k. replicate k None) (ap length is ∙ length-set b gone None ∙ h.sized.0)

    -- a value has left, and the block is empty
    pub block_gone : (d : List (Option X)) → d ≡ set b gone None → size ≤ gone + 1 → IsLeaving rest step step 0 (left - 1) × (values (joined rest) ≡ ys)
    block_gone d is last =
        let now = (parts d is last).1 in let items : values (joined rest) ≡ ys = ap values now ∙ values-laid ys spare in
        (record { some = h.some; within = h.some; sized = even_sizes step rest h.sized.1; count = less ∙ sym (ap length items); places = (spare, now ∙ ap (λ l. laid l spare) (sym items)) }, items)

  -- a value leaves the last of some blocks, which is the first one when they are turned round
  module _ (all bs : List (List (Option X))) (b : List (Option X)) (size step gone left : ℕ) (xs : List X) (is : all ≡ bs ++ b ∷ []) (before : IsLeaving (reverse all) size step gone left) (seen : values (joined (reverse all)) ≡ xs) (some : 0 < length xs) where
    abbrev rest : List (List (Option X))
    rest = reverse bs

    abbrev y : X
    y = (first_of xs some).0

    abbrev ys : List X
    ys = (first_of xs some).1.0

    whole : xs ≡ y ∷ ys
    whole = (first_of xs some).1.1

    h : IsLeaving (b ∷ rest) size step gone left
    h = subst (λ l. IsLeaving l size step gone left) (turned all bs b is) before

    items : values (b ++ joined rest) ≡ y ∷ ys
    items = ap (λ (l : List (List (Option X))). values (joined l)) (sym (turned all bs b is)) ∙ seen ∙ whole

    pub filled : IsFilled b gone
    filled = (y, value_there b rest size step gone left h y ys items)

    pub one_less : 1 ≤ left
    one_less = let count = before.count in omega (arith, ap length seen)

    first_is : (v : X) → get_or b gone None ≡ Some v → y ≡ v
    first_is v e = let there = value_there b rest size step gone left h y ys items in cc

    pub stays : (cs : List (List (Option X))) (d : List (Option X)) (v : X) → cs ≡ bs ++ d ∷ [] → d ≡ set b gone None → get_or b gone None ≡ Some v → gone + 1 < size
        → IsLeaving (reverse cs) size step (gone + 1) (left - 1) × (xs ≡ v ∷ values (joined (reverse cs)))
    stays cs d v now taken value low =
        let after = one_gone b rest size step gone left h y ys items d taken low in let back = sym (turned cs bs d now) in
        (subst (λ l. IsLeaving l size step (gone + 1) (left - 1)) back after.0, whole ∙ (λ i. first_is v value i ∷ (sym after.1 ∙ ap (λ (l : List (List (Option X))). values (joined l)) back) i))

    pub freed : (d : List (Option X)) → d ≡ set b gone None → size ≤ gone + 1 → d ≡ replicate size None
    freed d taken last = block_empty b rest size step gone left h y ys items d taken last

    pub goes : (d : List (Option X)) (v : X) → d ≡ set b gone None → get_or b gone None ≡ Some v → size ≤ gone + 1 → IsLeaving (reverse bs) step step 0 (left - 1) × (xs ≡ v ∷ values (joined (reverse bs)))
    goes d v taken value last =
        let after = block_gone b rest size step gone left h y ys items d taken last in
        (after.0, whole ∙ (λ i. first_is v value i ∷ sym after.1 i))

  -- blocks whose values have all left are empty
  pub over : {bs : List (List (Option X))} {size step gone left : ℕ} → IsLeaving bs size step gone left → values (joined bs) ≡ [] → (n : ℕ) × (joined bs ≡ replicate n None)
  over {gone = gone} h none = (gone + h.places.0, h.places.1 ∙ ap (λ l. leaving gone l h.places.0) none ∙ none_left gone h.places.0)

  -- the last of some empty blocks, which is the first one when they are turned round
  pub next_empty : (all bs : List (List (Option X))) (b : List (Option X)) (size step n : ℕ) → all ≡ bs ++ b ∷ [] → HaveSizes (block_size size step) (reverse all) → joined (reverse all) ≡ replicate n None
      → (b ≡ replicate size None) × (HaveSizes (block_size step step) (reverse bs) × ((m : ℕ) × (joined (reverse bs) ≡ replicate m None)))
  next_empty all bs b size step n is sized empty =
      let order = turned all bs b is in
      let sizes = subst (HaveSizes (block_size size step)) order sized in
      let parts = split_empty b (joined (reverse bs)) n (ap (λ (l : List (List (Option X))). joined l) (sym order) ∙ empty) in
      (parts.0 ∙ ap (λ k. replicate k None) sizes.0, (even_sizes step (reverse bs) sizes.1, (n - length b, parts.1)))
