-- Tables that are those of data sets.
use Rattle.std.proofs.Common.{◌≡◌, ℕ, zero, suc, ◌<◌, Bool, true, false, ◌||◌, List, [], ◌∷◌, map, take, drop, length, set, slice_get, Option, None, Some, refl, sym, ap, ◌∙◌, subst, arith}
use Rattle.std.specs.List.{list_any}
use Rattle.vtl_lists.proofs.Tests.{or_true}
use Rattle.vtl_cell.specs.Outcome.{Outcome}
use Rattle.vtl_rows.specs.Tables.{Listed}
use Rattle.vtl_tree.specs.Environment.{DataSet}
use Rattle.vtl_tree.specs.Structure.{same_name}
use Rattle.vtl_tree.specs.Trees.{NodeTree}
use Rattle.vtl_check.specs.Names.{names_in}
use Rattle.vtl_scripts.specs.Meaning.{Statement}
use Rattle.rerun_laws.specs.Depends.{reads_one}
use Rattle.vtl_rerun.specs.Operands.{held_at}
use Rattle.vtl_rerun.specs.Sessions.{AreClosed, AreHeld, AreKept, IsClosed, IsKept, gone_with}

-- ---- kept
pub kept_long : (vs : List (Outcome DataSet)) (rs : List (Option Listed)) → AreKept vs rs → length vs ≡ length rs
kept_long [] [] k = refl
kept_long [] (r ∷ rs) k = absurd k
kept_long (v ∷ vs) [] k = absurd k
kept_long (v ∷ vs) (r ∷ rs) k = ap suc (kept_long vs rs k.1)

pub kept_set : (i : ℕ) (vs : List (Outcome DataSet)) (rs : List (Option Listed)) (v : Outcome DataSet) (t : Listed) → AreKept vs rs → slice_get vs i ≡ Some v → IsKept v (Some t) → AreKept vs (set rs i (Some t))
kept_set i [] rs v t k e one = cc
kept_set i (w ∷ vs) [] v t k e one = absurd k
kept_set zero (w ∷ vs) (r ∷ rs) v t k e one = let s : v ≡ w = cc in (subst (λ x. IsKept x (Some t)) s one, k.1)
kept_set (suc i) (w ∷ vs) (r ∷ rs) v t k e one = (k.0, kept_set i vs rs v t k.1 e one)

pub kept_none : {X : Type 0} (vs : List (Outcome DataSet)) (xs : List X) → length vs ≡ length xs → AreKept vs (map (λ x. None) xs)
kept_none [] [] e = tt
kept_none [] (x ∷ xs) e = cc
kept_none (v ∷ vs) [] e = cc
kept_none (v ∷ vs) (x ∷ xs) e = (tt, kept_none vs xs (omega (arith, e)))

-- ---- closed
-- each of some names is one of others
abbrev pub Covers : List (List ℕ) → List (List ℕ) → Type 0
Covers few names = (q : List ℕ) → list_any (same_name q) few ≡ true → list_any (same_name q) names ≡ true

pub covers_more : (name : List ℕ) (few names : List (List ℕ)) → Covers few names → Covers (name ∷ few) (name ∷ names)
covers_more name few names covers q h = go (same_name q name) h
  where
    go : (b : Bool) → (b || list_any (same_name q) few) ≡ true → (b || list_any (same_name q) names) ≡ true
    go true e = refl
    go false e = covers q e

pub covers_behind : (name : List ℕ) (few names : List (List ℕ)) → Covers few names → Covers few (name ∷ names)
covers_behind name few names covers q h = go (same_name q name)
  where
    go : (b : Bool) → (b || list_any (same_name q) names) ≡ true
    go true = refl
    go false = covers q h

covers_with : (s : Statement) (r : Option Listed) (few names : List (List ℕ)) → Covers few names → Covers (gone_with s.result r few) (gone_with s.result r names)
covers_with s None few names covers = covers_more s.result few names covers
covers_with s (Some t) few names covers = covers

any_step : (a b c d : Bool) → (a ≡ true → b ≡ true) → (c ≡ true → d ≡ true) → (a || c) ≡ true → (b || d) ≡ true
any_step true b c d f g h = ap (λ x. x || d) (f refl)
any_step false b c d f g h = ap (λ x. b || x) (g h) ∙ or_true b

any_more : (p q : List ℕ → Bool) (xs : List (List ℕ)) → ((x : List ℕ) → p x ≡ true → q x ≡ true) → list_any p xs ≡ true → list_any q xs ≡ true
any_more p q [] more h = h
any_more p q (x ∷ xs) more h = any_step (p x) (q x) (list_any p xs) (list_any q xs) (more x) (any_more p q xs more) h

pub reads_more : (few names : List (List ℕ)) (n : NodeTree) → Covers few names → reads_one few n ≡ true → reads_one names n ≡ true
reads_more few names n covers h = any_more (λ q. list_any (same_name q) few) (λ q. list_any (same_name q) names) (names_in n) covers h

pub reads_fewer : (few names : List (List ℕ)) (n : NodeTree) → Covers few names → reads_one names n ≡ false → reads_one few n ≡ false
reads_fewer few names n covers h = go (reads_one few n) refl
  where
    go : (b : Bool) → reads_one few n ≡ b → reads_one few n ≡ false
    go true e = let d : true ≡ false = sym (reads_more few names n covers e) ∙ h in cc
    go false e = e

pub closed_fewer : (few names : List (List ℕ)) (ss : List Statement) (rs : List (Option Listed)) → Covers few names → AreClosed names ss rs → AreClosed few ss rs
closed_fewer few names [] [] covers c = tt
closed_fewer few names [] (r ∷ rs) covers c = absurd c
closed_fewer few names (s ∷ ss) [] covers c = absurd c
closed_fewer few names (s ∷ ss) (r ∷ rs) covers c = (one r c.0, closed_fewer (gone_with s.result r few) (gone_with s.result r names) ss rs (covers_with s r few names covers) c.1)
  where
    one : (r : Option Listed) → IsClosed names s r → IsClosed few s r
    one None h = tt
    one (Some t) h = reads_fewer few names s.node covers h

pub none_gone : (n : NodeTree) → reads_one [] n ≡ false
none_gone n = go (names_in n)
  where
    go : (xs : List (List ℕ)) → list_any (λ q. list_any (same_name q) []) xs ≡ false
    go [] = refl
    go (x ∷ xs) = go xs

nothing_gone : (names : List (List ℕ)) → Covers [] names
nothing_gone names q h = cc

pub closed_set : (i : ℕ) (ss : List Statement) (rs : List (Option Listed)) (t : Listed) → AreHeld (take i rs) → AreClosed [] ss rs → AreClosed [] ss (set rs i (Some t))
closed_set i [] [] t held c = go i
  where
    go : (i : ℕ) → AreClosed [] [] (set [] i (Some t))
    go zero = tt
    go (suc i) = tt
closed_set i [] (r ∷ rs) t held c = absurd c
closed_set i (s ∷ ss) [] t held c = absurd c
closed_set zero (s ∷ ss) (r ∷ rs) t held c = (none_gone s.node, closed_fewer [] (gone_with s.result r []) ss rs (nothing_gone (gone_with s.result r [])) c.1)
closed_set (suc i) (s ∷ ss) (None ∷ rs) t held c = cc (held.0)
closed_set (suc i) (s ∷ ss) (Some u ∷ rs) t held c = (c.0, closed_set i ss rs t held.1 c.1)

pub closed_none : {X : Type 0} (gone : List (List ℕ)) (ss : List Statement) (xs : List X) → length ss ≡ length xs → AreClosed gone ss (map (λ x. None) xs)
closed_none gone [] [] e = tt
closed_none gone [] (x ∷ xs) e = cc
closed_none gone (s ∷ ss) [] e = cc
closed_none gone (s ∷ ss) (x ∷ xs) e = (tt, closed_none (s.result ∷ gone) ss xs (omega (arith, e)))

-- ---- held
pub held_set : (i : ℕ) (rs : List (Option Listed)) (t : Listed) → i < length rs → AreHeld (take i rs) → AreHeld (take (suc i) (set rs i (Some t)))
held_set i [] t h held = absurd (omega (arith, h))
held_set zero (r ∷ rs) t h held = (refl, tt)
held_set (suc i) (r ∷ rs) t h held = (held.0, held_set i rs t (omega (arith, h)) held.1)

pub held_next : (i : ℕ) (rs : List (Option Listed)) (t : Listed) → held_at rs i ≡ Some t → AreHeld (take i rs) → AreHeld (take (suc i) rs)
held_next i [] t e held = cc
held_next zero (None ∷ rs) t e held = cc
held_next zero (Some u ∷ rs) t e held = (refl, tt)
held_next (suc i) (r ∷ rs) t e held = (held.0, held_next i rs t e held.1)

pub held_whole : (n : ℕ) (rs : List (Option Listed)) → n ≡ length rs → AreHeld (take n rs) → AreHeld rs
held_whole n [] e held = tt
held_whole zero (r ∷ rs) e held = cc
held_whole (suc n) (r ∷ rs) e held = (held.0, held_whole n rs (omega (arith, e)) held.1)

pub left_set : (i : ℕ) (rs : List (Option Listed)) (r : Option Listed) → drop (suc i) (set rs i r) ≡ drop (suc i) rs
left_set i [] r = go i
  where
    go : (i : ℕ) → drop (suc i) (set [] i r) ≡ drop (suc i) []
    go zero = refl
    go (suc i) = refl
left_set zero (x ∷ rs) r = refl
left_set (suc i) (x ∷ rs) r = left_set i rs r

drop_suc : {X : Type 0} (i : ℕ) (xs : List X) → drop (suc i) xs ≡ drop 1 (drop i xs)
drop_suc zero [] = refl
drop_suc zero (x ∷ xs) = refl
drop_suc (suc i) [] = refl
drop_suc (suc i) (x ∷ xs) = drop_suc i xs

pub left_next : {X : Type 0} (i : ℕ) (xs ys : List X) → drop i xs ≡ drop i ys → drop (suc i) xs ≡ drop (suc i) ys
left_next i xs ys e = drop_suc i xs ∙ ap (drop 1) e ∙ sym (drop_suc i ys)

pub long_set : (i : ℕ) (rs : List (Option Listed)) (r : Option Listed) → length (set rs i r) ≡ length rs
long_set i [] r = go i
  where
    go : (i : ℕ) → length (set [] i r) ≡ 0
    go zero = refl
    go (suc i) = refl
long_set zero (x ∷ rs) r = refl
long_set (suc i) (x ∷ rs) r = ap suc (long_set i rs r)

first_held : List (Option Listed) → Option Listed
first_held [] = None
first_held (r ∷ rs) = r

held_first : (i : ℕ) (rs : List (Option Listed)) → held_at rs i ≡ first_held (drop i rs)
unfolding first_held
held_first zero [] = refl
held_first zero (r ∷ rs) = refl
held_first (suc i) [] = refl
held_first (suc i) (r ∷ rs) = held_first i rs

-- what is held now at a place was held there, where what is left is as it was
pub held_then : (i : ℕ) (now old : List (Option Listed)) → drop i now ≡ drop i old → held_at now i ≡ held_at old i
held_then i now old e = held_first i now ∙ ap first_held e ∙ sym (held_first i old)
