-- What is left of results where an input is replaced.
use Rattle.std.proofs.Common.{◌≡◌, ℕ, suc, Bool, true, false, cond, not, ◌||◌, MatchBool, List, [], ◌∷◌, length, Option, None, Some, refl, sym, ap, ◌∙◌, subst, arith}
use Rattle.std.specs.List.{list_any}
use Rattle.vtl_cell.specs.Outcome.{Outcome}
use Rattle.vtl_rows.specs.Tables.{Listed}
use Rattle.vtl_tree.specs.Environment.{DataSet}
use Rattle.vtl_tree.specs.Structure.{same_name}
use Rattle.vtl_tree.specs.Trees.{NodeTree}
use Rattle.vtl_check.specs.Names.{names_in}
use Rattle.vtl_check.specs.Transformations.{Transformation}
use Rattle.vtl_scripts.specs.Meaning.{Statement}
use Rattle.vtl_backend.specs.Statements.{with_nodes}
use Rattle.rerun_laws.specs.Depends.{dependents, is_one, reads_one}
use Rattle.rerun_laws.specs.Refreshes.{numbers_of}
use Rattle.rerun_laws.specs.Values.{AreSameBut}
use Rattle.vtl_rerun.specs.Sessions.{AreClosed, AreKept, IsKept, gone_with}
use Rattle.vtl_rerun.proofs.Numbers.{Rise, Trims, at_head, none_below, rise_from, skipped, trims_alike}
use Rattle.vtl_rerun.proofs.Results.{Covers, covers_behind, covers_more, reads_more}

-- those that read nothing that is gone, or whose result went before
abbrev pub left_one : List (List ℕ) → Statement → Option Listed → Option Listed
left_one gone s r = cond (reads_one gone s.node) None r

abbrev pub left_over : List (List ℕ) → List Statement → List (Option Listed) → List (Option Listed)
left_over gone (s ∷ ss) (r ∷ rs) = left_one gone s r ∷ left_over (gone_with s.result (left_one gone s r) gone) ss rs
left_over gone ss rs = rs

pub left_long : (gone : List (List ℕ)) (ss : List Statement) (rs : List (Option Listed)) → length (left_over gone ss rs) ≡ length rs
left_long gone [] rs = refl
left_long gone (s ∷ ss) [] = refl
left_long gone (s ∷ ss) (r ∷ rs) = ap suc (left_long (gone_with s.result (left_one gone s r) gone) ss rs)

-- ---- what is left is as it was meant
pub kept_left : (names gone : List (List ℕ)) (ss : List Statement) (vs ws : List (Outcome DataSet)) (rs : List (Option Listed)) → Covers names gone → AreSameBut names ss vs ws → AreKept vs rs → AreKept ws (left_over gone ss rs)
kept_left names gone [] [] [] rs covers same k = k
kept_left names gone [] [] (w ∷ ws) rs covers same k = absurd same
kept_left names gone [] (v ∷ vs) ws rs covers same k = absurd same
kept_left names gone (s ∷ ss) [] ws rs covers same k = absurd same
kept_left names gone (s ∷ ss) (v ∷ vs) [] rs covers same k = absurd same
kept_left names gone (s ∷ ss) (v ∷ vs) (w ∷ ws) [] covers same k = absurd k
kept_left names gone (s ∷ ss) (v ∷ vs) (w ∷ ws) (r ∷ rs) covers same k = go (λ few more c h. kept_left few more ss vs ws rs c h k.1) (reads_one gone s.node) refl (reads_one names s.node) refl same
  where
    go : ((few more : List (List ℕ)) → Covers few more → AreSameBut few ss vs ws → AreKept ws (left_over more ss rs)) → (b : Bool) → reads_one gone s.node ≡ b → (c : Bool) → reads_one names s.node ≡ c → MatchBool c (AreSameBut (s.result ∷ names) ss vs ws) ((v ≡ w) × AreSameBut names ss vs ws)
        → AreKept (w ∷ ws) (cond b None r ∷ left_over (gone_with s.result (cond b None r) gone) ss rs)
    go ih true e true f same = (tt, ih (s.result ∷ names) (s.result ∷ gone) (covers_more s.result names gone covers) same)
    go ih true e false f same = (tt, ih names (s.result ∷ gone) (covers_behind s.result names gone covers) same.1)
    go ih false e true f same = let d : false ≡ true = sym e ∙ reads_more names gone s.node covers f in cc
    go ih false e false f same = (subst (λ x. IsKept x r) same.0 k.0, ih names (gone_with s.result r gone) (wider r) same.1)
      where
        wider : (r : Option Listed) → Covers names (gone_with s.result r gone)
        wider None = covers_behind s.result names gone covers
        wider (Some t) = covers

-- ---- and reads nothing that is gone
pub closed_left : (gone : List (List ℕ)) (ss : List Statement) (rs : List (Option Listed)) → length ss ≡ length rs → AreClosed gone ss (left_over gone ss rs)
closed_left gone [] [] e = tt
closed_left gone [] (r ∷ rs) e = cc
closed_left gone (s ∷ ss) [] e = cc
closed_left gone (s ∷ ss) (r ∷ rs) e = go (λ more. closed_left more ss rs (omega (arith, e))) (reads_one gone s.node) refl r
  where
    go : ((more : List (List ℕ)) → AreClosed more ss (left_over more ss rs)) → (b : Bool) → reads_one gone s.node ≡ b → (r : Option Listed) → AreClosed gone (s ∷ ss) (cond b None r ∷ left_over (gone_with s.result (cond b None r) gone) ss rs)
    go ih true f r = (tt, ih (s.result ∷ gone))
    go ih false f None = (tt, ih (s.result ∷ gone))
    go ih false f (Some t) = (f, ih gone)

-- ---- which are fresh
pub dependents_rise : (b : ℕ) (names : List (List ℕ)) (ts : List Transformation) (ns : List NodeTree) → Rise b (numbers_of ts) → Rise b (dependents names ts ns)
dependents_rise b names [] ns r = tt
dependents_rise b names (t ∷ ts) [] r = tt
dependents_rise b names (t ∷ ts) (n ∷ ns) r = go (λ more. dependents_rise (suc t.number) more ts ns r.1) (reads_one names n)
  where
    go : ((more : List (List ℕ)) → Rise (suc t.number) (dependents more ts ns)) → (c : Bool) → Rise b (cond c (t.number ∷ dependents (t.name ∷ names) ts ns) (dependents names ts ns))
    go ih true = (r.0, ih (t.name ∷ names))
    go ih false = rise_from b (suc t.number) (dependents names ts ns) (omega (arith, r.0)) (ih names)

-- what is gone is what was gone before, or these names
abbrev pub Splits : (gone before names : List (List ℕ)) → Type 0
Splits gone before names = (q : List ℕ) → list_any (same_name q) gone ≡ (list_any (same_name q) before || list_any (same_name q) names)

split_step : (a b c x y z : Bool) → a ≡ (b || c) → (b || y) ≡ false → (y ≡ false → x ≡ z) → (a || x) ≡ (c || z)
split_step a true c x y z e h f = cc
split_step a false c x y z e h f = ap (λ w. w || x) e ∙ ap (λ w. c || w) (f h)

any_split : (gone before names xs : List (List ℕ)) → Splits gone before names → list_any (λ q. list_any (same_name q) before) xs ≡ false → list_any (λ q. list_any (same_name q) gone) xs ≡ list_any (λ q. list_any (same_name q) names) xs
any_split gone before names [] splits h = refl
any_split gone before names (x ∷ xs) splits h =
    split_step (list_any (same_name x) gone) (list_any (same_name x) before) (list_any (same_name x) names) (list_any (λ q. list_any (same_name q) gone) xs) (list_any (λ q. list_any (same_name q) before) xs) (list_any (λ q. list_any (same_name q) names) xs)
    (splits x) h (any_split gone before names xs splits)

reads_split : (gone before names : List (List ℕ)) (n : NodeTree) → Splits gone before names → reads_one before n ≡ false → reads_one gone n ≡ reads_one names n
reads_split gone before names n splits h = any_split gone before names (names_in n) splits h

splits_both : (name : List ℕ) (gone before names : List (List ℕ)) → Splits gone before names → Splits (name ∷ gone) (name ∷ before) (name ∷ names)
splits_both name gone before names splits q = go (same_name q name)
  where
    go : (b : Bool) → (b || list_any (same_name q) gone) ≡ ((b || list_any (same_name q) before) || (b || list_any (same_name q) names))
    go true = refl
    go false = splits q

splits_before : (name : List ℕ) (gone before names : List (List ℕ)) → Splits gone before names → Splits (name ∷ gone) (name ∷ before) names
splits_before name gone before names splits q = go (same_name q name)
  where
    go : (b : Bool) → (b || list_any (same_name q) gone) ≡ ((b || list_any (same_name q) before) || list_any (same_name q) names)
    go true = refl
    go false = splits q

splits_names : (name : List ℕ) (gone before names : List (List ℕ)) → Splits gone before names → Splits (name ∷ gone) before (name ∷ names)
splits_names name gone before names splits q = go (same_name q name) (list_any (same_name q) before) refl
  where
    go : (b c : Bool) → list_any (same_name q) before ≡ c → (b || list_any (same_name q) gone) ≡ (list_any (same_name q) before || (b || list_any (same_name q) names))
    go true true e = ap (λ c. c || true) (sym e)
    go true false e = ap (λ c. c || true) (sym e)
    go false c e = splits q

pub trims_left : (b : ℕ) (gone before names : List (List ℕ)) (ts : List Transformation) (ns : List NodeTree) (rs : List (Option Listed)) → Rise b (numbers_of ts) → length ts ≡ length ns → length ts ≡ length rs → Splits gone before names → AreClosed before (with_nodes ts ns) rs
    → Trims (λ j. not (is_one j (dependents names ts ns))) (numbers_of ts) rs (left_over gone (with_nodes ts ns) rs)
trims_left b gone before names [] ns [] r e f splits c = tt
trims_left b gone before names [] ns (x ∷ rs) r e f splits c = cc
trims_left b gone before names (t ∷ ts) [] rs r e f splits c = cc
trims_left b gone before names (t ∷ ts) (n ∷ ns) [] r e f splits c = cc
trims_left b gone before names (t ∷ ts) (n ∷ ns) (None ∷ rs) r e f splits c =
    at (λ more first few s k. trims_left (suc t.number) more first few ts ns rs r.1 (omega (arith, e)) (omega (arith, f)) s k) (reads_one gone n) (reads_one names n)
  where
    at : ((more first few : List (List ℕ)) → Splits more first few → AreClosed first (with_nodes ts ns) rs → Trims (λ j. not (is_one j (dependents few ts ns))) (numbers_of ts) rs (left_over more (with_nodes ts ns) rs))
        → (x d : Bool) → Trims (λ j. not (is_one j (cond d (t.number ∷ dependents (t.name ∷ names) ts ns) (dependents names ts ns)))) (t.number ∷ numbers_of ts) (None ∷ rs) (cond x None None ∷ left_over (gone_with t.name (cond x None None) gone) (with_nodes ts ns) rs)
    at ih true true = (
      refl,
      trims_alike (λ j. not (is_one j (dependents (t.name ∷ names) ts ns))) (λ j. not (is_one j (t.number ∷ dependents (t.name ∷ names) ts ns))) (suc t.number) (numbers_of ts) rs (left_over (t.name ∷ gone) (with_nodes ts ns) rs)
          (λ j h. ap not (sym (skipped j t.number (dependents (t.name ∷ names) ts ns) h))) r.1 (ih (t.name ∷ gone) (t.name ∷ before) (t.name ∷ names) (splits_both t.name gone before names splits) c.1),
    )
    at ih true false = (refl, ih (t.name ∷ gone) (t.name ∷ before) names (splits_before t.name gone before names splits) c.1)
    at ih false true = (
      refl,
      trims_alike (λ j. not (is_one j (dependents (t.name ∷ names) ts ns))) (λ j. not (is_one j (t.number ∷ dependents (t.name ∷ names) ts ns))) (suc t.number) (numbers_of ts) rs (left_over (t.name ∷ gone) (with_nodes ts ns) rs)
          (λ j h. ap not (sym (skipped j t.number (dependents (t.name ∷ names) ts ns) h))) r.1 (ih (t.name ∷ gone) (t.name ∷ before) (t.name ∷ names) (splits_both t.name gone before names splits) c.1),
    )
    at ih false false = (refl, ih (t.name ∷ gone) (t.name ∷ before) names (splits_before t.name gone before names splits) c.1)
trims_left b gone before names (t ∷ ts) (n ∷ ns) (Some u ∷ rs) r e f splits c =
    at (λ more first few s k. trims_left (suc t.number) more first few ts ns rs r.1 (omega (arith, e)) (omega (arith, f)) s k) (reads_one gone n) (reads_one names n) (reads_split gone before names n splits c.0)
  where
    at : ((more first few : List (List ℕ)) → Splits more first few → AreClosed first (with_nodes ts ns) rs → Trims (λ j. not (is_one j (dependents few ts ns))) (numbers_of ts) rs (left_over more (with_nodes ts ns) rs))
        → (x d : Bool) → x ≡ d → Trims (λ j. not (is_one j (cond d (t.number ∷ dependents (t.name ∷ names) ts ns) (dependents names ts ns)))) (t.number ∷ numbers_of ts) (Some u ∷ rs) (cond x None (Some u) ∷ left_over (gone_with t.name (cond x None (Some u)) gone) (with_nodes ts ns) rs)
    at ih true true g = (
      sym (ap not (at_head t.number (dependents (t.name ∷ names) ts ns))),
      trims_alike (λ j. not (is_one j (dependents (t.name ∷ names) ts ns))) (λ j. not (is_one j (t.number ∷ dependents (t.name ∷ names) ts ns))) (suc t.number) (numbers_of ts) rs (left_over (t.name ∷ gone) (with_nodes ts ns) rs)
          (λ j h. ap not (sym (skipped j t.number (dependents (t.name ∷ names) ts ns) h))) r.1 (ih (t.name ∷ gone) before (t.name ∷ names) (splits_names t.name gone before names splits) c.1),
    )
    at ih true false g = cc
    at ih false true g = cc
    at ih false false g = (sym (ap not (none_below t.number (suc t.number) (dependents names ts ns) (omega arith) (dependents_rise (suc t.number) names ts ns r.1))), ih gone before names splits c.1)
