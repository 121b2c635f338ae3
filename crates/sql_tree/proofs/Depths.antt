-- What is spelled at some bound is spelled at each bound that its depth does not pass.
use Rattle.std.proofs.Common.{◌≡◌, inl, inr, ◌≤◌, true, false, ℕ, zero, suc, max, Bool, List, [], ◌∷◌, ◌++◌, Option, None, Some, refl, ap, subst, arith}
use borrow.Author.Tests.{leb-true}
use Rattle.std.specs.Prelude.{nat_le, if◌then◌else◌}
use Rattle.vtl_lists.specs.Options.{◌>>=◌}
use Rattle.grammar_forms.specs.Forms.{Spelling, Both, IsMade, MaybeSpells, Deep, deep, limited, deep_listed, deep_added, joined}
use Rattle.sql_lexer.specs.declared.token.TokenKind.{TokenKind}
use Rattle.sql_lexer.specs.declared.token.Word.TheVariants as w
use Rattle.vtl_cell.specs.declared.operator.ScalarOp.TheVariants as op
use Rattle.vtl_cell.specs.declared.operator.AggKind.TheVariants as agg
use Rattle.grammar_forms.proofs.Laws.{some_of}
use Rattle.grammar_forms.proofs.Narrow.{Narrow, narrow-seq, narrow-made, narrow-as, narrow-after, narrow-before, narrow-or, narrow-chain, relimit, depth}
use Rattle.vtl_cell.specs.declared.operator.ScalarOp.{ScalarOp}
use Rattle.vtl_cell.specs.declared.operator.AggKind.{AggKind}
use Rattle.sql_tree.specs.Depth.{Spelled, SpelledAt}
use Rattle.sql_tree.specs.Trees as tree
use Rattle.sql_tree.specs.Trees.{Exp, exps_of, branches_of}
use Rattle.sql_tree.specs.Grammar as g
use Rattle.sql_tree.specs.Grammar.{SqlForm, Tokens, Expr, DeepExp, Place, Whole, Negated, Signed, expr_at}

abbrev Narrows : ℕ → SqlForm DeepExp → SqlForm DeepExp → Type 0
Narrows n f f' = Narrow depth n f.spells f'.spells

abbrev none : {A : Type 0} → A → ℕ
none a = 0

-- the same spelling
same : {A : Type 0} (d : A → ℕ) (n : ℕ) (f : SqlForm A) → Narrow d n f.spells f.spells
same d n f ts a h low = h

-- the depth of what stands behind an operand
tail_depth : g.Tail → ℕ
tail_depth (g.Compared o x) = x.depth
tail_depth (g.IsNull b) = 0
tail_depth (g.Among b ls) = 0

maybe_depth : Option g.Tail → ℕ
maybe_depth None = 0
maybe_depth (Some t) = tail_depth t

abbrev behind_depth : {A : Type 0} → A × DeepExp → ℕ
behind_depth p = max 0 p.1.depth

module _ (m n : ℕ) (part part' : Place → Expr) (narrow : (p : Place) → Narrows n (part p) (part' p)) where
  brackets-narrow : {A : Type 0} {f f' : Spelling TokenKind A} (d : A → ℕ) (k : ℕ) → Narrow d k f f' → Narrow d k (IsMade (λ p. Some p.1) (Both (g.key w.Open).spells (IsMade (λ p. Some p.0) (Both f (g.key w.Close).spells)))) (IsMade (λ p. Some p.1) (Both (g.key w.Open).spells (IsMade (λ p. Some p.0) (Both f' (g.key w.Close).spells))))
  brackets-narrow d k nf = narrow-after d k (narrow-before d k nf)

  bracketed-narrow : Narrows (suc n) (g.bracketed (suc m) (part Whole)) (g.bracketed (suc n) (part' Whole))
  unfolding g.bracketed
  bracketed-narrow = narrow-made depth depth n (suc n) (λ a. limited (suc m) a.tree (suc a.depth)) (λ a. limited (suc n) a.tree (suc a.depth)) (λ a b e low. let r = relimit (suc m) (suc n) a.tree (suc a.depth) b e low in (omega (arith, r.0), r.1)) (brackets-narrow depth n (narrow Whole))

  list-narrow : Narrow depth n (deep_listed (g.key w.Comma) (part Whole)).spells (deep_listed (g.key w.Comma) (part' Whole)).spells
  list-narrow = narrow-chain depth depth n n deep_added deep_added (λ a s b e low. let d = ap depth (some_of (deep (a.tree ++ s.tree ∷ []) (max a.depth s.depth)) b e) in (omega (arith, d, low), omega (arith, d, low), e)) (narrow-as depth depth n _ (λ a. omega arith) (narrow Whole)) (narrow-after depth n (narrow Whole))

  call-narrow : Narrows (suc n) (g.call_of (suc m) (part Whole)) (g.call_of (suc n) (part' Whole))
  unfolding g.call_of
  call-narrow =
      narrow-made (λ (p : ScalarOp × Deep (List Exp)). max 0 p.1.depth) depth n (suc n) (λ p. limited (suc m) (tree.call p.0 (exps_of p.1.tree)) (suc p.1.depth)) (λ p. limited (suc n) (tree.call p.0 (exps_of p.1.tree)) (suc p.1.depth))
      (λ p b e low. let r = relimit (suc m) (suc n) (tree.call p.0 (exps_of p.1.tree)) (suc p.1.depth) b e low in (omega (arith, r.0), r.1))
      (narrow-seq none depth n (same none n (g.of_table g.functions_table)) (brackets-narrow depth n list-narrow))

  counted-narrow : Narrows (suc n) (g.counted (suc m) (part Whole)) (g.counted (suc n) (part' Whole))
  unfolding g.counted
  counted-narrow = narrow-or depth (suc n) (λ ts a h low. h) (narrow-made depth depth n (suc n) (λ a. limited (suc m) (tree.aggregate agg.Count a.tree) (suc a.depth)) (λ a. limited (suc n) (tree.aggregate agg.Count a.tree) (suc a.depth)) (λ a b e low. let r = relimit (suc m) (suc n) (tree.aggregate agg.Count a.tree) (suc a.depth) b e low in (omega (arith, r.0), r.1)) (narrow Whole))

  aggr-narrow : Narrows (suc n) (g.aggr (suc m) (part Whole)) (g.aggr (suc n) (part' Whole))
  unfolding g.aggr
  aggr-narrow =
      narrow-or depth (suc n) (narrow-after depth (suc n) (brackets-narrow depth (suc n) counted-narrow))
      (narrow-made (λ (p : AggKind × DeepExp). max 0 p.1.depth) depth n (suc n) (λ p. limited (suc m) (tree.aggregate p.0 p.1.tree) (suc p.1.depth)) (λ p. limited (suc n) (tree.aggregate p.0 p.1.tree) (suc p.1.depth))
      (λ p b e low. let r = relimit (suc m) (suc n) (tree.aggregate p.0 p.1.tree) (suc p.1.depth) b e low in (omega (arith, r.0), r.1))
      (narrow-seq none depth n (same none n (g.of_table g.aggregates_table)) (brackets-narrow depth n (narrow Whole))))

  branch-narrow : Narrow depth n (g.branch (part Whole)).spells (g.branch (part' Whole)).spells
  unfolding g.branch
  branch-narrow = narrow-as (λ (p : DeepExp × DeepExp). max p.0.depth p.1.depth) depth n g.deep_branch (λ p. omega arith) (narrow-seq depth depth n (narrow-after depth n (narrow Whole)) (narrow-after depth n (narrow Whole)))

  branches-narrow : Narrow depth n (g.branches (part Whole)).spells (g.branches (part' Whole)).spells
  unfolding g.branches
  branches-narrow = narrow-chain depth depth n n deep_added deep_added (λ a s b e low. let d = ap depth (some_of (deep (a.tree ++ s.tree ∷ []) (max a.depth s.depth)) b e) in (omega (arith, d, low), omega (arith, d, low), e)) (narrow-as depth depth n _ (λ a. omega arith) branch-narrow) branch-narrow

  case-narrow : Narrows (suc n) (g.case (suc m) (part Whole)) (g.case (suc n) (part' Whole))
  unfolding g.case
  case-narrow =
      narrow-made (λ (p : Deep (List (Exp × Exp)) × DeepExp). max p.0.depth p.1.depth) depth n (suc n) (g.case_made (suc m)) (g.case_made (suc n))
      (λ p b e low. let r = relimit (suc m) (suc n) (tree.case_when (branches_of p.0.tree) p.1.tree) (suc (max p.0.depth p.1.depth)) b e low in (omega (arith, r.0), r.1))
      (narrow-after (λ (p : Deep (List (Exp × Exp)) × DeepExp). max p.0.depth p.1.depth) n (narrow-seq depth depth n branches-narrow (narrow-before depth n (narrow-after depth n (narrow Whole)))))

  exists-narrow : Narrows (suc n) (g.exists (suc m)) (g.exists (suc n))
  unfolding g.exists
  exists-narrow ts x h low = let r = relimit (suc m) (suc n) (tree.exists h.part.0 h.part.1) 3 x h.is low in record { part = h.part; spelled = h.spelled; is = r.1 }

  prim-narrow : Narrows (suc n) (g.prim (suc m) (part Whole)) (g.prim (suc n) (part' Whole))
  unfolding g.prim
  prim-narrow =
      narrow-or depth (suc n) (λ ts a h low. h) (narrow-or depth (suc n) (λ ts a h low. h)
      (narrow-or depth (suc n) bracketed-narrow (narrow-or depth (suc n) call-narrow (narrow-or depth (suc n) aggr-narrow (narrow-or depth (suc n) case-narrow exists-narrow)))))

  un-narrow : Narrows (suc n) (g.un (suc m) part) (g.un (suc n) part')
  unfolding g.un
  un-narrow =
      narrow-or depth (suc n)
      (narrow-made behind_depth depth n (suc n) (λ p. g.operator_before (suc m) p.0 p.1) (λ p. g.operator_before (suc n) p.0 p.1)
      (λ p b e low. let r = relimit (suc m) (suc n) (tree.unary p.0 p.1.tree) (suc p.1.depth) b e low in (omega (arith, r.0), r.1))
      (narrow-seq none depth n (same none n (g.of_table g.signs_table)) (narrow Signed))) prim-narrow

  left-narrow : (f f' : Expr) (table : List (ℕ × ScalarOp)) → Narrows (suc n) f f' → Narrows (suc n) (g.left_grouped (suc m) f table) (g.left_grouped (suc n) f' table)
  left-narrow f f' table nf =
      narrow-chain depth behind_depth (suc n) (suc n) (g.joined_by (suc m)) (g.joined_by (suc n))
      (λ a p b e low. let r = relimit (suc m) (suc n) (tree.binary a.tree p.0 p.1.tree) (suc (max a.depth p.1.depth)) b e low in (omega (arith, r.0), omega (arith, r.0), r.1))
      nf (narrow-seq none depth (suc n) (same none (suc n) (g.of_table table)) nf)

  mul-narrow : Narrows (suc n) (g.mul (suc m) part) (g.mul (suc n) part')
  unfolding g.mul
  mul-narrow = left-narrow (g.un (suc m) part) (g.un (suc n) part') g.multiply_ops_table un-narrow

  add-narrow : Narrows (suc n) (g.add (suc m) part) (g.add (suc n) part')
  unfolding g.add
  add-narrow = left-narrow (g.mul (suc m) part) (g.mul (suc n) part') g.add_ops_table mul-narrow

  tail-narrow : Narrow tail_depth (suc n) (g.tail (suc m) part).spells (g.tail (suc n) part').spells
  unfolding g.tail tail_depth
  tail-narrow =
      narrow-or tail_depth (suc n) (narrow-as behind_depth tail_depth (suc n) _ (λ p. omega arith) (narrow-seq none depth (suc n) (same none (suc n) (g.of_table g.compare_ops_table)) add-narrow)) (λ ts a h low. h)

  maybe-narrow : Narrow maybe_depth (suc n) (MaybeSpells (g.tail (suc m) part).spells) (MaybeSpells (g.tail (suc n) part').spells)
  unfolding maybe_depth
  maybe-narrow ts None h low = h
  maybe-narrow ts (Some t) h low = tail-narrow ts t h low

  tailed : (p : DeepExp × Option g.Tail) (b : DeepExp) → g.with_tail (suc m) p ≡ Some b → b.depth ≤ suc n → (max p.0.depth (maybe_depth p.1) ≤ suc n) × (g.with_tail (suc n) p ≡ Some b)
  unfolding tail_depth maybe_depth
  tailed (a, None) b e low = (omega (arith, ap depth (some_of a b e), low), e)
  tailed (a, Some (g.Compared o x)) b e low = let r = relimit (suc m) (suc n) (tree.binary a.tree o x.tree) (suc (max a.depth x.depth)) b e low in (omega (arith, r.0), r.1)
  tailed (a, Some (g.IsNull negated)) b e low = let r = relimit (suc m) (suc n) (tree.is_null a.tree negated) (suc a.depth) b e low in (omega (arith, r.0), r.1)
  tailed (a, Some (g.Among negated ls)) b e low = let r = relimit (suc m) (suc n) (tree.in_list a.tree negated ls) (suc a.depth) b e low in (omega (arith, r.0), r.1)

  cmp-narrow : Narrows (suc n) (g.cmp (suc m) part) (g.cmp (suc n) part')
  unfolding g.cmp
  cmp-narrow = narrow-made (λ (p : DeepExp × Option g.Tail). max p.0.depth (maybe_depth p.1)) depth (suc n) (suc n) (g.with_tail (suc m)) (g.with_tail (suc n)) tailed (narrow-seq depth maybe_depth (suc n) add-narrow maybe-narrow)

  neg-narrow : Narrows (suc n) (g.neg (suc m) part) (g.neg (suc n) part')
  unfolding g.neg
  neg-narrow =
      narrow-or depth (suc n)
      (narrow-made depth depth n (suc n) (g.operator_before (suc m) op.Not) (g.operator_before (suc n) op.Not) (λ a b e low. let r = relimit (suc m) (suc n) (tree.unary op.Not a.tree) (suc a.depth) b e low in (omega (arith, r.0), r.1)) (narrow-after depth n (narrow Negated)))
      cmp-narrow

  conjunction-narrow : Narrows (suc n) (g.conjunction (suc m) part) (g.conjunction (suc n) part')
  unfolding g.conjunction
  conjunction-narrow = left-narrow (g.neg (suc m) part) (g.neg (suc n) part') g.and_ops_table neg-narrow

  disjunction-narrow : Narrows (suc n) (g.disjunction (suc m) part) (g.disjunction (suc n) part')
  unfolding g.disjunction
  disjunction-narrow = left-narrow (g.conjunction (suc m) part) (g.conjunction (suc n) part') g.or_ops_table conjunction-narrow

  place-narrow : (p : Place) → Narrows (suc n) (g.at_place (suc m) part p) (g.at_place (suc n) part' p)
  unfolding g.at_place
  place-narrow Whole = disjunction-narrow
  place-narrow Negated = neg-narrow
  place-narrow Signed = un-narrow

-- ---- a depth is one at least, and within the bound

abbrev In : ℕ → DeepExp → Type 0
In n x = (1 ≤ x.depth) × (x.depth ≤ n)

Within : ℕ → SqlForm DeepExp → Type 0
Within n f = (ts : Tokens) (x : DeepExp) → f.spells ts x → In n x

limited-at : (n d : ℕ) (t : Exp) (x : DeepExp) (b : Bool) → nat_le (suc d) n ≡ b → (if b then Some (deep t (suc d)) else None) ≡ Some x → In n x
limited-at n d t x true fits e = let same = ap depth (some_of (deep t (suc d)) x e) in let low = leb-true (suc d) n fits in (omega (arith, same), omega (arith, same, low))
limited-at n d t x false fits e = cc

limited-in : (n d : ℕ) (t : Exp) (x : DeepExp) → limited n t (suc d) ≡ Some x → In n x
limited-in n d t x e = limited-at n d t x (nat_le (suc d) n) refl e

leaf-in : (k : ℕ) (t : Exp) (x : DeepExp) → ◌≡◌ {A = Option DeepExp} (Some (deep t 1)) (Some x) → In (suc k) x
leaf-in k t x e = let same = ap depth (some_of (deep t 1) x e) in (omega (arith, same), omega (arith, same))

-- what is put round a part
part-in : (n : ℕ) (a x : DeepExp) → ◌≡◌ {A = Option DeepExp} (Some a) (Some x) → In n a → In n x
part-in n a x e h = let same = ap depth (some_of a x e) in (omega (arith, same, h.0), omega (arith, same, h.1))

counted-in : (k : ℕ) (part : Expr) → Within (suc k) (g.counted (suc k) part)
unfolding Within g.counted
counted-in k part ts x (inl h) = leaf-in k tree.count_all x h.is
counted-in k part ts x (inr h) = limited-in (suc k) h.part.depth (tree.aggregate agg.Count h.part.tree) x h.is

aggr-in : (k : ℕ) (part : Expr) → Within (suc k) (g.aggr (suc k) part)
unfolding Within g.aggr
aggr-in k part ts x (inl h) =
    let outer = h.spelled.second in
    let inside = outer.spelled.second in
    let some = counted-in k part inside.spelled.left inside.part.0 inside.spelled.first in
    part-in (suc k) h.part.1 x h.is (part-in (suc k) outer.part.1 h.part.1 outer.is (part-in (suc k) inside.part.0 outer.part.1 inside.is some))
aggr-in k part ts x (inr h) = limited-in (suc k) h.part.1.depth (tree.aggregate h.part.0 h.part.1.tree) x h.is

prim-in : (k : ℕ) (part : Expr) → Within (suc k) (g.prim (suc k) part)
unfolding Within g.prim g.bracketed g.call_of g.case g.exists
prim-in k part ts x (inl h) = leaf-in k (tree.constant h.part) x h.is
prim-in k part ts x (inr (inl h)) = leaf-in k (tree.column h.part) x h.is
prim-in k part ts x (inr (inr (inl h))) = limited-in (suc k) h.part.depth h.part.tree x h.is
prim-in k part ts x (inr (inr (inr (inl h)))) = limited-in (suc k) h.part.1.depth (tree.call h.part.0 (exps_of h.part.1.tree)) x h.is
prim-in k part ts x (inr (inr (inr (inr (inl h))))) = aggr-in k part ts x h
prim-in k part ts x (inr (inr (inr (inr (inr (inl h)))))) = limited-in (suc k) (max h.part.0.depth h.part.1.depth) (tree.case_when (branches_of h.part.0.tree) h.part.1.tree) x h.is
prim-in k part ts x (inr (inr (inr (inr (inr (inr h)))))) = limited-in (suc k) 2 (tree.exists h.part.0 h.part.1) x h.is

module _ (k : ℕ) (part : Place → Expr) where
  un-in : Within (suc k) (g.un (suc k) part)
  unfolding Within g.un
  un-in ts x (inl h) = limited-in (suc k) h.part.1.depth (tree.unary h.part.0 h.part.1.tree) x h.is
  un-in ts x (inr h) = prim-in k (part Whole) ts x h

  joins-in : (steps : List (ScalarOp × DeepExp)) (a x : DeepExp) → joined (g.joined_by (suc k)) a steps ≡ Some x → In (suc k) a → In (suc k) x
  joins-in [] a x e h = part-in (suc k) a x e h
  joins-in (s ∷ ss) a x e h = by_join (g.joined_by (suc k) a s) refl e (λ b. joins-in ss b x)
    where
      by_join : (r : Option DeepExp) → g.joined_by (suc k) a s ≡ r → (r >>= (λ b. joined (g.joined_by (suc k)) b ss)) ≡ Some x → ((b : DeepExp) → joined (g.joined_by (suc k)) b ss ≡ Some x → In (suc k) b → In (suc k) x) → In (suc k) x
      by_join None e h ih = cc
      by_join (Some b) e h ih = ih b h (limited-in (suc k) (max a.depth s.1.depth) (tree.binary a.tree s.0 s.1.tree) b e)

  left-in : (f : Expr) (table : List (ℕ × ScalarOp)) → Within (suc k) f → Within (suc k) (g.left_grouped (suc k) f table)
  unfolding Within
  left-in f table some ts x h = joins-in h.steps h.start x h.ends (some h.left h.start h.spelled)

  add-in : Within (suc k) (g.add (suc k) part)
  unfolding g.add g.mul
  add-in = left-in (g.mul (suc k) part) g.add_ops_table (left-in (g.un (suc k) part) g.multiply_ops_table un-in)

  tailed-in : (a : DeepExp) (o : Option g.Tail) (x : DeepExp) → g.with_tail (suc k) (a, o) ≡ Some x → In (suc k) a → In (suc k) x
  tailed-in a None x e h = part-in (suc k) a x e h
  tailed-in a (Some (g.Compared o b)) x e h = limited-in (suc k) (max a.depth b.depth) (tree.binary a.tree o b.tree) x e
  tailed-in a (Some (g.IsNull negated)) x e h = limited-in (suc k) a.depth (tree.is_null a.tree negated) x e
  tailed-in a (Some (g.Among negated ls)) x e h = limited-in (suc k) a.depth (tree.in_list a.tree negated ls) x e

  neg-in : Within (suc k) (g.neg (suc k) part)
  unfolding Within g.neg g.cmp
  neg-in ts x (inl h) = limited-in (suc k) h.part.depth (tree.unary op.Not h.part.tree) x h.is
  neg-in ts x (inr h) = tailed-in h.part.0 h.part.1 x h.is (add-in h.spelled.left h.part.0 h.spelled.first)

  place-in : (p : Place) → Within (suc k) (g.at_place (suc k) part p)
  unfolding g.at_place g.disjunction g.conjunction
  place-in Whole = left-in (g.conjunction (suc k) part) g.or_ops_table (left-in (g.neg (suc k) part) g.and_ops_table neg-in)
  place-in Negated = neg-in
  place-in Signed = un-in

depth-in : (n : ℕ) (p : Place) (ts : Tokens) (x : DeepExp) → (expr_at n p).spells ts x → In n x
unfolding Within g.inner
depth-in zero p ts x h = absurd h
depth-in (suc k) p ts x h = place-in k (expr_at k) p ts x h

-- ---- at any bound

narrow-at : (m n : ℕ) (p : Place) → Narrows n (expr_at m p) (expr_at n p)
unfolding g.inner
narrow-at zero n p ts x h low = absurd h
narrow-at (suc m) zero p ts x h low = absurd (omega (arith, low, (depth-in (suc m) p ts x h).0))
narrow-at (suc m) (suc n) p ts x h low = place-narrow m n (expr_at m) (expr_at n) (narrow-at m n) p ts x h low

pub at-bound : (n : ℕ) (p : Place) (ts : Tokens) (e : Exp) (d : ℕ) → SpelledAt p ts e d → d ≤ n → (expr_at n p).spells ts (deep e d)
at-bound n p ts e d h low = narrow-at h.bound n p ts (deep e d) h.spelled low

pub within-bound : (n : ℕ) (p : Place) (ts : Tokens) (e : Exp) (d : ℕ) → (expr_at n p).spells ts (deep e d) → d ≤ n
within-bound n p ts e d h = (depth-in n p ts (deep e d) h).1

-- the expressions of statements are those that are spelled with a depth of 512 at most
pub expr-there : (ts : Tokens) (e : Exp) → g.expr.spells ts e → (d : ℕ) × Spelled ts e d × (d ≤ 512)
unfolding g.expr
expr-there ts e h =
    let same : h.part.tree ≡ e = some_of h.part.tree e h.is in
    (h.part.depth, subst (λ x. Spelled ts x h.part.depth) same (record { bound = 512; spelled = h.spelled }), within-bound 512 Whole ts h.part.tree h.part.depth h.spelled)

pub expr-back : (ts : Tokens) (e : Exp) (d : ℕ) → Spelled ts e d → d ≤ 512 → g.expr.spells ts e
unfolding g.expr
expr-back ts e d h low = record { part = deep e d; spelled = at-bound 512 Whole ts e d h low; is = refl }
