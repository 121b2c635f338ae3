-- Conjuncts that may be tried early change neither the rows of FROM and WHERE nor a fault.
use Rattle.std.proofs.Common.{◌≡◌, Bool, true, false, cond, ◌&&◌, List, [], ◌∷◌, ◌++◌, map, Option, Some, None, Ok, Err, refl, sym, ap, ◌∙◌}
use Rattle.std.specs.Prelude.{filter}
use Rattle.std.specs.List.{AllByRecursion, flat_map}
use Rattle.std.proofs.lemmas.List.Elements.{filter-append}
use Rattle.vtl_lists.proofs.Sorts.{AllByRecursion-filter}
use Rattle.vtl_lists.proofs.Alls.{all_append}
use Rattle.vtl_cell.specs.Conversion.{as_kind}
use Rattle.vtl_cell.specs.Outcome.{Outcome}
use Rattle.vtl_cell.specs.Row.{Row}
use Rattle.vtl_cell.specs.Logic.{and_of}
use Rattle.vtl_cell.specs.Outcomes.{is_true}
use Rattle.vtl_cell.specs.ScalarChoice.{on_truths, truth_in}
use Rattle.vtl_decimal.specs.Settings.{Settings}
use Rattle.vtl_cell.specs.declared.cell.Cell.{Cell}
use Rattle.vtl_cell.specs.declared.cell.Cell.TheVariants as c
use Rattle.vtl_cell.specs.declared.kind.Kind.{Kind}
use Rattle.vtl_cell.specs.declared.operator.ScalarOp.TheVariants as op
use Rattle.sql_tree.specs.Trees as tree
use Rattle.sql_tree.specs.Trees.{Exp, JoinTree, QueryTree, SelectTree, Text}
use Rattle.sql_tree.specs.declared.word_groups.JoinKind.{JoinKind}
use Rattle.sql_tree.specs.declared.word_groups.JoinKind.TheVariants as joining
use Rattle.sql_check_parts.specs.Kinds.{kind_in}
use Rattle.sql_meaning.specs.Early.{is_full_kind}
use Rattle.sql_meaning.specs.From.{holds, joined_by, or_alone, pairs_by, partners, partners_or_alone}
use Rattle.sql_meaning.specs.Outcomes.{operated}
use Rattle.sql_meaning.specs.Plans.{conjuncts}
use Rattle.sql_meaning.specs.Values.{View, value}
use Rattle.sql_meaning.proofs.IndexedJoins.{truth_stays}
use Rattle.sql_meaning.proofs.Lists.{under}
use Rattle.sql_meaning.proofs.OperatorKinds.{null_stays}

-- ---- filters and joins of lists

pub filter_two : {X : Type 0} (t u : X → Bool) (xs : List X) → filter u (filter t xs) ≡ filter (λ x. t x && u x) xs
filter_two t u [] = refl
filter_two t u (x ∷ xs) = go (t x) (filter_two t u xs)
  where
    go : (b : Bool) → filter u (filter t xs) ≡ filter (λ y. t y && u y) xs → filter u (cond b (x ∷ filter t xs) (filter t xs)) ≡ cond (b && u x) (x ∷ filter (λ y. t y && u y) xs) (filter (λ y. t y && u y) xs)
    go true ih = ap (λ l. cond (u x) (x ∷ l) l) ih
    go false ih = ih

-- a list of which all or none passes
all_pass : {A C : Type 0} (Q : A → Type 0) (u : C → Bool) (f : A → C) (xs : List A) → ((x : A) → Q x → u (f x) ≡ true) → AllByRecursion Q xs → filter u (map f xs) ≡ map f xs
all_pass Q u f [] h all = refl
all_pass Q u f (x ∷ xs) h all = ap (λ b. cond b (f x ∷ filter u (map f xs)) (filter u (map f xs))) (h x all.0) ∙ ap (λ l. f x ∷ l) (all_pass Q u f xs h all.1)

none_pass : {A C : Type 0} (Q : A → Type 0) (u : C → Bool) (f : A → C) (xs : List A) → ((x : A) → Q x → u (f x) ≡ false) → AllByRecursion Q xs → filter u (map f xs) ≡ []
none_pass Q u f [] h all = refl
none_pass Q u f (x ∷ xs) h all = ap (λ b. cond b (f x ∷ filter u (map f xs)) (filter u (map f xs))) (h x all.0) ∙ none_pass Q u f xs h all.1

-- what is made of each item passes exactly where the item does
module _ {A C : Type 0} (P : A → Type 0) (t : A → Bool) (u : C → Bool) (f : A → List C)
    (kept : (x : A) → P x → t x ≡ true → filter u (f x) ≡ f x) (dropped : (x : A) → P x → t x ≡ false → filter u (f x) ≡ []) where
  pub filter_through : (xs : List A) → AllByRecursion P xs → flat_map f (filter t xs) ≡ filter u (flat_map f xs)
  filter_through [] all = refl
  filter_through (x ∷ xs) all = go (t x) refl (filter_through xs all.1) ∙ sym (filter-append u (f x) (flat_map f xs))
    where
      go : (b : Bool) → t x ≡ b → flat_map f (filter t xs) ≡ filter u (flat_map f xs) → flat_map f (cond b (x ∷ filter t xs) (filter t xs)) ≡ filter u (f x) ++ filter u (flat_map f xs)
      go true e ih = λ i. sym (kept x all.0 e) i ++ ih i
      go false e ih = ih ∙ ap (λ l. l ++ filter u (flat_map f xs)) (sym (dropped x all.0 e))

-- a test on left items is one on what is made of them; but for FULL, which keeps right items too
module _ {A B C : Type 0} (P : A → Type 0) (Q : B → Type 0) (t : A → Bool) (u : C → Bool) (test : A → B → Bool) (both : A → B → C) (alone : A → C) (only : B → C)
    (same : (x : A) (y : B) → P x → Q y → u (both x y) ≡ t x) (own : (x : A) → P x → u (alone x) ≡ t x) (ys : List B) (right : AllByRecursion Q ys) where
  some : (x : A) → AllByRecursion Q (filter (test x) ys)
  some x = AllByRecursion-filter Q (test x) ys right

  padded : (x : A) → P x → (d : Bool) → t x ≡ d → filter u (partners_or_alone test both alone ys x) ≡ cond d (partners_or_alone test both alone ys x) []
  padded x h d e = go (filter (test x) ys) (some x) d e
    where
      go : (zs : List B) → AllByRecursion Q zs → (d : Bool) → t x ≡ d → filter u (or_alone (map (both x) zs) (alone x)) ≡ cond d (or_alone (map (both x) zs) (alone x)) []
      go [] all true q = ap (λ a. cond a (alone x ∷ []) []) (own x h ∙ q)
      go [] all false q = ap (λ a. cond a (alone x ∷ []) []) (own x h ∙ q)
      go (z ∷ zs) all true q = all_pass Q u (both x) (z ∷ zs) (λ y g. same x y h g ∙ q) all
      go (z ∷ zs) all false q = none_pass Q u (both x) (z ∷ zs) (λ y g. same x y h g ∙ q) all

  pub joined_filtered : (kind : JoinKind) (xs : List A) → is_full_kind kind ≡ false → AllByRecursion P xs → joined_by kind test both alone only (filter t xs) ys ≡ filter u (joined_by kind test both alone only xs ys)
  joined_filtered joining.Inner xs n all =
      filter_through P t u (partners test both ys) (λ x h e. all_pass Q u (both x) (filter (test x) ys) (λ y g. same x y h g ∙ e) (some x)) (λ x h e. none_pass Q u (both x) (filter (test x) ys) (λ y g. same x y h g ∙ e) (some x)) xs all
  joined_filtered joining.Left xs n all =
      filter_through P t u (partners_or_alone test both alone ys) (λ x h e. padded x h true e) (λ x h e. padded x h false e) xs all
  joined_filtered joining.Full xs n all = cc

  pub pairs_filtered : (xs : List A) → AllByRecursion P xs → pairs_by both (filter t xs) ys ≡ filter u (pairs_by both xs ys)
  pairs_filtered xs all = filter_through P t u (λ x. map (both x) ys) (λ x h e. all_pass Q u (both x) ys (λ y g. same x y h g ∙ e) right) (λ x h e. none_pass Q u (both x) ys (λ y g. same x y h g ∙ e) right) xs all

-- ---- conjuncts

-- AND of two values is true, false or null, and true only where both are
pub truth_kept : (p : Settings) (kind : Kind) (a b : Option (Option Bool)) → as_kind p kind (on_truths and_of a b) ≡ Ok (on_truths and_of a b)
truth_kept p kind None b = null_stays p kind
truth_kept p kind (Some a) None = null_stays p kind
truth_kept p kind (Some a) (Some b) = truth_stays p kind (and_of a b)

both_true : (x y : Cell) → is_true (Ok (on_truths and_of (truth_in x) (truth_in y))) ≡ true → (is_true (Ok x) ≡ true) × (is_true (Ok y) ≡ true)
both_true (c.Bool true) (c.Bool true) h = (refl, refl)
both_true (c.Bool true) y h = cc
both_true (c.Bool false) c.Null h = cc
both_true (c.Bool false) (c.Bool y) h = cc
both_true (c.Bool false) (c.Int y) h = cc
both_true (c.Bool false) (c.Num y) h = cc
both_true (c.Bool false) (c.Text y) h = cc
both_true (c.Bool false) (c.Day y) h = cc
both_true (c.Bool false) (c.Period y) h = cc
both_true c.Null (c.Bool true) h = cc
both_true c.Null (c.Bool false) h = cc
both_true x y h = cc

pub both_hold : (p : Settings) (kind : Kind) (m n : Outcome Cell) → is_true (operated p kind (m ∷ n ∷ []) op.And) ≡ true → (is_true m ≡ true) × (is_true n ≡ true)
both_hold p kind (Err f) n h = cc
both_hold p kind (Ok x) (Err f) h = cc
both_hold p kind (Ok x) (Ok y) h = both_true x y (ap is_true (sym (truth_kept p kind (truth_in x) (truth_in y))) ∙ h)

-- where a condition holds each of its conjuncts does
abbrev pub Implied : View → Exp → Exp → Type 0
Implied v w e = (r : Row) → holds v w r ≡ true → holds v e r ≡ true

pub conjuncts_implied : (v : View) (w : Exp) → AllByRecursion (Implied v w) (conjuncts w)
conjuncts_implied v (tree.binary a op.And b) =
    let both : (r : Row) → holds v (tree.binary a op.And b) r ≡ true → (holds v a r ≡ true) × (holds v b r ≡ true) = λ r h. both_hold v.base.settings (kind_in v.scope (tree.binary a op.And b)) (value v a r []) (value v b r []) h in
    all_append (Implied v (tree.binary a op.And b)) (conjuncts a) (conjuncts b)
    (under {P = Implied v a} {Q = Implied v (tree.binary a op.And b)} (λ e f r h. f r (both r h).0) (conjuncts a) (conjuncts_implied v a))
    (under {P = Implied v b} {Q = Implied v (tree.binary a op.And b)} (λ e f r h. f r (both r h).1) (conjuncts b) (conjuncts_implied v b))
conjuncts_implied v e = ((λ r h. h), tt)
