-- Cells that outputs of checks hold: of their kinds, and of the profile; and which of them are shown.
use Rattle.std.proofs.Common.{◌≡◌, ℕ, ℤ, suc, true, false, List, [], ◌∷◌, map, Option, Some, None, Ok, Err, refl}
use Rattle.std.proofs.lemmas.List.{map-append}
use Rattle.std.specs.Prelude.{IfOk}
use Rattle.std.specs.List.{AllByRecursion}
use Rattle.std.specs.Option.{IfSome}
use Rattle.vtl_lists.proofs.Alls.{all_append}
use Rattle.vtl_decimal.specs.Settings.{Settings}
use Rattle.vtl_cell.specs.Outcome.{Outcome}
use Rattle.vtl_cell.specs.Profile.{IsOfProfile}
use Rattle.vtl_cell.specs.Row.{Row}
use Rattle.vtl_cell.specs.ScalarKinds.{meets}
use Rattle.vtl_cell.specs.declared.cell.Cell.{Cell}
use Rattle.vtl_cell.specs.declared.cell.Cell.TheVariants as c
use Rattle.vtl_cell.specs.declared.kind.Kind.{Kind}
use Rattle.vtl_cell.specs.declared.kind.Kind.TheVariants as k
use Rattle.vtl_rows.specs.Tables.{fits_kinds}
use Rattle.vtl_syntax.specs.declared.word_groups.CheckOut.{CheckOut}
use Rattle.vtl_syntax.specs.declared.word_groups.CheckOut.TheVariants as out
use Rattle.vtl_tree.specs.CompExp.{CompExp}
use Rattle.vtl_tree.specs.DataSet.{is_point}
use Rattle.vtl_tree.specs.Kinds.{exp_kind}
use Rattle.vtl_tree.specs.Trees.{PointRuleTree}
use Rattle.vtl_tree.specs.Value.{value}
use Rattle.vtl_tree.specs.declared.structure.Component.{Component}
use Rattle.vtl_meaning.specs.Made.{component_kinds}
use Rattle.vtl_meaning.specs.Points.{cell_or_null}
use Rattle.vtl_meaning.proofs.JoinParts.{fits_append}
use Rattle.vtl_meaning.proofs.ValueKinds.{GivesOf, IsOf, after_if, value_is_of}
use Rattle.vtl_rulings.specs.Outputs.{code_cell, errors_at, level_cell}
use Rattle.vtl_tree.specs.Checks.{error_measures, output_parts, with_ids}
use Rattle.vtl_rulings.specs.PointChecks.{held, truth_of, under}
use Rattle.vtl_rulings.specs.Shaped.{IsConditionOver, IsPointRuleOver}

-- ---- the parts of an output
pub parts_mapped : {X Y : Type 0} (f : X → Y) (o : CheckOut) (ms : List X) (t : X) (rest : List X) → map f (output_parts o ms t rest) ≡ output_parts o (map f ms) (f t) (map f rest)
parts_mapped f out.Invalid ms t rest = map-append f ms rest
parts_mapped f out.All ms t rest = refl
parts_mapped f out.AllMeasures ms t rest = map-append f ms (t ∷ rest)

pub parts_hold : {X : Type 0} (P : X → Type 0) (o : CheckOut) (ms : List X) (t : X) (rest : List X) → AllByRecursion P ms → P t → AllByRecursion P rest → AllByRecursion P (output_parts o ms t rest)
parts_hold P out.Invalid ms t rest h i j = all_append P ms rest h j
parts_hold P out.All ms t rest h i j = (i, j)
parts_hold P out.AllMeasures ms t rest h i j = all_append P ms (t ∷ rest) h (i, j)

pub parts_fit : (o : CheckOut) (ks ls : List Kind) (kind : Kind) (ms rest : Row) (t : Cell) → fits_kinds ks ms ≡ true → IsOf kind t → fits_kinds ls rest ≡ true → fits_kinds (output_parts o ks kind ls) (output_parts o ms t rest) ≡ true
parts_fit out.Invalid ks ls kind ms rest t h i j = fits_append ks ls ms rest h j
parts_fit out.All ks ls kind ms rest t h i j = rw i j
parts_fit out.AllMeasures ks ls kind ms rest t h i j = let both : fits_kinds (kind ∷ ls) (t ∷ rest) ≡ true = rw i j in fits_append ks (kind ∷ ls) ms (t ∷ rest) h both

-- ---- errors
pub code_is : (o : Option (List ℕ)) → IsOf k.Text (code_cell o)
code_is None = refl
code_is (Some x) = refl

pub level_is : (o : Option ℤ) → IsOf k.Int (level_cell o)
level_is None = refl
level_is (Some n) = refl

-- what holds of both and of null holds of errors
pub errors_hold : (P : Cell → Type 0) (code level truth : Cell) → P c.Null → P code → P level → AllByRecursion P (errors_at code level truth)
errors_hold P code level (c.Bool false) n h i = (h, (i, tt))
errors_hold P code level (c.Bool true) n h i = (n, (n, tt))
errors_hold P code level c.Null n h i = (n, (n, tt))
errors_hold P code level (c.Int x) n h i = (n, (n, tt))
errors_hold P code level (c.Num x) n h i = (n, (n, tt))
errors_hold P code level (c.Text x) n h i = (n, (n, tt))
errors_hold P code level (c.Day x) n h i = (n, (n, tt))
errors_hold P code level (c.Period x) n h i = (n, (n, tt))

pub errors_fit : (code level truth : Cell) → IsOf k.Text code → IsOf k.Int level → fits_kinds (component_kinds error_measures) (errors_at code level truth) ≡ true
errors_fit code level (c.Bool false) i j = rw i (rw j refl)
errors_fit code level (c.Bool true) i j = refl
errors_fit code level c.Null i j = refl
errors_fit code level (c.Int n) i j = refl
errors_fit code level (c.Num n) i j = refl
errors_fit code level (c.Text x) i j = refl
errors_fit code level (c.Day x) i j = refl
errors_fit code level (c.Period x) i j = refl

pub level_of_profile : (p : Settings) (o : Option ℤ) → IfSome o (λ n. IsOfProfile p (c.Int n)) → IsOfProfile p (level_cell o)
level_of_profile p None h = tt
level_of_profile p (Some n) h = h

pub code_of_profile : (p : Settings) (o : Option (List ℕ)) → IsOfProfile p (code_cell o)
code_of_profile p None = tt
code_of_profile p (Some x) = tt

-- ---- truth values
truth_kind : (kind : Kind) (v : Cell) → meets k.Bool kind ≡ true → IsOf kind v → IsOf k.Bool v
truth_kind k.Bool v m h = h
truth_kind k.Null c.Null m h = refl
truth_kind k.Null (c.Bool b) m h = cc
truth_kind k.Null (c.Int n) m h = cc
truth_kind k.Null (c.Num n) m h = cc
truth_kind k.Null (c.Text x) m h = cc
truth_kind k.Null (c.Day x) m h = cc
truth_kind k.Null (c.Period x) m h = cc
truth_kind k.Int v m h = cc
truth_kind k.Num v m h = cc
truth_kind k.Text v m h = cc
truth_kind k.Day v m h = cc
truth_kind k.Period v m h = cc

pub condition_is : (p : Settings) (xs : List Component) (e : CompExp) (r : Row) → IsConditionOver p xs e → is_point xs r ≡ true → GivesOf k.Bool (value p e r)
condition_is p xs e r i h = go (value p e r) (value_is_of p xs e r i.0 h)
  where
    go : (m : Outcome Cell) → GivesOf (exp_kind e) m → GivesOf k.Bool m
    go (Ok v) f = truth_kind (exp_kind e) v i.1 f
    go (Err f) g = tt

-- what holds of the consequent and of every truth value holds under an antecedent
pub under_holds : (P : Cell → Type 0) (t : Cell) (m : Outcome Cell) → P c.Null → P (c.Bool true) → IfOk m P → IfOk (under t m) P
under_holds P (c.Bool true) m n y h = h
under_holds P (c.Bool false) m n y h = y
under_holds P c.Null m n y h = n
under_holds P (c.Int x) m n y h = n
under_holds P (c.Num x) m n y h = n
under_holds P (c.Text x) m n y h = n
under_holds P (c.Day x) m n y h = n
under_holds P (c.Period x) m n y h = n

held_is : (p : Settings) (xs : List Component) (antecedent : Option CompExp) (e : CompExp) (r : Row) → IfSome antecedent (IsConditionOver p xs) → IsConditionOver p xs e → is_point xs r ≡ true → GivesOf k.Bool (held p antecedent e r)
held_is p xs None e r f i h = condition_is p xs e r i h
held_is p xs (Some w) e r f i h =
    after_if (value p w r) (λ t. under t (value p e r)) (IsOf k.Bool) (IsOf k.Bool) (condition_is p xs w r f h) (λ t j. under_holds (IsOf k.Bool) t (value p e r) refl refl (condition_is p xs e r i h))

pub given_or_null : (P : Cell → Type 0) (m : Outcome Cell) → P c.Null → IfOk m P → P (cell_or_null m)
given_or_null P (Ok v) n h = h
given_or_null P (Err f) n h = n

pub truth_is : (p : Settings) (xs : List Component) (rule : PointRuleTree) (r : Row) → IsPointRuleOver p xs rule → is_point xs r ≡ true → IsOf k.Bool (cell_or_null (truth_of p rule r))
truth_is p xs rule r i h = given_or_null (IsOf k.Bool) (truth_of p rule r) refl (held_is p xs rule.antecedent rule.condition r i.antecedent i.condition h)

-- a truth value is of every profile
pub truth_of_profile : (p : Settings) (v : Cell) → IsOf k.Bool v → IsOfProfile p v
truth_of_profile p c.Null h = tt
truth_of_profile p (c.Bool b) h = tt
truth_of_profile p (c.Int n) h = cc
truth_of_profile p (c.Num n) h = tt
truth_of_profile p (c.Text x) h = tt
truth_of_profile p (c.Day x) h = tt
truth_of_profile p (c.Period x) h = tt

-- ---- rules with their identifiers
pub all_with_ids : {R : Type 0} (P : R → Type 0) (name : R → Option (List ℕ)) (n : ℕ) (rs : List R) → AllByRecursion P rs → AllByRecursion (λ x. P x.1) (with_ids name n rs)
all_with_ids P name n [] h = tt
all_with_ids P name n (r ∷ rs) h = (h.0, all_with_ids P name (suc n) rs h.1)
