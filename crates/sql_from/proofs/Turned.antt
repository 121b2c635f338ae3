-- Conditions of a select that are tried in turn.
use Rattle.std.proofs.Common.{◌≡◌, ℕ, Bool, true, false, cond, ◌&&◌, List, [], ◌∷◌, ◌++◌, map, Option, None, refl, sym, ap, ◌∙◌, subst}
use Rattle.std.specs.List.{AllByRecursion, filter, list_all}
use Rattle.std.proofs.lemmas.List.Elements.{filter-append}
use Rattle.std.proofs.lemmas.List.Folds.{list_all-append}
use Rattle.vtl_decimal.specs.declared.number.Fault.{Fault}
use Rattle.vtl_cell.specs.Outcome.{fault_in, faults_by, join}
use Rattle.vtl_cell.specs.Outcomes.{is_true}
use Rattle.vtl_decimal.specs.Settings.{Settings}
use Rattle.sql_tree.specs.Trees.{Exp}
use Rattle.sql_tree.specs.declared.word_groups.JoinKind.{JoinKind}
use Rattle.sql_tree.specs.declared.word_groups.JoinKind.TheVariants as joining
use Rattle.sql_meaning.specs.From.{partners}
use Rattle.sql_meaning.proofs.Lists.{all_parted}
use Rattle.sql_meaning.proofs.IndexedJoins.{no_faults}
use Rattle.sql_from.specs.Conditions.{conditions_at}
use Rattle.sql_from.specs.Joins.{Test, fault_of, in_turn, joined_tuples, kept_fault, kept_tuples, numbers_to, pairs_fault, passes, with_number}
use Rattle.sql_from.specs.Sources.{Sourced}
use Rattle.sql_from.specs.Standing.{condition_at}
use Rattle.sql_from.specs.Gains.{IsJoined}
use Rattle.sql_from.specs.declared.pairs.Walked.{Walked}
use Rattle.vtl_scalar.specs.Seen.{seen_of}
use Rattle.sql_from.proofs.Turns.{all_kept, no_fault_kept, turn_fault, turn_true}

if_none : (b : Bool) (fault : Option Fault) → fault ≡ None → cond b fault None ≡ None
if_none true fault e = e
if_none false fault e = refl

pub turns_sound : (p : Settings) (s : Sourced) (es : List Exp) (x : List ℕ) → AllByRecursion (λ e. fault_in (condition_at p s e x) ≡ None) es → fault_in (conditions_at p s es x) ≡ None
turns_sound p s [] x all = refl
turns_sound p s (e ∷ es) x all =
    turn_fault (condition_at p s e x) (conditions_at p s es x)
    ∙ (λ i. join (all.0 i) (if_none (is_true (condition_at p s e x)) (fault_in (conditions_at p s es x)) (turns_sound p s es x all.1) i))

pub turns_true : (p : Settings) (s : Sourced) (es : List Exp) (x : List ℕ) → is_true (conditions_at p s es x) ≡ list_all (λ e. is_true (condition_at p s e x)) es
turns_true p s [] x = refl
turns_true p s (e ∷ es) x = turn_true (condition_at p s e x) (conditions_at p s es x) ∙ ap (λ b. is_true (condition_at p s e x) && b) (turns_true p s es x)

-- a join by tests that are written otherwise
pub joined_as : (kind : JoinKind) (f f' g g' : Test) (marks : List ℕ) (count count' : ℕ) (a b : Walked) → f ≡ f' → g ≡ g' → count ≡ count' → IsJoined kind f g marks count a b → IsJoined kind f' g' marks count' a b
joined_as kind f f' g g' marks count count' a b on filtered many made =
    subst (λ (n : ℕ). IsJoined kind f' g' marks n a b) many (subst (λ (h : Test). IsJoined kind f' h marks count a b) filtered (subst (λ (h : Test). IsJoined kind h g marks count a b) on made))

-- ---- conditions of a join and then a filter, of an INNER join

module _ (p : Settings) (s : Sourced) (es ds : List Exp) where
  abbrev on : Test
  on = conditions_at p s es

  abbrev kept : Test
  kept = conditions_at p s ds

  abbrev all : Test
  all = conditions_at p s (es ++ ds)

  all_is : (x : List ℕ) → is_true (all x) ≡ (is_true (on x) && is_true (kept x))
  all_is x =
      turns_true p s (es ++ ds) x ∙ list_all-append (λ e. is_true (condition_at p s e x)) es ds
      ∙ (λ i. sym (turns_true p s es x) i && sym (turns_true p s ds x) i)

  one_tuple : (x : List ℕ) (js : List ℕ) → partners (passes all) with_number js x ≡ kept_tuples kept (partners (passes on) with_number js x)
  one_tuple x [] = refl
  one_tuple x (j ∷ js) = ap (λ b. map (with_number x) (cond b (j ∷ filter (passes all x) js) (filter (passes all x) js))) (all_is (with_number x j)) ∙ go (passes on x j) (one_tuple x js)
    where
      here : (b : Bool) → partners (passes all) with_number js x ≡ kept_tuples kept (partners (passes on) with_number js x)
          → map (with_number x) (cond b (j ∷ filter (passes all x) js) (filter (passes all x) js)) ≡ cond b (with_number x j ∷ kept_tuples kept (partners (passes on) with_number js x)) (kept_tuples kept (partners (passes on) with_number js x))
      here true ih = ap (λ l. with_number x j ∷ l) ih
      here false ih = ih

      go : (a : Bool) → partners (passes all) with_number js x ≡ kept_tuples kept (partners (passes on) with_number js x)
          → map (with_number x) (cond (a && passes kept x j) (j ∷ filter (passes all x) js) (filter (passes all x) js)) ≡ kept_tuples kept (map (with_number x) (cond a (j ∷ filter (passes on x) js) (filter (passes on x) js)))
      go true ih = here (passes kept x j) ih
      go false ih = ih

  pub inner_kept : (marks : List ℕ) (count : ℕ) (xs : List (List ℕ)) → joined_tuples joining.Inner all marks count xs ≡ kept_tuples kept (joined_tuples joining.Inner on marks count xs)
  inner_kept marks count [] = refl
  inner_kept marks count (x ∷ xs) =
      (λ i. one_tuple x (numbers_to count) i ++ inner_kept marks count xs i)
      ∙ sym (filter-append (λ z. is_true (kept z)) (partners (passes on) with_number (numbers_to count) x) (joined_tuples joining.Inner on marks count xs))

  module _ (sound : (x : List ℕ) → AllByRecursion (λ e. fault_in (condition_at p s e x) ≡ None) (es ++ ds)) where
    pub no_pairs_fault : (count : ℕ) (xs : List (List ℕ)) → pairs_fault on count xs ≡ None
    no_pairs_fault count xs =
        no_faults (λ x. faults_by (fault_of on x) (numbers_to count)) (λ x. no_faults (fault_of on x) (λ j. turns_sound p s es (with_number x j) (all_parted (λ e. fault_in (condition_at p s e (with_number x j)) ≡ None) es ds (sound (with_number x j))).0) (numbers_to count)) xs

    pub no_kept_fault : (xs : List (List ℕ)) → kept_fault kept xs ≡ None
    no_kept_fault xs = no_faults (λ x. fault_in (kept x)) (λ x. turns_sound p s ds x (all_parted (λ e. fault_in (condition_at p s e x) ≡ None) es ds (sound x)).1) xs

    pub no_fault_of_all : (count : ℕ) (xs : List (List ℕ)) → pairs_fault all count xs ≡ None
    no_fault_of_all count xs = no_faults (λ x. faults_by (fault_of all x) (numbers_to count)) (λ x. no_faults (fault_of all x) (λ j. turns_sound p s (es ++ ds) (with_number x j) (sound (with_number x j))) (numbers_to count)) xs

    -- a join by both, of which all is kept, is one by the first with the others as a filter
    pub together : (marks : List ℕ) (count : ℕ) (before behind : Walked) → IsJoined joining.Inner all (in_turn []) marks count before behind → IsJoined joining.Inner on kept marks count before behind
    together marks count before behind made =
        let xs = before.rows.tuples in
        let by_all = joined_tuples joining.Inner all marks count xs in
        record {
          width = made.width;
          rows = made.rows ∙ all_kept by_all ∙ inner_kept marks count xs;
          seen =
              made.seen
              ∙ ap (join (seen_of before.seen))
              ((λ i. join (no_fault_of_all count xs i) (no_fault_kept by_all i)) ∙ (λ i. join (sym (no_pairs_fault count xs) i) (sym (no_kept_fault (joined_tuples joining.Inner on marks count xs)) i)));
        }
