-- The truth of AND and of an equality.
use Rattle.std.proofs.Common.{◌≡◌, ℕ, Bool, true, false, ◌&&◌, List, [], ◌∷◌, ◌++◌, None, Ok, Err, refl, sym, ap, ◌∙◌}
use Rattle.std.specs.Ordering.{is_eq}
use Rattle.std.specs.List.{list_all}
use Rattle.std.proofs.lemmas.Bool.{and_parts}
use Rattle.std.proofs.lemmas.List.Folds.{list_all-append}
use Rattle.vtl_cell.specs.Logic.{and_of}
use Rattle.vtl_cell.specs.Outcome.{Outcome, fault_in}
use Rattle.vtl_cell.specs.Outcomes.{is_true}
use Rattle.vtl_cell.specs.Row.{column_of}
use Rattle.vtl_cell.specs.ScalarChoice.{on_truths, truth_in}
use Rattle.vtl_cell.specs.ScalarComparison.{compared}
use Rattle.vtl_decimal.specs.Settings.{Settings}
use Rattle.vtl_cell.specs.declared.cell.Cell.{Cell}
use Rattle.vtl_cell.specs.declared.cell.Cell.TheVariants as c
use Rattle.vtl_cell.specs.declared.kind.Kind.{Kind}
use Rattle.vtl_cell.specs.declared.operator.ScalarOp.TheVariants as op
use Rattle.vtl_rows.specs.Places.{row_at}
use Rattle.sql_tree.specs.Trees as tree
use Rattle.sql_tree.specs.Trees.{Exp}
use Rattle.sql_tree.specs.declared.parts.Column.{Column}
use Rattle.sql_meaning.specs.Outcomes.{operated}
use Rattle.sql_meaning.specs.Values.{place_in}
use Rattle.sql_meaning.proofs.EarlyTried.{both_hold, truth_kept}
use Rattle.sql_meaning.proofs.IndexedJoins.{truth_stays}
use Rattle.sql_from.specs.Joins.{with_number}
use Rattle.sql_from.specs.Keys.{AllImplied, AllPaired, AreImplied, ArePaired, IsPairOf, all_paired, is_paired, last_of, row_in}
use Rattle.sql_from.specs.Rows.{combined}
use Rattle.sql_from.specs.Sources.{Sourced, parts_of, scope_held}
use Rattle.sql_from.specs.Standing.{condition_at}
use Rattle.sql_from.specs.declared.key_pairs.KeyPair.{KeyPair}

both_true : (u v : Cell) → is_true (Ok (on_truths and_of (truth_in u) (truth_in v))) ≡ (is_true (Ok u) && is_true (Ok v))
both_true (c.Bool true) (c.Bool b) = refl
both_true (c.Bool true) c.Null = refl
both_true (c.Bool true) v = refl
both_true (c.Bool false) (c.Bool b) = refl
both_true (c.Bool false) c.Null = refl
both_true (c.Bool false) v = refl
both_true c.Null (c.Bool true) = refl
both_true c.Null (c.Bool false) = refl
both_true c.Null c.Null = refl
both_true c.Null v = refl
both_true u v = refl

-- AND of two that have no fault
record Conjoined (p : Settings) (kind : Kind) (m n : Outcome Cell) : Type 0 where
  sound : fault_in (operated p kind (m ∷ n ∷ []) op.And) ≡ None
  same : is_true (operated p kind (m ∷ n ∷ []) op.And) ≡ (is_true m && is_true n)

conjoined : (p : Settings) (kind : Kind) (m n : Outcome Cell) → fault_in m ≡ None → fault_in n ≡ None → Conjoined p kind m n
conjoined p kind (Ok u) (Ok v) e f =
    let is = truth_kept p kind (truth_in u) (truth_in v) in
    record { sound = ap fault_in is; same = ap is_true is ∙ both_true u v }
conjoined p kind (Ok u) (Err g) e f = cc
conjoined p kind (Err g) n e f = cc

grouped : (a b d : Bool) → (a && (b && d)) ≡ ((a && b) && d)
grouped true b d = refl
grouped false b d = refl

pub conjunction_paired : (s : Sourced) (lead : ℕ) (a b : Exp) (first mid all : List KeyPair) → ArePaired s lead a first mid → ArePaired s lead b mid all → ArePaired s lead (tree.binary a op.And b) first all
conjunction_paired s lead a b first mid all h g p front last whole =
    let x = with_number front last in
    let one = h p front last whole in
    let two = g p front last whole in
    let own = row_at (last_of s).rows last in
    let asked = row_in s lead front in
    let both = conjoined p _ (condition_at p s a x) (condition_at p s b x) one.sound two.sound in
    record {
      sound = both.sound;
      same =
          ap (λ t. all_paired p own asked first && t) both.same
          ∙ grouped (all_paired p own asked first) (is_true (condition_at p s a x)) (is_true (condition_at p s b x))
          ∙ ap (λ t. t && is_true (condition_at p s b x)) one.same
          ∙ two.same;
    }

pub last_and : (b : Bool) → b ≡ (b && true)
last_and true = refl
last_and false = refl

pub conjunction_implied : (s : Sourced) (lead : ℕ) (a b : Exp) (first mid all : List KeyPair) → AreImplied s lead a first mid → AreImplied s lead b mid all → AreImplied s lead (tree.binary a op.And b) first all
conjunction_implied s lead a b first mid all h g p front last whole t before =
    let both = both_hold p _ (condition_at p s a (with_number front last)) (condition_at p s b (with_number front last)) t in
    g p front last whole both.1 (h p front last whole both.0 before)

pub paired_implied : (s : Sourced) (lead : ℕ) (e : Exp) (first all : List KeyPair) → ArePaired s lead e first all → AreImplied s lead e first all
paired_implied s lead e first all h p front last whole t before = sym (h p front last whole).same ∙ (λ i. before i && t i)

-- one condition more
pub all_implied_more : (s : Sourced) (lead : ℕ) (es : List Exp) (e : Exp) (keys more : List KeyPair) → AllImplied s lead es keys → AreImplied s lead e keys more → AllImplied s lead (es ++ e ∷ []) more
all_implied_more s lead es e keys more before here p front last whole t =
    let x = with_number front last in
    let true_at : Exp → Bool = λ d. is_true (condition_at p s d x) in
    let both = and_parts (list_all true_at es) (true_at e && true) (sym (list_all-append true_at es (e ∷ [])) ∙ t) in
    here p front last whole (last_and (true_at e) ∙ both.1) (before p front last whole both.0)

pub all_paired_more : (s : Sourced) (lead : ℕ) (es : List Exp) (e : Exp) (keys more : List KeyPair) → AllPaired s lead es keys → ArePaired s lead e keys more → AllPaired s lead (es ++ e ∷ []) more
all_paired_more s lead es e keys more before here p front last whole =
    let x = with_number front last in
    let true_at : Exp → Bool = λ d. is_true (condition_at p s d x) in
    list_all-append true_at es (e ∷ [])
    ∙ (λ i. before p front last whole i && sym (last_and (true_at e)) i)
    ∙ (here p front last whole).same

pub equality_paired : (s : Sourced) (lead : ℕ) (x y : Column) (first all : List KeyPair) (pair : KeyPair) → IsPairOf s lead x y pair → all ≡ first ++ pair ∷ [] → ArePaired s lead (tree.binary (tree.column x) op.Equal (tree.column y)) first all
equality_paired s lead x y first all pair is more p front last whole =
    let r = combined (parts_of s.sources) (with_number front last) in
    let a = column_of (place_in (scope_held s.sources) x) r in
    let b = column_of (place_in (scope_held s.sources) y) r in
    let own = row_at (last_of s).rows last in
    let asked = row_in s lead front in
    let stays = truth_stays p _ (compared is_eq p a b) in
    record {
      sound = ap fault_in stays;
      same =
          ap (λ m. all_paired p own asked first && is_true m) stays
          ∙ ap (λ t. all_paired p own asked first && t) (is p front last whole ∙ last_and (is_paired p own asked pair))
          ∙ sym (list_all-append (is_paired p own asked) first (pair ∷ []))
          ∙ ap (all_paired p own asked) (sym more);
    }
