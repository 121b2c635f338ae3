-- A join whose ON is a conjunction of equalities may go by an index: it has the same rows, and no fault.
use Rattle.std.proofs.Common.{◌≡◌, true, false, Bool, ◌&&◌, List, [], ◌∷◌, ◌++◌, length, Option, Some, None, Ok, refl, sym, ap, ◌∙◌, true≢false}
use Rattle.std.specs.List.{AllByRecursion, list_all}
use Rattle.std.specs.Ordering.{is_eq}
use Rattle.vtl_cell.specs.Conversion.{as_kind}
use Rattle.vtl_cell.specs.Logic.{and_of}
use Rattle.vtl_decimal.specs.declared.number.Fault.{Fault}
use Rattle.vtl_cell.specs.Outcome.{Outcome, fault_in, faults_by, join}
use Rattle.vtl_cell.specs.Outcomes.{is_true}
use Rattle.vtl_cell.specs.Row.{Row}
use Rattle.vtl_cell.specs.ScalarChoice.{on_truths, truth_in}
use Rattle.vtl_cell.specs.ScalarComparison.{compared, truth}
use Rattle.vtl_decimal.specs.Settings.{Settings}
use Rattle.vtl_cell.specs.declared.cell.Cell.{Cell}
use Rattle.vtl_cell.specs.declared.kind.Kind.{Kind}
use Rattle.vtl_cell.specs.declared.kind.Kind.TheVariants as k
use Rattle.vtl_cell.specs.declared.operator.ScalarOp.TheVariants as op
use Rattle.sql_tree.specs.Trees as tree
use Rattle.sql_tree.specs.Trees.{Exp, JoinTree, Text}
use Rattle.sql_check_parts.specs.Kinds.{kind_in}
use Rattle.sql_check_parts.specs.Scopes.{row_of, with_source}
use Rattle.sql_meaning.specs.From.{Joined, fault_at, holds, joined_rows, pairs, with_join}
use Rattle.sql_meaning.specs.Outcomes.{operated}
use Rattle.sql_meaning.specs.Plans.{IsEqualityJoin, are_sides, conjuncts, is_side_equality, with_index}
use Rattle.sql_meaning.specs.Tables.{Base, columns_given, rows_from}
use Rattle.sql_meaning.specs.Values.{View, at_rows, cell_at, value}
use Rattle.sql_meaning.proofs.UpToOrder.{join_none}

-- ---- values that are true, false or null

abbrev IsTruth : Outcome Cell → Type 0
IsTruth m = (o : Option Bool) × (m ≡ Ok (truth o))

pub truth_stays : (p : Settings) (kind : Kind) (o : Option Bool) → as_kind p kind (truth o) ≡ Ok (truth o)
truth_stays p k.Null o = refl
truth_stays p k.Bool o = refl
truth_stays p k.Int o = refl
truth_stays p k.Num None = refl
truth_stays p k.Num (Some b) = refl
truth_stays p k.Text o = refl
truth_stays p k.Day o = refl
truth_stays p k.Period o = refl

both_truths : (o u : Option Bool) → on_truths and_of (truth_in (truth o)) (truth_in (truth u)) ≡ truth (and_of o u)
both_truths None None = refl
both_truths None (Some b) = refl
both_truths (Some a) None = refl
both_truths (Some a) (Some b) = refl

both_true : (o u : Option Bool) → is_true (Ok (truth (and_of o u))) ≡ (is_true (Ok (truth o)) && is_true (Ok (truth u)))
both_true None None = refl
both_true None (Some true) = refl
both_true None (Some false) = refl
both_true (Some true) u = refl
both_true (Some false) u = refl

-- AND of two
joined_truth : (p : Settings) (kind : Kind) (m n : Outcome Cell) (one : IsTruth m) (two : IsTruth n) → operated p kind (m ∷ n ∷ []) op.And ≡ Ok (truth (and_of one.0 two.0))
joined_truth p kind m n one two =
    (λ i. operated p kind (one.1 i ∷ two.1 i ∷ []) op.And)
    ∙ ap (as_kind p kind) (both_truths one.0 two.0)
    ∙ truth_stays p kind (and_of one.0 two.0)

-- ---- conjunctions of equalities

module _ (v : View) (alias : Text) (r : Row) where
  abbrev AreEqualities : List Exp → Type 0
  AreEqualities es = AllByRecursion (λ x. is_side_equality alias x ≡ true) es

  parted : (xs ys : List Exp) → AreEqualities (xs ++ ys) → AreEqualities xs × AreEqualities ys
  parted [] ys h = (tt, h)
  parted (x ∷ xs) ys h = let rest = parted xs ys h.1 in ((h.0, rest.0), rest.1)

  all_append : (t : Exp → Bool) (xs ys : List Exp) → list_all t (xs ++ ys) ≡ (list_all t xs && list_all t ys)
  all_append t [] ys = refl
  all_append t (x ∷ xs) ys = ap (λ b. t x && b) (all_append t xs ys) ∙ grouped (t x) (list_all t xs) (list_all t ys)
    where
      grouped : (a b d : Bool) → (a && (b && d)) ≡ ((a && b) && d)
      grouped true b d = refl
      grouped false b d = refl

  and_true : (b : Bool) → b ≡ (b && true)
  and_true true = refl
  and_true false = refl

  -- such a conjunction has a truth, which is that all its parts are true
  record Conjoined (e : Exp) : Type 0 where
    truth_of : IsTruth (value v e r [])
    all_hold : holds v e r ≡ list_all (λ x. holds v x r) (conjuncts e)

  equality : (a b : Exp) → are_sides alias a b ≡ true → Conjoined (tree.binary a op.Equal b)
  equality (tree.column x) (tree.column y) h =
      let o = compared is_eq v.base.settings (cell_at v r x) (cell_at v r y) in
      record {
        truth_of = (o, truth_stays v.base.settings (kind_in v.scope (tree.binary (tree.column x) op.Equal (tree.column y))) o);
        all_hold = and_true (holds v (tree.binary (tree.column x) op.Equal (tree.column y)) r);
      }
  equality a b h = absurd (true≢false (sym h))

  conjoined : (e : Exp) → AreEqualities (conjuncts e) → Conjoined e
  conjoined (tree.binary a op.And b) h =
      let two = parted (conjuncts a) (conjuncts b) h in
      let first = conjoined a two.0 in
      let second = conjoined b two.1 in
      let kind = kind_in v.scope (tree.binary a op.And b) in
      let both = joined_truth v.base.settings kind (value v a r []) (value v b r []) first.truth_of second.truth_of in
      record {
        truth_of = (and_of first.truth_of.0 second.truth_of.0, both);
        all_hold =
            ap is_true both
            ∙ both_true first.truth_of.0 second.truth_of.0
            ∙ (λ i. is_true (sym first.truth_of.1 i) && is_true (sym second.truth_of.1 i))
            ∙ (λ i. first.all_hold i && second.all_hold i)
            ∙ sym (all_append (λ x. holds v x r) (conjuncts a) (conjuncts b));
      }
  conjoined (tree.binary a op.Equal b) h = equality a b h.0
  conjoined e h = absurd (true≢false (sym h.0))

-- ---- joins

pub no_faults : {X : Type 0} (f : X → Option Fault) → ((x : X) → f x ≡ None) → (xs : List X) → faults_by f xs ≡ None
no_faults f h [] = refl
no_faults f h (x ∷ xs) = λ i. join (h x i) (no_faults f h xs i)

pub index_same : (b : Base) (f : Joined) (j : JoinTree) → IsEqualityJoin j → with_index b f j ≡ with_join b f j
index_same b f (tree.cross s) h = refl
index_same b f (tree.on kind s e) h =
    let v = at_rows b (with_source b.tables f.scope s) in
    let all : Row → Bool = λ r. list_all (λ x. holds v x r) (conjuncts e) in
    let same : all ≡ holds v e = λ i r. sym (conjoined v s.alias r e h).all_hold i in
    let sound : (r : Row) → fault_at v e r ≡ None = λ r. ap fault_in (conjoined v s.alias r e h).truth_of.1 in
    let fault : f.fault ≡ join f.fault (faults_by (fault_at v e) (pairs f.rows (rows_from b s))) = sym (join_none f.fault) ∙ ap (join f.fault) (sym (no_faults (fault_at v e) sound (pairs f.rows (rows_from b s)))) in
    λ i. record {
      scope = v.scope;
      rows = joined_rows kind (same i) (length (row_of f.scope)) (length (columns_given b.tables s)) f.rows (rows_from b s);
      fault = fault i;
    }
