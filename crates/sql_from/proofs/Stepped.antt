-- A join step by step: what becomes of the left tuples, and then of the rows that are not marked.
use Rattle.std.proofs.Common.{◌≡◌, ℕ, List, ◌++◌, Bool, false, cond, Option, None, replicate, sym, ap, ◌∙◌, subst}
use Rattle.std.specs.List.{flat_map}
use Rattle.std.proofs.lemmas.List.Elements.{filter-append}
use Rattle.vtl_decimal.specs.declared.number.Fault.{Fault}
use Rattle.vtl_cell.specs.Outcome.{fault_in, join}
use Rattle.vtl_cell.specs.Outcomes.{is_true}
use Rattle.vtl_scalar.specs.Seen.{seen_of}
use Rattle.sql_tree.specs.declared.word_groups.JoinKind.{JoinKind}
use Rattle.sql_meaning.proofs.UpToOrder.{faults_by-append, join_assoc}
use Rattle.sql_from.specs.Gains.{AreMarked, Gains}
use Rattle.sql_from.specs.Joins.{Test, from_left, joined_tuples, keeps_left, keeps_right, kept_fault, kept_tuples, pairs_fault, partner_numbers, unmarked}
use Rattle.sql_from.specs.declared.pairs.Walked.{Walked}
use Rattle.sql_from.proofs.Joins.{joined_made}

module _ (kind : JoinKind) (f g : Test) (marks : List ℕ) (count : ℕ) (xs : List (List ℕ)) (keeps : Bool) (keeps_is : keeps ≡ keeps_left kind) (start met slice : List Bool) (start_is : start ≡ replicate (cond (keeps_right kind) count 0) false)
    (marked : AreMarked (partner_numbers f count xs) start met) (slice_is : slice ≡ met) (a b : Walked) (gains : Gains g None (unmarked marks slice) a b) where
  abbrev lefts : List (List ℕ)
  lefts = flat_map (from_left keeps f count) xs

  made : lefts ++ unmarked marks slice ≡ joined_tuples kind f marks count xs
  made =
      (λ i. flat_map (from_left (keeps_is i) f count) xs ++ unmarked marks (slice_is i))
      ∙ joined_made kind f marks count xs met (subst (λ (s : List Bool). AreMarked (partner_numbers f count xs) s met) start_is marked)

  pub step_rows : a.rows.tuples ≡ kept_tuples g lefts → b.rows.tuples ≡ kept_tuples g (joined_tuples kind f marks count xs)
  step_rows rows =
      gains.rows ∙ ap (λ l. l ++ kept_tuples g (unmarked marks slice)) rows
      ∙ sym (filter-append (λ x. is_true (g x)) lefts (unmarked marks slice))
      ∙ ap (kept_tuples g) made

  pub step_seen : (before : Option Fault) → seen_of a.seen ≡ join before (join (pairs_fault f count xs) (kept_fault g lefts)) → seen_of b.seen ≡ join before (join (pairs_fault f count xs) (kept_fault g (joined_tuples kind f marks count xs)))
  step_seen before seen =
      let p = pairs_fault f count xs in
      let more = kept_fault g (unmarked marks slice) in
      gains.seen ∙ ap (λ s. join s more) seen
      ∙ join_assoc before (join p (kept_fault g lefts)) more
      ∙ ap (join before) (join_assoc p (kept_fault g lefts) more ∙ ap (join p) (sym (faults_by-append (λ x. fault_in (g x)) lefts (unmarked marks slice)) ∙ ap (kept_fault g) made))
