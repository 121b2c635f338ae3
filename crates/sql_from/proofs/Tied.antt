-- Equalities of EXISTS, one more.
use Rattle.std.proofs.Common.{◌≡◌, ℕ, ◌+◌, ◌<◌, ◌&&◌, List, [], ◌∷◌, ◌++◌, get_or, length, take, subst, sym, ap, ◌∙◌}
use Rattle.std.proofs.lemmas.List.{take_more}
use Rattle.std.specs.List.{list_all}
use Rattle.std.proofs.lemmas.Bool.{and_parts}
use Rattle.std.proofs.lemmas.List.Folds.{list_all-append}
use Rattle.vtl_cell.specs.Row.{Row}
use Rattle.vtl_decimal.specs.Settings.{Settings}
use Rattle.sql_eval.specs.Placed.{is_tied}
use Rattle.sql_eval.specs.declared.resolved.Tie.{Tie}
use Rattle.sql_from.specs.Joins.{with_number}
use Rattle.sql_from.specs.Keys.{all_paired, is_paired, row_in}
use Rattle.sql_from.specs.Partners.{AreTiedBy, AreTiesImplying, IsTiedBy}
use Rattle.sql_from.specs.Rows.{combined}
use Rattle.sql_from.specs.Sources.{Sourced, parts_of}
use Rattle.sql_from.specs.declared.key_pairs.KeyPair.{KeyPair}
use Rattle.sql_from.proofs.Conjunctions.{last_and}

-- all of some, and one more
ties_parted : (p : Settings) (outer inner : Row) (ties : List Tie) (t : Tie) → list_all (is_tied p outer inner) (ties ++ t ∷ []) ≡ (list_all (is_tied p outer inner) ties && is_tied p outer inner t)
ties_parted p outer inner ties t =
    list_all-append (is_tied p outer inner) ties (t ∷ []) ∙ ap (λ b. list_all (is_tied p outer inner) ties && b) (sym (last_and (is_tied p outer inner t)))

pairs_parted : (p : Settings) (own asked : Row) (keys keys' : List KeyPair) (pair : KeyPair) → keys' ≡ keys ++ pair ∷ [] → all_paired p own asked keys' ≡ (all_paired p own asked keys && is_paired p own asked pair)
pairs_parted p own asked keys keys' pair more =
    ap (all_paired p own asked) more ∙ list_all-append (is_paired p own asked) keys (pair ∷ []) ∙ ap (λ b. all_paired p own asked keys && b) (sym (last_and (is_paired p own asked pair)))

module _ (s : Sourced) (lead : ℕ) (t : Tie) (keys keys' : List KeyPair) (ties : List Tie) where
  pub tied_more : (pair : KeyPair) → IsTiedBy s lead t pair → keys' ≡ keys ++ pair ∷ [] → AreTiedBy s lead ties keys → AreTiedBy s lead (ties ++ t ∷ []) keys'
  tied_more pair is more before p inner front last whole =
      let outer = combined (parts_of s.sources) (with_number front last) in
      let asked = row_in s lead (with_number front last) in
      ties_parted p outer inner ties t
      ∙ (λ i. before p inner front last whole i && is.same p inner front last whole i)
      ∙ sym (pairs_parted p inner asked keys keys' pair more)

  pub implied_more : (pair : KeyPair) → IsTiedBy s lead t pair → keys' ≡ keys ++ pair ∷ [] → AreTiesImplying s lead ties keys → AreTiesImplying s lead (ties ++ t ∷ []) keys'
  implied_more pair is more before p inner front last whole h =
      let outer = combined (parts_of s.sources) (with_number front last) in
      let asked = row_in s lead (with_number front last) in
      let both = and_parts (list_all (is_tied p outer inner) ties) (is_tied p outer inner t) (sym (ties_parted p outer inner ties t) ∙ h) in
      pairs_parted p inner asked keys keys' pair more
      ∙ (λ i. before p inner front last whole both.0 i && (sym (is.same p inner front last whole) ∙ both.1) i)

  -- where no pair is added
  pub implied_still : keys' ≡ keys → AreTiesImplying s lead ties keys → AreTiesImplying s lead (ties ++ t ∷ []) keys'
  implied_still same before p inner front last whole h =
      let outer = combined (parts_of s.sources) (with_number front last) in
      let both = and_parts (list_all (is_tied p outer inner) ties) (is_tied p outer inner t) (sym (ties_parted p outer inner ties t) ∙ h) in
      ap (all_paired p inner (row_in s lead (with_number front last))) same ∙ before p inner front last whole both.0

-- the first equalities, one more
pub implied_step : (s : Sourced) (lead : ℕ) (ties : List Tie) (i : ℕ) (t : Tie) (keys keys' : List KeyPair) → i < length ties → t ≡ get_or ties i t → AreTiesImplying s lead (take i ties) keys
    → ((ts : List Tie) → AreTiesImplying s lead ts keys → AreTiesImplying s lead (ts ++ t ∷ []) keys') → AreTiesImplying s lead (take (i + 1) ties) keys'
implied_step s lead ties i t keys keys' h at before more =
    subst (λ (ts : List Tie). AreTiesImplying s lead ts keys') (sym (take_more ties i t h ∙ ap (λ u. take i ties ++ u ∷ []) (sym at))) (more (take i ties) before)

pub tied_step : (s : Sourced) (lead : ℕ) (ties : List Tie) (i : ℕ) (t : Tie) (keys keys' : List KeyPair) → i < length ties → t ≡ get_or ties i t → AreTiedBy s lead (take i ties) keys
    → ((ts : List Tie) → AreTiedBy s lead ts keys → AreTiedBy s lead (ts ++ t ∷ []) keys') → AreTiedBy s lead (take (i + 1) ties) keys'
tied_step s lead ties i t keys keys' h at before more =
    subst (λ (ts : List Tie). AreTiedBy s lead ts keys') (sym (take_more ties i t h ∙ ap (λ u. take i ties ++ u ∷ []) (sym at))) (more (take i ties) before)
