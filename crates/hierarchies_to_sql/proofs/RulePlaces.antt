-- The rules of places, one after the other.
use Rattle.std.proofs.Common.{◌≡◌, ◌<◌, ◌≤◌, ◌+◌, ℕ, List, [], ◌∷◌, ◌++◌, Option, Some, None, get_or, length, option_map, refl, sym, ap, take, ◌∙◌, append-nil}
use Rattle.std.specs.Borrow.{Bor}
use Rattle.std.specs.List.{HoldsAt, cons_option, filter_map, slice_get}
use Rattle.std.specs.Option.{MatchOption}
use Rattle.std.specs.Prelude.{IfSome}
use Rattle.std.proofs.lemmas.List.{take_more}
use Rattle.std.proofs.lemmas.List.Elements.{filter_map-append}
use Rattle.std.proofs.lemmas.Option.{slice_get_past, slice_get_read}
use Rattle.vtl_syntax.specs.declared.statements.HierRule.{HierRule}

-- what a place gives
pub got : (o : Option (Bor HierRule)) (rules : List HierRule) (i : ℕ) → IfSome o (λ x. x.now ≡ get_or rules i x.now) → MatchOption o (length rules ≤ i) (λ x. i < length rules × HoldsAt (λ y. x.now ≡ y) rules i) → option_map (λ x. x.now) o ≡ slice_get rules i
got None rules i e h = sym (slice_get_past rules i h)
got (Some x) rules i e h = sym (slice_get_read rules (length rules) i x.now refl h.0 e)

module _ (rules : List HierRule) (order : List ℕ) (i : ℕ) (within : i < length order) where
  abbrev before : List HierRule
  before = filter_map (slice_get rules) (take i order)

  at_place : filter_map (slice_get rules) (take (i + 1) order) ≡ before ++ cons_option (slice_get rules (get_or order i 0)) []
  at_place = ap (filter_map (slice_get rules)) (take_more order i 0 within) ∙ filter_map-append (slice_get rules) (take i order) (get_or order i 0 ∷ [])

  pub place_there : (rule : HierRule) → slice_get rules (get_or order i 0) ≡ Some rule → before ++ rule ∷ [] ≡ filter_map (slice_get rules) (take (i + 1) order)
  place_there rule e = sym (at_place ∙ ap (λ (o : Option HierRule). before ++ cons_option o []) e)

  pub no_place : slice_get rules (get_or order i 0) ≡ None → before ≡ filter_map (slice_get rules) (take (i + 1) order)
  no_place e = sym (at_place ∙ ap (λ (o : Option HierRule). before ++ cons_option o []) e ∙ append-nil before)
