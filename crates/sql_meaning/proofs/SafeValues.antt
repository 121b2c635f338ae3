-- An expression that is safe has a value at each row of the profile.
use Rattle.std.proofs.Common.{◌≡◌, ◌≤◌, Bool, true, false, not, ◌&&◌, List, [], ◌∷◌, map, Option, Some, None, Ok, Err, refl, sym, ap, subst}
use Rattle.std.specs.Prelude.{IsOk}
use Rattle.std.specs.List.{AllByRecursion}
use Rattle.std.proofs.lemmas.Bool.{and_parts, not-true}
use Rattle.vtl_cell.specs.Conversion.{as_kind}
use Rattle.vtl_cell.specs.Outcome.{Outcome, after, fault_in, faults_by, join}
use Rattle.vtl_cell.specs.Outcomes.{all_of, branch, first_chosen, result_of}
use Rattle.vtl_cell.specs.Profile.{IsOfProfile}
use Rattle.vtl_cell.specs.Row.{Row}
use Rattle.vtl_cell.specs.ScalarArithmetic.{number, units}
use Rattle.vtl_cell.specs.Scalars.{scalar_of}
use Rattle.vtl_decimal.specs.Settings.{Settings}
use Rattle.vtl_cell.specs.declared.cell.Cell.{Cell}
use Rattle.vtl_cell.specs.declared.cell.Cell.TheVariants as c
use Rattle.vtl_cell.specs.declared.kind.Kind.{Kind}
use Rattle.vtl_cell.specs.declared.kind.Kind.TheVariants as k
use Rattle.vtl_cell.specs.declared.operator.ScalarOp.{ScalarOp}
use Rattle.vtl_cell.specs.declared.operator.ScalarOp.TheVariants as op
use Rattle.vtl_scalar.specs.LawOperators.{may_fault}
use Rattle.vtl_scalar.proofs.FaultLemmas.{integer_is_a_number, scalar_is_ok}
use Rattle.vtl_scalar.proofs.ProfileLemmas.{Gives, value_is_of_profile}
use Rattle.sql_tree.specs.Trees as tree
use Rattle.sql_tree.specs.Trees.{Branches, Exp, Exps}
use Rattle.sql_tree.specs.declared.parts.Literal.{Literal}
use Rattle.sql_check_parts.specs.Kinds.{kind_in}
use Rattle.sql_check_parts.specs.Scopes.{Scope}
use Rattle.sql_meaning.specs.Early.{are_safe, have_safe, is_safe}
use Rattle.sql_meaning.specs.From.{fault_at}
use Rattle.sql_meaning.specs.Outcomes.{operated}
use Rattle.sql_meaning.specs.Profiles.{AreOfProfile, IsRowOfProfile}
use Rattle.sql_meaning.specs.Tables.{Base}
use Rattle.sql_meaning.specs.Values.{View, at_rows, cell_at, chosen, constant_cell, is_there, literal_cell, place_in, set_operator, value, values}
use Rattle.sql_meaning.proofs.Profiled.{cell_is, constant_is, literal_is}

-- a value of the profile, and no fault
abbrev Sure : Settings → Outcome Cell → Type 0
Sure p m = (v : Cell) × (m ≡ Ok v) × IsOfProfile p v

sure_of : (p : Settings) (m : Outcome Cell) → IsOk m → Gives p m → Sure p m
sure_of p (Ok v) o g = (v, refl, g)
sure_of p (Err f) o g = cc

then_sure : {A : Type 0} (p : Settings) (P : A → Type 0) (m : Outcome A) (f : A → Outcome Cell) → (x : A) × (m ≡ Ok x) × P x → ((x : A) → P x → Sure p (f x)) → Sure p (after m f)
then_sure p P m f s h = subst (λ n. Sure p (after n f)) (sym s.1) (h s.0 s.2)

module _ (p : Settings) (small : p.scale ≤ 9) where
  kind_sure : (kind : Kind) (v : Cell) → IsOfProfile p v → Sure p (as_kind p kind v)
  kind_sure k.Num (c.Int n) h = (c.Num (units p n), ap number (integer_is_a_number p n small h), tt)
  kind_sure kind v h = (v, refl, h)

  all_sure : (ms : List (Outcome Cell)) → AllByRecursion (Sure p) ms → (vs : List Cell) × (all_of ms ≡ Ok vs) × IsRowOfProfile p vs
  all_sure [] h = ([], refl, tt)
  all_sure (m ∷ ms) h =
      let rest = all_sure ms h.1 in
      (h.0.0 ∷ rest.0, (λ i. after (h.0.1 i) (λ v. after (rest.1 i) (λ vs. Ok (v ∷ vs)))), (h.0.2, rest.2))

  operated_sure : (kind : Kind) (ms : List (Outcome Cell)) (o : ScalarOp) → may_fault o ≡ false → AllByRecursion (Sure p) ms → Sure p (operated p kind ms o)
  operated_sure kind ms o e h =
      then_sure p (IsRowOfProfile p) (all_of ms) (result_of p o kind) (all_sure ms h)
      (λ vs i. then_sure p (IsOfProfile p) (scalar_of p o vs) (as_kind p kind) (sure_of p (scalar_of p o vs) (scalar_is_ok p o vs small e i) (value_is_of_profile p o vs i)) (kind_sure kind))

  literals_sure : (ls : List Literal) → AllByRecursion (Sure p) (map (λ l. Ok (literal_cell p l)) ls)
  literals_sure [] = tt
  literals_sure (l ∷ ls) = ((literal_cell p l, refl, literal_is p l), literals_sure ls)

  set_is_safe : (negated : Bool) → may_fault (set_operator negated) ≡ false
  set_is_safe true = refl
  set_is_safe false = refl

  branch_sure : (o : Option Bool) (a d : Outcome Cell) → Sure p a → Sure p d → Sure p (branch o a d)
  branch_sure (Some true) a d h i = h
  branch_sure (Some false) a d h i = i
  branch_sure None a d h i = (c.Null, refl, tt)

module _ (b : Base) (small : b.settings.scale ≤ 9) (scope : Scope) (r : Row) (row : IsRowOfProfile b.settings r) where
  abbrev p : Settings
  p = b.settings

  abbrev v : View
  v = at_rows b scope

  mutual
    value_sure : (e : Exp) → is_safe e ≡ true → Sure p (value v e r [])
    value_sure (tree.binary x o y) h =
        let one = and_parts (not (may_fault o) && is_safe x) (is_safe y) h in
        let two = and_parts (not (may_fault o)) (is_safe x) one.0 in
        operated_sure p small (kind_in scope (tree.binary x o y)) (value v x r [] ∷ value v y r [] ∷ []) o (not-true (may_fault o) two.0) (value_sure x two.1, (value_sure y one.1, tt))
    value_sure (tree.unary o e) h =
        let two = and_parts (not (may_fault o)) (is_safe e) h in
        operated_sure p small (kind_in scope (tree.unary o e)) (value v e r [] ∷ []) o (not-true (may_fault o) two.0) (value_sure e two.1, tt)
    value_sure (tree.is_null e true) h =
        operated_sure p small k.Bool (operated p k.Bool (value v e r [] ∷ []) op.IsNull ∷ []) op.Not refl (operated_sure p small k.Bool (value v e r [] ∷ []) op.IsNull refl (value_sure e h, tt), tt)
    value_sure (tree.is_null e false) h = operated_sure p small k.Bool (value v e r [] ∷ []) op.IsNull refl (value_sure e h, tt)
    value_sure (tree.in_list e negated ls) h =
        operated_sure p small k.Bool (value v e r [] ∷ map (λ l. Ok (literal_cell p l)) ls) (set_operator negated) (set_is_safe p small negated) (value_sure e h, literals_sure p small ls)
    value_sure (tree.constant x) h = (constant_cell p x, refl, constant_is p x)
    value_sure (tree.column x) h = (cell_at v r x, refl, cell_is p (place_in scope x) r row)
    value_sure (tree.call f es) h =
        let two = and_parts (not (may_fault f)) (are_safe es) h in
        operated_sure p small (kind_in scope (tree.call f es)) (values v es r []) f (not-true (may_fault f) two.0) (values_sure es two.1)
    value_sure tree.count_all h = cc
    value_sure (tree.aggregate f e) h = cc
    value_sure (tree.case_when bs e) h =
        let two = and_parts (have_safe bs) (is_safe e) h in
        then_sure p (IsOfProfile p) (chosen v bs r [] (value v e r [])) (as_kind p (kind_in scope (tree.case_when bs e))) (chosen_sure bs two.0 (value v e r []) (value_sure e two.1)) (kind_sure p small (kind_in scope (tree.case_when bs e)))
    value_sure (tree.exists s es) h = (c.Bool (is_there v s es r), refl, tt)

    values_sure : (es : Exps) → are_safe es ≡ true → AllByRecursion (Sure p) (values v es r [])
    values_sure tree.no_exps h = tt
    values_sure (tree.exp e es) h = let two = and_parts (is_safe e) (are_safe es) h in (value_sure e two.0, values_sure es two.1)

    chosen_sure : (bs : Branches) → have_safe bs ≡ true → (last : Outcome Cell) → Sure p last → Sure p (chosen v bs r [] last)
    chosen_sure tree.no_branches h last s = s
    chosen_sure (tree.branch x w bs) h last s =
        let one = and_parts (is_safe x && is_safe w) (have_safe bs) h in
        let two = and_parts (is_safe x) (is_safe w) one.0 in
        let first = value_sure w two.1 in
        let others = chosen_sure bs one.1 last s in
        then_sure p (IsOfProfile p) (value v x r []) (λ t. branch (first_chosen t) (value v w r []) (chosen v bs r [] last)) (value_sure x two.0)
        (λ t i. branch_sure p small (first_chosen t) (value v w r []) (chosen v bs r [] last) first others)

  pub no_fault : (e : Exp) → is_safe e ≡ true → fault_at v e r ≡ None
  no_fault e h = ap fault_in (value_sure e h).1

-- and so none at many
pub no_faults : (b : Base) (small : b.settings.scale ≤ 9) (scope : Scope) (e : Exp) → is_safe e ≡ true → (rows : List Row) → AreOfProfile b.settings rows → faults_by (fault_at (at_rows b scope) e) rows ≡ None
no_faults b small scope e h [] all = refl
no_faults b small scope e h (r ∷ rows) all = λ i. join (no_fault b small scope r all.0 e h i) (no_faults b small scope e h rows all.1 i)
