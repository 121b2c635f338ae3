-- Values and names at a place.
use Rattle.std.proofs.Common.{◌≡◌, ℕ, suc, ◌+◌, Bool, true, false, cond, List, [], ◌∷◌, map, Option, Some, None, is_none, not, Result, Ok, Err, refl, sym, ap, ◌∙◌, subst, true≢false, arith}
use Rattle.std.specs.List.{AllByRecursion}
use Rattle.std.specs.Map.{lookup}
use Rattle.std.specs.Option.{option_map_or}
use Rattle.std.proofs.lemmas.Bool.{not-false}
use Rattle.vtl_decimal.specs.Settings.{Settings}
use Rattle.vtl_cell.specs.ScalarKinds.{kinds_of}
use Rattle.vtl_cell.specs.declared.kind.Kind.{Kind}
use Rattle.vtl_cell.specs.declared.kind.Kind.TheVariants as k
use Rattle.vtl_cell.specs.declared.operator.ScalarOp.{ScalarOp}
use Rattle.vtl_lists.specs.Results.{◌>>=◌}
use Rattle.check_faults.specs.declared.rules.Rule.{Rule}
use Rattle.check_faults.specs.declared.rules.Rule.TheVariants as rule
use Rattle.vtl_syntax.specs.declared.parts.Comp.{Comp}
use Rattle.vtl_syntax.specs.declared.parts.Comp.TheVariants as comp
use Rattle.vtl_syntax.specs.declared.parts.Constant.{Constant}
use Rattle.vtl_tree.specs.CompExp.{CompExp, call, column}
use Rattle.vtl_tree.specs.Structure.{same_name}
use Rattle.vtl_tree.specs.Structures.{Named}
use Rattle.vtl_tree.specs.View.{comp_exps_of}
use Rattle.vtl_tree.specs.declared.structure.Component.{Component}
use Rattle.vtl_tree.specs.declared.structure.Structure.{Structure}
use Rattle.vtl_tree.specs.Names.{component_of, is_among, name_of}
use Rattle.check_values.specs.Calls.{call_form, call_kind, or_null}
use Rattle.check_values.specs.Columns.{column_from, column_typed}
use Rattle.vtl_tree.specs.Columns.{column_named, kind_named, place_of}
use Rattle.vtl_tree.specs.Kinds.{exp_kind}
use Rattle.vtl_cell.specs.OperatorKinds.{kind_by_operands}
use Rattle.check_values.specs.Literals.{constant_typed}
use Rattle.check_operators.specs.Places.{Env, Written, alone, component_typed, constant_form, known_by, name_typed, name_written, written_typed}
use Rattle.check_operators.specs.Typed.{TypedTree, value, dataset, of_value}
use Rattle.check_operators.specs.declared.places.Inside.{Inside}
use Rattle.check_operators.specs.declared.places.Place.{Place}
use Rattle.check_operators.specs.declared.places.Place.TheVariants as place
use Rattle.vtl_meaning.specs.Literals.{HasLiterals}
use Rattle.vtl_meaning.specs.Made.{IsColumnAt, IsTyped, IsTypedInGroups}
use Rattle.vtl_scripts.specs.Made.{IsMade}
use Rattle.vtl_meaning.specs.Shapes.{IsShaped}
use Rattle.check_laws.specs.Gives.{Gives}
use Rattle.check_laws.specs.WellTyped.{AreShaped, IsTypedIn, IsValueAt, IsWellTyped}
use Rattle.vtl_meaning.proofs.FoundColumns.{among-any}
use Rattle.vtl_meaning.proofs.Places.{same_name-is}
use Rattle.check_laws.proofs.Expressions.{call-in, call-typed, over-each}
use Rattle.check_laws.proofs.Literals.{constant-gives}
use Rattle.check_laws.proofs.Steps.{after, tested, tested-then, then, weaker}

-- what has no components holds at each place
pub at-any : (p : Settings) (at : Place) (r : Result CompExp Rule) → Gives (IsTyped p []) r → Gives (IsValueAt p at) r
at-any p place.Outside r h = h
at-any p (place.Inside i) r h = weaker (IsTyped p []) (IsTypedIn p i.grouping i.components) r (over-each p i.grouping i.components) h

pub value-tree : (env : Env) (at : Place) (r : Result CompExp Rule) → Gives (IsValueAt env.settings at) r → Gives (IsWellTyped env at) (r >>= of_value)
value-tree env at (Ok e) h = h
value-tree env at (Err broken) h = tt

-- ---- operators on values
call-at : (p : Settings) (at : Place) (o : ScalarOp) (kind : Kind) (es : List CompExp) → kinds_of o (map exp_kind es) ≡ Some kind → AllByRecursion (IsValueAt p at) es → HasLiterals o (comp_exps_of es) → IsValueAt p at (call o kind (comp_exps_of es))
call-at p place.Outside o kind es e h l = call-typed p [] o kind es e h l
call-at p (place.Inside i) o kind es e h l = call-in p i.grouping i.components o kind es e h l

pub values-give : (p : Settings) (at : Place) (o : ScalarOp) (literals : Bool) (args : List CompExp) → (literals ≡ true → HasLiterals o (comp_exps_of args)) → AllByRecursion (IsValueAt p at) args → Gives (IsValueAt p at) (call_form o literals args)
values-give p at o literals args fit h =
    tested (IsValueAt p at) ((rule.WrongKind, is_none (kind_by_operands o (map exp_kind args))) ∷ (rule.WrongLiteral, is_none (call_kind o args)) ∷ (rule.WrongLiteral, not literals) ∷ []) (call o (or_null (call_kind o args)) (comp_exps_of args)) (λ passed. call-at p at o (or_null (call_kind o args)) args (kind (call_kind o args) passed.1.0) h (fit (not-false literals passed.1.1.0)))
  where
    kind : (m : Option Kind) → is_none m ≡ false → m ≡ Some (or_null m)
    kind None e = absurd (true≢false e)
    kind (Some k) e = refl

-- ---- names
-- the first column of this name, where there is one
abbrev pub IsNamedIn : List Component → List ℕ → CompExp → Type 0
IsNamedIn xs name e = (e ≡ column_named xs name) × IsColumnAt (place_of name xs) name (kind_named name xs) xs

-- the same behind so many others
abbrev IsBehind : ℕ → List ℕ → (place : ℕ) → Kind → List Component → CompExp → Type 0
IsBehind n name place kind xs e = (e ≡ column (n + place) name kind) × IsColumnAt place name kind xs

column-from : (name : List ℕ) (xs : List Component) (n : ℕ) → Gives (IsBehind n name (place_of name xs) (kind_named name xs) xs) (column_from name n xs)
column-from name [] n = tt
column-from name (x ∷ xs) n = go (same_name x.name name) refl (column-from name xs (suc n))
  where
    go : (b : Bool) → same_name x.name name ≡ b → Gives (IsBehind (suc n) name (place_of name xs) (kind_named name xs) xs) (column_from name (suc n) xs) → Gives (IsBehind n name (cond (not b) (1 + place_of name xs) 0) (option_map_or (λ x. x.kind) (cond b (Some x) (component_of name xs)) k.Null) (x ∷ xs)) (cond b (Ok (column n x.name x.kind)) (column_from name (suc n) xs))
    go true h ih = let named : x.name ≡ name = same_name-is x.name name h in let first : n ≡ n + 0 = omega arith in (cc, (named, refl))
    go false h ih =
        weaker (IsBehind (suc n) name (place_of name xs) (kind_named name xs) xs) (IsBehind n name (1 + place_of name xs) (kind_named name xs) (x ∷ xs)) (column_from name (suc n) xs)
        (λ e is. let next : suc n + place_of name xs ≡ n + (1 + place_of name xs) = omega arith in let more : suc (place_of name xs) ≡ 1 + place_of name xs = omega arith in (is.0 ∙ ap (λ m. column m name (kind_named name xs)) next, subst (λ m. IsColumnAt m name (kind_named name xs) (x ∷ xs)) more is.1)) ih

pub column-gives : (name : List ℕ) (xs : List Component) → Gives (IsNamedIn xs name) (column_typed name xs)
column-gives name xs = weaker (IsBehind 0 name (place_of name xs) (kind_named name xs) xs) (IsNamedIn xs name) (column_typed name xs) (λ e is. let first : 0 + place_of name xs ≡ place_of name xs = omega arith in (is.0 ∙ ap (λ m. column m name (kind_named name xs)) first, is.1)) (column-from name xs 0)

pub component-gives : (env : Env) (i : Inside) (name : List ℕ) → Gives (IsWellTyped env (place.Inside i)) (component_typed i name)
component-gives env i name = then (IsNamedIn i.components name) (IsWellTyped env (place.Inside i)) (column_typed name i.components) (alone i.grouping name) (column-gives name i.components) one
  where
    P : Option (List (List ℕ)) → TypedTree → Type 0
    P g (value e) = IsTypedIn env.settings g i.components e
    P g (dataset n) = IsMade env.settings env.known n

    same : (g : Option (List (List ℕ))) (e : CompExp) → IsNamedIn i.components name e → Gives (P g) (alone g name e)
    same None e h = subst (λ e. IsTyped env.settings i.components e) (sym h.0) h.1
    same (Some names) e h = tested-then (P (Some names)) ((rule.AggregateMisuse, not (is_among name names)) ∷ []) (λ u. of_value e) (λ passed. subst (λ e. IsTypedInGroups env.settings names i.components e) (sym h.0) (h.1, sym (among-any name names) ∙ not-false (is_among name names) passed.0))

    one : (e : CompExp) → IsNamedIn i.components name e → Gives (IsWellTyped env (place.Inside i)) (alone i.grouping name e)
    one e h = weaker (P i.grouping) (IsWellTyped env (place.Inside i)) (alone i.grouping name e) (λ x k. there x k) (same i.grouping e h)
      where
        there : (x : TypedTree) → P i.grouping x → IsWellTyped env (place.Inside i) x
        there (value e) k = k
        there (dataset n) k = k

pub written-gives : (env : Env) (i : Inside) (w : Written) → Gives (IsWellTyped env (place.Inside i)) (written_typed i w)
unfolding written_typed
written-gives env i w = after (IsWellTyped env (place.Inside i)) (name_written i.joined w) (component_typed i) (component-gives env i)

pub constants-give : (env : Env) (at : Place) (c : Constant) → Gives (IsWellTyped env at) (constant_form env.settings c)
constants-give env at c = value-tree env at (constant_typed env.settings c) (at-any env.settings at (constant_typed env.settings c) (constant-gives env.settings [] c))

-- the structure of a known data set
pub known-shaped : (name : List ℕ) (known : Named) (s : Structure) → AreShaped known → lookup (same_name name) known ≡ Some s → IsShaped s
known-shaped name [] s are e = cc
known-shaped name (x ∷ known) s are e = go (same_name name x.0) e (known-shaped name known s are.1)
  where
    go : (b : Bool) → cond b (Some x.1) (lookup (same_name name) known) ≡ Some s → (lookup (same_name name) known ≡ Some s → IsShaped s) → IsShaped s
    go true e ih = let same : x.1 ≡ s = cc in subst IsShaped same are.0
    go false e ih = ih e

pub names-give : (env : Env) → AreShaped env.known → (at : Place) (c : Comp) → Gives (IsWellTyped env at) (name_typed env at c)
names-give env are place.Outside (comp.Name name) = go (lookup (same_name name) env.known) refl
  where
    go : (o : Option Structure) → lookup (same_name name) env.known ≡ o → Gives (IsWellTyped env place.Outside) (known_by name o)
    go None e = tt
    go (Some s) e = (known-shaped name env.known s are e, e)
names-give env are place.Outside (comp.Quoted name) = tt
names-give env are (place.Inside i) c = component-gives env i (name_of c)
