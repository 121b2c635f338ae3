-- The queries of two and of three operands, as they are written.
use Rattle.std.proofs.Common.{◌≡◌, ℕ, ◌+◌, Bool, true, false, nat_lt, List, [], ◌∷◌, ◌++◌, length, map, cond, Option, None, Some, append_assoc, if◌then◌else◌, refl, sym, ap, ◌∙◌, arith}
use Rattle.std.proofs.lemmas.Bool.{le-ltb}
use Rattle.vtl_decimal.specs.Settings.{Settings}
use Rattle.vtl_cell.specs.declared.operator.ScalarOp.{ScalarOp}
use Rattle.vtl_cell.specs.declared.operator.ScalarOp.TheVariants as op
use Rattle.vtl_tree.specs.CompExp.{CompExp}
use Rattle.vtl_tree.specs.Structure.{columns_of, key_width, of_role}
use Rattle.vtl_tree.specs.declared.structure.Component.{Component}
use Rattle.vtl_tree.specs.declared.structure.Role.TheVariants as role
use Rattle.vtl_tree.specs.declared.structure.Structure.{Structure}
use Rattle.vtl_tree.specs.Pairs.{contains}
use Rattle.vtl_tree.specs.Columns.{column_behind, column_named, columns_named, identifiers_of, measures_of, place_of}
use Rattle.vtl_meaning.specs.Operators.{for_measures, with_namesake}
use Rattle.sql_tree.specs.Trees as tree
use Rattle.sql_tree.specs.Trees.{Exp, ItemTree, QueryTree, SelectTree, Text}
use Rattle.sql_tree.specs.declared.parts.Column.{Column}
use Rattle.sql_tree.specs.declared.parts.Literal.TheVariants as literal
use Rattle.sql_tree.specs.declared.word_groups.JoinKind.TheVariants as joining
use Rattle.expressions_to_sql.specs.ToSql.{column_of, operator_to_sql, to_sql}
use Rattle.selects_to_sql.specs.Items.{all_of, for_each_two, items_for}
use Rattle.selects_to_sql.specs.PairItems.{agreement_on, chosen, chosen_from, from_two, joined_by, lead_column, lead_item, namesake_item, not_chosen, paired_from, paired_of, second_item}
use Rattle.selects_to_sql.specs.Queries.{agree, agrees_on, choose_query, chosen_exps, condition_for, conjunction, first_alias, is_chosen, is_not_chosen, item_as, of_two, pair_query, pairs_select, second_alias, source_as}
use Rattle.selects_to_sql.proofs.Conjunctions.{conjunction_to_sql}

-- ---- columns

above : (n k : ℕ) → nat_lt (n + k) n ≡ false
above n k = le-ltb (n + k) n (omega arith)

-- a column behind those of the first source is one of the second
pub second_of : (n k : ℕ) (name : Text) → of_two n (n + k) name ≡ column_of second_alias name
second_of n k name = ap (λ b. column_of (if b then first_alias else second_alias) name) (above n k)

-- it stands nowhere else than the first of them
behind_of : (n k : ℕ) (name : Text) → of_two n (n + k) name ≡ of_two n n name
behind_of n k name = second_of n k name ∙ sym (ap (λ m. of_two n m name) (sym (zero_behind n)) ∙ second_of n 0 name)
  where
    zero_behind : (n : ℕ) → n + 0 ≡ n
    zero_behind n = omega arith

-- ---- items

pub lead_first : (p : Settings) (xs ys zs : List Component) (es : List CompExp) → items_for p (of_two (length xs)) (columns_named xs ys ++ es) (ys ++ zs) ≡ map (lead_item xs) ys ++ items_for p (of_two (length xs)) es zs
lead_first p xs [] zs es = refl
lead_first p xs (y ∷ ys) zs es = ap (λ l. lead_item xs y ∷ l) (lead_first p xs ys zs es)

seconds : (p : Settings) (n : ℕ) (ys ms rest : List Component) → items_for p (of_two n) (map (λ y. column_behind n ys y.name) ms) (ms ++ rest) ≡ map second_item ms
seconds p n ys [] rest = refl
seconds p n ys (m ∷ ms) rest =
    ap (λ c. item_as m.name (tree.column c) ∷ items_for p (of_two n) (map (λ (y : Component). column_behind n ys y.name) ms) (ms ++ rest)) (second_of n (place_of m.name ys) m.name)
    ∙ ap (λ l. second_item m ∷ l) (seconds p n ys ms rest)

-- an operator between a column of the first source and one of the second, either way round
abbrev operated : ScalarOp → (left right : Column) → Exp
operated o left right = operator_to_sql o (literal.False ∷ []) (tree.exp (tree.column left) (tree.exp (tree.column right) tree.no_exps))

left_leads : (p : Settings) (o : ScalarOp) (xs ys us ms rest : List Component)
    → items_for p (of_two (length xs)) (for_measures (with_namesake o (column_named xs) (column_behind (length xs) ys)) us ms) (ms ++ rest) ≡ for_each_two (namesake_item p o true xs) us ms
left_leads p o xs ys [] ms rest = refl
left_leads p o xs ys (u ∷ us) [] rest = refl
left_leads p o xs ys (u ∷ us) (m ∷ ms) rest =
    let n = length xs in
    ap (λ c. item_as m.name (operated o (of_two n (place_of u.name xs) u.name) c) ∷ items_for p (of_two n) (for_measures (with_namesake o (column_named xs) (column_behind n ys)) us ms) (ms ++ rest)) (behind_of n (place_of u.name ys) u.name)
    ∙ ap (λ l. namesake_item p o true xs u m ∷ l) (left_leads p o xs ys us ms rest)

right_leads : (p : Settings) (o : ScalarOp) (xs ys us ms rest : List Component)
    → items_for p (of_two (length xs)) (for_measures (with_namesake o (column_behind (length xs) ys) (column_named xs)) us ms) (ms ++ rest) ≡ for_each_two (namesake_item p o false xs) us ms
right_leads p o xs ys [] ms rest = refl
right_leads p o xs ys (u ∷ us) [] rest = refl
right_leads p o xs ys (u ∷ us) (m ∷ ms) rest =
    let n = length xs in
    ap (λ c. item_as m.name (operated o c (of_two n (place_of u.name xs) u.name)) ∷ items_for p (of_two n) (for_measures (with_namesake o (column_behind n ys) (column_named xs)) us ms) (ms ++ rest)) (behind_of n (place_of u.name ys) u.name)
    ∙ ap (λ l. namesake_item p o false xs u m ∷ l) (right_leads p o xs ys us ms rest)

-- ---- conditions

one_agreement : (p : Settings) (xs ys : List Component) (y : Component) → to_sql p (of_two (length xs)) (agrees_on xs ys y) ≡ agreement_on xs y
one_agreement p xs ys y = ap (λ c. tree.binary (tree.column c) op.Equal (lead_column xs y.name)) (second_of (length xs) (place_of y.name ys) y.name)

pub agreements : (p : Settings) (xs ys zs : List Component) → to_sql p (of_two (length xs)) (conjunction (map (agrees_on xs ys) zs)) ≡ all_of (map (agreement_on xs) zs)
agreements p xs ys zs = conjunction_to_sql p (of_two (length xs)) (map (agrees_on xs ys) zs) ∙ ap all_of (each_agreement zs)
  where
    each_agreement : (zs : List Component) → map (to_sql p (of_two (length xs))) (map (agrees_on xs ys) zs) ≡ map (agreement_on xs) zs
    each_agreement [] = refl
    each_agreement (z ∷ zs) =
        ap (λ e. e ∷ map (to_sql p (of_two (length xs))) (map (agrees_on xs ys) zs)) (one_agreement p xs ys z)
        ∙ ap (λ l. agreement_on xs z ∷ l) (each_agreement zs)

-- ---- selects

abbrev written : Settings → (lead other : Structure) → (first second : Text) → Option Exp → List ItemTree → (tie : Exp) → SelectTree
written p lead other first second condition items tie = from_two items first (tree.on joining.Inner (source_as second_alias second) tie) condition

-- the columns of a result, of which identifiers and measures are made
two_written : (p : Settings) (lead other s : Structure) (fs : List CompExp) (made : List ItemTree) (first second : Text) (condition : Option CompExp)
    → items_for p (of_two (length (columns_of lead))) fs (measures_of s ++ of_role role.Attribute s) ≡ made
    → pairs_select p (columns_named (columns_of lead) (identifiers_of s) ++ fs) lead other s condition first second
    ≡ from_two (map (lead_item (columns_of lead)) (identifiers_of s) ++ made) first (joined_by lead other second) (condition_for p (of_two (length (columns_of lead))) condition)
two_written p lead other s fs made first second condition is =
    let n = length (columns_of lead) in
    let whole = columns_named (columns_of lead) (identifiers_of s) ++ fs in
    let tie = to_sql p (of_two n) (agree lead other) in
    let e = condition_for p (of_two n) condition in
    ap (λ l. written p lead other first second e (items_for p (of_two n) whole l) tie) (append_assoc (identifiers_of s) (measures_of s) (of_role role.Attribute s))
    ∙ ap (λ l. written p lead other first second e l tie)
    (lead_first p (columns_of lead) (identifiers_of s) (measures_of s ++ of_role role.Attribute s) fs ∙ ap (λ l. map (lead_item (columns_of lead)) (identifiers_of s) ++ l) is)
    ∙ ap (written p lead other first second e (map (lead_item (columns_of lead)) (identifiers_of s) ++ made)) (agreements p (columns_of lead) (columns_of other) (identifiers_of other))

-- ---- an operator on the measures of two operands

abbrev paired_at : Bool → Settings → ScalarOp → (a b s : Structure) → (first second : Text) → QueryTree
paired_at leads p o a b s first second =
    let es = cond leads
    (columns_named (columns_of a) (identifiers_of s) ++ for_measures (with_namesake o (column_named (columns_of a)) (column_behind (length (columns_of a)) (columns_of b))) (measures_of a) (measures_of s))
    (columns_named (columns_of b) (identifiers_of s) ++ for_measures (with_namesake o (column_behind (length (columns_of b)) (columns_of a)) (column_named (columns_of b))) (measures_of a) (measures_of s))
    in
    if leads
    then pairs_select p es a b s None first second ∷ []
    else pairs_select p es b a s None second first ∷ []

either_leads : (leads : Bool) (p : Settings) (o : ScalarOp) (a b s : Structure) (first second : Text)
    → paired_at leads p o a b s first second ≡ (if leads then paired_from p o true a a b s first second else paired_from p o false a b a s second first) ∷ []
either_leads true p o a b s first second =
    ap (λ x. x ∷ []) (two_written p a b s _ _ first second None (left_leads p o (columns_of a) (columns_of b) (measures_of a) (measures_of s) (of_role role.Attribute s)))
either_leads false p o a b s first second =
    ap (λ x. x ∷ []) (two_written p b a s _ _ second first None (right_leads p o (columns_of b) (columns_of a) (measures_of a) (measures_of s) (of_role role.Attribute s)))

pub pair_written : (p : Settings) (o : ScalarOp) (a b s : Structure) (first second : Text) → pair_query p o a b s first second ≡ paired_of p o a b s first second ∷ []
pair_written p o a b s first second = either_leads (contains a b) p o a b s first second

-- ---- `if`

branch_written : (p : Settings) (e : CompExp) (t other s : Structure) (first second : Text)
    → pairs_select p (chosen_exps t other s) t other s (Some e) first second ≡ chosen_from (to_sql p (of_two (length (columns_of t))) e) t other s first second
branch_written p e t other s first second =
    two_written p t other s _ _ first second (Some e) (seconds p (length (columns_of t)) (columns_of other) (measures_of s) (of_role role.Attribute s))

pub choose_written : (p : Settings) (t a b s : Structure) (x y z : Text)
    → choose_query p t a b s x y z
    ≡ chosen_from (chosen (length (columns_of t)) (key_width t) (measures_of t)) t a s x y
    ∷ chosen_from (not_chosen (chosen (length (columns_of t)) (key_width t) (measures_of t))) t b s x z ∷ []
choose_written p t a b s x y z =
    ap (λ q. q ∷ pairs_select p (chosen_exps t b s) t b s (Some (is_not_chosen t)) x z ∷ []) (branch_written p (is_chosen t) t a s x y)
    ∙ ap (λ q. chosen_from (chosen (length (columns_of t)) (key_width t) (measures_of t)) t a s x y ∷ q ∷ []) (branch_written p (is_not_chosen t) t b s x z)
