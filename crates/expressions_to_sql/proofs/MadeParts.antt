-- Parts of expressions that are made one by one.
use Rattle.std.proofs.Common.{◌≡◌, ℕ, ◌+◌, ◌<◌, true, false, List, [], ◌∷◌, ◌++◌, length, get_or, map, take, refl, sym, ap, subst, ◌∙◌}
use Rattle.std.proofs.lemmas.List.{take_more}
use Rattle.vtl_decimal.specs.Settings.{Settings}
use Rattle.vtl_tree.specs.View.{comp_exp_of, comp_exps_of}
use Rattle.vtl_tree.specs.declared.expression.CompExpr.{CompExpr}
use Rattle.sql_tree.specs.Trees as tree
use Rattle.sql_tree.specs.Trees.{exps_of}
use Rattle.sql_tree.specs.View.{expr_tree}
use Rattle.sql_tree.specs.declared.expressions.SqlExpr.{SqlExpr}
use Rattle.sql_tree.specs.declared.parts.Literal.{Literal}
use Rattle.expressions_to_sql.specs.Held.{AllHold, HoldsValues, IsMemberHeld}
use Rattle.expressions_to_sql.specs.ToSql.{Naming, all_to_sql, member_to_sql, members_to_sql, to_sql}

-- as many, and each is made of the one at its place
abbrev pub AreMade : {X Y : Type 0} → (X → Y → Type 0) → List X → List Y → Type 0
AreMade made [] [] = Unit {0}
AreMade made [] (y ∷ ys) = ⊥
AreMade made (x ∷ xs) [] = ⊥
AreMade made (x ∷ xs) (y ∷ ys) = made x y × AreMade made xs ys

one_more : {X Y : Type 0} (made : X → Y → Type 0) (xs : List X) (ys : List Y) (x : X) (y : Y) → AreMade made xs ys → made x y → AreMade made (xs ++ x ∷ []) (ys ++ y ∷ [])
one_more made [] [] x y all one = (one, tt)
one_more made [] (z ∷ ys) x y all one = absurd all
one_more made (w ∷ xs) [] x y all one = absurd all
one_more made (w ∷ xs) (z ∷ ys) x y all one = (all.0, one_more made xs ys x y all.1 one)

-- a loop's step, and its end
pub made_more : {X Y : Type 0} (made : X → Y → Type 0) (xs : List X) (i : ℕ) (x : X) (ys : List Y) (y : Y) → i < length xs → x ≡ get_or xs i x → AreMade made (take i xs) ys → made x y → AreMade made (take (i + 1) xs) (ys ++ y ∷ [])
made_more made xs i x ys y h is all one =
    subst (λ l. AreMade made l (ys ++ y ∷ [])) (sym (take_more xs i x h ∙ ap (λ z. take i xs ++ z ∷ []) (sym is))) (one_more made (take i xs) ys x y all one)

-- ---- members of sets

abbrev pub IsMember : Settings → CompExpr → Literal → Type 0
IsMember p e l = (l ≡ member_to_sql p (comp_exp_of e)) × IsMemberHeld (comp_exp_of e)

pub members_made : (p : Settings) (es : List CompExpr) (ls : List Literal) → AreMade (IsMember p) es ls → (ls ≡ members_to_sql p (comp_exps_of (map comp_exp_of es))) × AllHold true (comp_exps_of (map comp_exp_of es))
members_made p [] [] all = (refl, tt)
members_made p [] (l ∷ ls) all = absurd all
members_made p (e ∷ es) [] all = absurd all
members_made p (e ∷ es) (l ∷ ls) all = let rest = members_made p es ls all.1 in ((λ i. all.0.0 i ∷ rest.0 i), (all.0.1, rest.1))

-- ---- operands

abbrev pub IsOperand : Settings → Naming → CompExpr → SqlExpr → Type 0
IsOperand p at e x = (expr_tree x ≡ to_sql p at (comp_exp_of e)) × HoldsValues (comp_exp_of e)

pub operands_made : (p : Settings) (at : Naming) (es : List CompExpr) (xs : List SqlExpr) → AreMade (IsOperand p at) es xs → (exps_of (map expr_tree xs) ≡ all_to_sql p at (comp_exps_of (map comp_exp_of es))) × AllHold false (comp_exps_of (map comp_exp_of es))
operands_made p at [] [] all = (refl, tt)
operands_made p at [] (x ∷ xs) all = absurd all
operands_made p at (e ∷ es) [] all = absurd all
operands_made p at (e ∷ es) (x ∷ xs) all = let rest = operands_made p at es xs all.1 in ((λ i. tree.exp (all.0.0 i) (rest.0 i)), (all.0.1, rest.1))
