-- The columns of results and of conditions.
use Rattle.std.proofs.Common.{rules, ◌≡◌, ⊎_elim, ℕ, ◌==◌, ◌≤◌, Bool, true, false, cond, not, ◌&&◌, List, [], ◌∷◌, ◌++◌, map, length, refl, sym, ap, ◌∙◌, arith, append_assoc, append-nil, encode_utf8_all}
use Rattle.std.specs.Prelude.{Option, Vec, filter}
use Rattle.std.specs.List.{list_all}
use Rattle.std.proofs.lemmas.Bool.Decides.{eqb_tells}
use Rattle.std.proofs.lemmas.Str.{length-le-encodes}
use Rattle.vtl_syntax.specs.declared.word_groups.CheckOut.{CheckOut}
use Rattle.vtl_syntax.specs.declared.word_groups.CheckOut.TheVariants as output
use Rattle.vtl_tree.specs.Checks.{output_parts}
use Rattle.vtl_tree.specs.Operands.{agreed, agreed_identifiers}
use Rattle.vtl_tree.specs.Choices.{is_identifier}
use Rattle.vtl_tree.specs.View.{comp_exp_of, comp_exps_of}
use Rattle.vtl_tree.specs.CompExp.{call}
use Rattle.vtl_tree.specs.Names.{is_among}
use Rattle.vtl_tree.specs.declared.expression.CompExpr as exprs
use Rattle.vtl_tree.specs.declared.expression.CompExpr.{CompExpr}
use Rattle.vtl_tree.specs.declared.expression.CompExpr.TheVariants as expr
use Rattle.vtl_cell.specs.declared.kind.Kind.{Kind}
use Rattle.vtl_cell.specs.declared.operator.ScalarOp.{ScalarOp}
use Rattle.std.specs.declared.alloc.Global.{Global}
use Rattle.vtl_tree.specs.declared.structure.Component.{Component}
use Rattle.check_rules.specs.Calls.{all_see_names, has_name, seen_column, sees_names}

-- beside no other operand an identifier keeps its codes
pub identifiers_alone : (xs : List Component) → agreed_identifiers [] xs ≡ filter is_identifier xs
identifiers_alone xs = kept (filter is_identifier xs)
  where
    kept : (ys : List Component) → map (agreed []) ys ≡ ys
    kept [] = refl
    kept (y ∷ ys) = ap (λ zs. y ∷ zs) (kept ys)

-- an output with more behind it
pub output_more : {X : Type 0} (o : CheckOut) (measures : List X) (truth : X) (rest : List X) → output_parts o measures truth [] ++ rest ≡ output_parts o measures truth rest
output_more output.Invalid measures truth rest = ap (λ xs. xs ++ rest) (append-nil measures)
output_more output.All measures truth rest = refl
output_more output.AllMeasures measures truth rest = append_assoc measures (truth ∷ []) rest

-- the parts of a check, as they are put one behind the other
pub checked_parts : {X : Type 0} (ids : List X) (id : X) (o : CheckOut) (measures : List X) (truth : X) (rest : List X) → ((ids ++ id ∷ []) ++ output_parts o measures truth []) ++ rest ≡ ids ++ (id ∷ output_parts o measures truth rest)
checked_parts ids id o measures truth rest =
    append_assoc (ids ++ id ∷ []) (output_parts o measures truth []) rest
    ∙ ap (λ xs. (ids ++ id ∷ []) ++ xs) (output_more o measures truth rest)
    ∙ append_assoc ids (id ∷ []) (output_parts o measures truth rest)

pub all_names_seen : (es : List CompExpr) → list_all (λ e. sees_names (comp_exp_of e)) es ≡ all_see_names (comp_exps_of (map comp_exp_of es))
all_names_seen [] = refl
all_names_seen (e ∷ es) = ap (λ b. sees_names (comp_exp_of e) && b) (all_names_seen es)

pub call_sees : (e : CompExpr) (o : ScalarOp) (kind : Kind) (args : Vec CompExpr Global) → e ≡ expr.Apply o kind args → sees_names (comp_exp_of e) ≡ list_all (λ x. sees_names (comp_exp_of x)) args.items
call_sees e o kind args is =
    let tree : comp_exp_of (expr.Apply o kind args) ≡ call o kind (comp_exps_of (map comp_exp_of args.items)) = search (rules, exprs.the_lemmas) in
    ap (λ x. sees_names (comp_exp_of x)) is ∙ ap sees_names tree ∙ sym (all_names_seen args.items)

pub hidden_is : (name : List ℕ) (x : Component) (names : List (List ℕ)) (codes : Option (List (List ℕ))) → is_among x.name names ≡ false → name ≡ [] → codes ≡ x.codes → record { name = name; role = x.role; kind = x.kind; codes = codes } ≡ seen_column names x
hidden_is name x names codes out empty same = ap (λ (n : List ℕ). record { name = n; role = x.role; kind = x.kind; codes = codes }) empty ∙ ap (λ (cs : Option (List (List ℕ))). record { name = []; role = x.role; kind = x.kind; codes = cs }) same ∙ ap (λ b. cond b x (record x { name = [] })) (sym out)

-- a text has bytes where it has characters
pub some_bytes : (cs : List ℕ) → not (length (encode_utf8_all cs) == 0) ≡ has_name cs
some_bytes [] = refl
some_bytes (c ∷ cs) = go (length (encode_utf8_all (c ∷ cs))) (length-le-encodes (c ∷ cs))
  where
    go : (n : ℕ) → length (c ∷ cs) ≤ n → not (n == 0) ≡ true
    go n h = ⊎_elim (λ t. absurd (omega (arith, h, t.1))) (λ t. ap not t.0) (eqb_tells n 0)
