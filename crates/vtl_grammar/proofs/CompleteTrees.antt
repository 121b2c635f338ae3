-- Lists and choices of trees as the reading functions give them.
use Rattle.std.proofs.Common.{◌≡◌, ℕ, List, [], ◌∷◌, length, Option, Some, None, refl}
use Rattle.std.specs.List.{AllByRecursion}
use Rattle.vtl_lexer.specs.declared.keyword.Keyword.TheVariants as keyword
use Rattle.vtl_lexer.specs.declared.token.Sign.TheVariants as sign
use Rattle.vtl_lexer.specs.declared.token.TokenKind.TheVariants as token
use Rattle.vtl_syntax.specs.Depth.{exp_depth, exps_depth, calcs_depth, parts_depth, deepest}
use Rattle.vtl_syntax.specs.Trees as tree
use Rattle.vtl_syntax.specs.Trees.{Exp, Exps, MaybeExp, TargetsTree, MaybeTargets, Calcs, Parts, CalcTree, PartTree, exps_of, calcs_of, parts_of, maybe_exp, maybe_targets}
use Rattle.vtl_grammar.specs.Fits.{Fits, ExpsFit, CalcsFit, PartsFit, exps_count, calcs_count, parts_count}
use Rattle.vtl_grammar.specs.Grammar.{Tokens, more_onto, listed_onto, maybe_onto, maybe_after_onto, name_onto, exp_onto, exps_onto, more_exps_onto, calcs_onto, more_calcs_onto, parts_onto, more_parts_onto}
use Rattle.vtl_grammar.specs.Words.{written_role_token, comp_token}
use Rattle.vtl_grammar.proofs.AppendExpressions.{exp-append}
use Rattle.vtl_grammar.proofs.AppendParts.{Appends, maybe-append, maybe_after-append, name-append}

abbrev pub exp_option : MaybeExp → Option Exp
exp_option tree.no_exp = None
exp_option (tree.some_exp e) = Some e

pub maybe_exp-option : (e : MaybeExp) → maybe_exp (exp_option e) ≡ e
maybe_exp-option tree.no_exp = refl
maybe_exp-option (tree.some_exp e) = refl

abbrev pub targets_option : MaybeTargets → Option TargetsTree
targets_option tree.no_targets = None
targets_option (tree.some_targets m) = Some m

pub maybe_targets-option : (m : MaybeTargets) → maybe_targets (targets_option m) ≡ m
maybe_targets-option tree.no_targets = refl
maybe_targets-option (tree.some_targets m) = refl

-- ---- expressions

abbrev pub exp_list : Exps → List Exp
exp_list tree.no_exps = []
exp_list (tree.exp e es) = e ∷ exp_list es

pub exps_of-list : (es : Exps) → exps_of (exp_list es) ≡ es
exps_of-list tree.no_exps = refl
exps_of-list (tree.exp e es) = rw (exps_of-list es) refl

pub exps_count-list : (es : Exps) → exps_count es ≡ length (exp_list es)
exps_count-list tree.no_exps = refl
exps_count-list (tree.exp e es) = rw (exps_count-list es) refl

pub exps_depth-list : (es : Exps) → exps_depth es ≡ deepest exp_depth (exp_list es)
exps_depth-list tree.no_exps = refl
exps_depth-list (tree.exp e es) = rw (exps_depth-list es) refl

pub exps_fit-list : (es : Exps) → ExpsFit es → AllByRecursion Fits (exp_list es)
exps_fit-list tree.no_exps fit = tt
exps_fit-list (tree.exp e es) fit = (fit.0, exps_fit-list es fit.1)

more_exps-list : (es : Exps) (ts : Tokens) → more_exps_onto es ts ≡ more_onto exp_onto (exp_list es) ts
more_exps-list tree.no_exps ts = refl
more_exps-list (tree.exp e es) ts = rw (more_exps-list es ts) refl

pub exps-list : (es : Exps) (ts : Tokens) → exps_onto es ts ≡ listed_onto exp_onto (exp_list es) ts
exps-list tree.no_exps ts = refl
exps-list (tree.exp e es) ts = rw (more_exps-list es ts) refl

-- ---- items of `calc` and `aggr`

abbrev pub calc_list : Calcs → List CalcTree
calc_list tree.no_calcs = []
calc_list (tree.calc_part r c e cs) = record { role = r; component = c; value = e } ∷ calc_list cs

abbrev pub calc_onto : CalcTree → Tokens → Tokens
calc_onto c ts = maybe_onto written_role_token c.role (comp_token c.component ∷ token.Sign sign.Assign ∷ exp_onto c.value ts)

pub calc-append : Appends calc_onto
calc-append c a b = rw (exp-append c.value a b) (maybe-append written_role_token c.role (comp_token c.component ∷ token.Sign sign.Assign ∷ exp_onto c.value a) b)

abbrev pub calc_depth : CalcTree → ℕ
calc_depth c = exp_depth c.value

abbrev pub CalcFits : CalcTree → Type 0
CalcFits c = Fits c.value

pub calcs_of-list : (cs : Calcs) → calcs_of (calc_list cs) ≡ cs
calcs_of-list tree.no_calcs = refl
calcs_of-list (tree.calc_part r c e cs) = rw (calcs_of-list cs) refl

pub calcs_count-list : (cs : Calcs) → calcs_count cs ≡ length (calc_list cs)
calcs_count-list tree.no_calcs = refl
calcs_count-list (tree.calc_part r c e cs) = rw (calcs_count-list cs) refl

pub calcs_depth-list : (cs : Calcs) → calcs_depth cs ≡ deepest calc_depth (calc_list cs)
calcs_depth-list tree.no_calcs = refl
calcs_depth-list (tree.calc_part r c e cs) = rw (calcs_depth-list cs) refl

pub calcs_fit-list : (cs : Calcs) → CalcsFit cs → AllByRecursion CalcFits (calc_list cs)
calcs_fit-list tree.no_calcs fit = tt
calcs_fit-list (tree.calc_part r c e cs) fit = (fit.0, calcs_fit-list cs fit.1)

more_calcs-list : (cs : Calcs) (ts : Tokens) → more_calcs_onto cs ts ≡ more_onto calc_onto (calc_list cs) ts
more_calcs-list tree.no_calcs ts = refl
more_calcs-list (tree.calc_part r c e cs) ts = rw (more_calcs-list cs ts) refl

pub calcs-list : (cs : Calcs) (ts : Tokens) → calcs_onto cs ts ≡ listed_onto calc_onto (calc_list cs) ts
calcs-list tree.no_calcs ts = refl
calcs-list (tree.calc_part r c e cs) ts = rw (more_calcs-list cs ts) refl

-- ---- operands of joins

abbrev pub part_list : Parts → List PartTree
part_list tree.no_parts = []
part_list (tree.join_part e a ps) = record { operand = e; alias = a } ∷ part_list ps

abbrev pub part_onto : PartTree → Tokens → Tokens
part_onto p ts = exp_onto p.operand (maybe_after_onto (token.Keyword keyword.As) name_onto p.alias ts)

pub part-append : Appends part_onto
part-append p a b =
    let alias : Tokens = maybe_after_onto (token.Keyword keyword.As) name_onto p.alias a in
    rw (maybe_after-append (token.Keyword keyword.As) name_onto name-append p.alias a b) (exp-append p.operand alias b)

abbrev pub part_depth : PartTree → ℕ
part_depth p = exp_depth p.operand

abbrev pub PartFits : PartTree → Type 0
PartFits p = Fits p.operand

pub parts_of-list : (ps : Parts) → parts_of (part_list ps) ≡ ps
parts_of-list tree.no_parts = refl
parts_of-list (tree.join_part e a ps) = rw (parts_of-list ps) refl

pub parts_count-list : (ps : Parts) → parts_count ps ≡ length (part_list ps)
parts_count-list tree.no_parts = refl
parts_count-list (tree.join_part e a ps) = rw (parts_count-list ps) refl

pub parts_depth-list : (ps : Parts) → parts_depth ps ≡ deepest part_depth (part_list ps)
parts_depth-list tree.no_parts = refl
parts_depth-list (tree.join_part e a ps) = rw (parts_depth-list ps) refl

pub parts_fit-list : (ps : Parts) → PartsFit ps → AllByRecursion PartFits (part_list ps)
parts_fit-list tree.no_parts fit = tt
parts_fit-list (tree.join_part e a ps) fit = (fit.0, parts_fit-list ps fit.1)

more_parts-list : (ps : Parts) (ts : Tokens) → more_parts_onto ps ts ≡ more_onto part_onto (part_list ps) ts
more_parts-list tree.no_parts ts = refl
more_parts-list (tree.join_part e a ps) ts = rw (more_parts-list ps ts) refl

pub parts-list : (ps : Parts) (ts : Tokens) → parts_onto ps ts ≡ listed_onto part_onto (part_list ps) ts
parts-list tree.no_parts ts = refl
parts-list (tree.join_part e a ps) ts = rw (more_parts-list ps ts) refl
