-- The forms with expressions are read, where the expressions that are their parts are.
use Rattle.std.proofs.Common.{◌≡◌, ℕ, ◌≤◌, ◌-◌, max, min, Bool, true, false, [], ◌∷◌, length, Option, Some, None, refl, arith}
use Rattle.std.specs.Prelude.{◌||◌}
use Rattle.std.proofs.lemmas.Bool.{or_parts}
use Rattle.vtl_lexer.specs.declared.keyword.Keyword.{Keyword}
use Rattle.vtl_lexer.specs.declared.keyword.Keyword.TheVariants as keyword
use Rattle.vtl_lexer.specs.declared.token.Sign.TheVariants as sign
use Rattle.vtl_lexer.specs.declared.token.TokenKind.{TokenKind}
use Rattle.vtl_lexer.specs.declared.token.TokenKind.TheVariants as token
use Rattle.vtl_syntax.specs.Depth.{exp_depth, exps_depth, maybe_depth, clause_depth, targets_depth, maybe_targets_depth, calcs_depth, parts_depth}
use Rattle.vtl_syntax.specs.Trees as tree
use Rattle.vtl_syntax.specs.Trees.{Exp, Exps, MaybeExp, ClauseTree, TargetsTree, MaybeTargets, Calcs, Parts, CalcTree, PartTree, exps_of, calcs_of, parts_of, maybe_exp, maybe_targets}
use Rattle.vtl_syntax.specs.declared.parts.Constant.{Constant}
use Rattle.vtl_syntax.specs.declared.parts.Constant.TheVariants as constants
use Rattle.vtl_syntax.specs.declared.parts.GroupPart.{GroupPart}
use Rattle.vtl_syntax.specs.declared.parts.Keeping.{Keeping}
use Rattle.vtl_syntax.specs.declared.parts.Keeping.TheVariants as kept
use Rattle.vtl_grammar.specs.Fits.{Fits, ExpsFit, MaybeFits, ClauseFits, TargetsFit, MaybeTargetsFit, CalcsFit, PartsFit, exps_count, calcs_count, parts_count}
use Rattle.vtl_grammar.specs.Grammar.{Tokens, maybe_after_onto, name_onto, constant_onto, group_onto, exp_onto, exps_onto, maybe_exp_onto, maybe_exp_after_onto, clause_onto, targets_onto, maybe_targets_onto, calcs_onto, parts_onto}
use Rattle.vtl_grammar.specs.Reading.{Gets, got, is_keyword, is_sign, after_keyword, after_sign}
use Rattle.vtl_grammar.specs.ReadExpressions.{maybe_exp_after, no_operand, ends_operand, maybe_operand, exps, calc_head, calc_part, calc_parts, join_part, join_parts, aggr_targets, targets_part, name_clause, pivot_clause, clause}
use Rattle.vtl_grammar.specs.ReadParts.{maybe_renames, maybe_keeping}
use Rattle.vtl_grammar.specs.Words.{written_role_at, written_role_token, comp_token}
use Rattle.vtl_grammar.specs.declared.levels.Level.TheVariants as level
use Rattle.vtl_grammar.proofs.AppendExpressions.{exp-append}
use Rattle.vtl_grammar.proofs.AppendParts.{grows}
use Rattle.vtl_grammar.proofs.CompleteBase.{Lacks, in_table, lacks_keyword, maybe_after_lacks, maybe_word_complete, CompleteGets, got_listed_complete}
use Rattle.vtl_grammar.proofs.CompleteLevels.{goes_on, within_all, starts, operand_start}
use Rattle.vtl_grammar.proofs.CompleteParts.{comp_read, comp_lacks, group_complete, maybe_keeping_complete, rename_parts_complete, sub_parts_complete, two_comps_complete, alias_complete}
use Rattle.vtl_grammar.proofs.CompleteTables.{written_role_read}
use Rattle.vtl_grammar.proofs.CompleteTrees.{exp_option, targets_option, exp_list, exps_depth-list, exps_count-list, exps_fit-list, exps-list, calc_list, calc_onto, calc-append, calc_depth, CalcFits, calcs_of-list, calcs_depth-list, calcs_count-list, calcs_fit-list, calcs-list, part_list, part_onto, part-append, part_depth, PartFits, parts_depth-list, parts_count-list, parts_fit-list, parts-list, maybe_exp-option}

-- ---- what forms begin with

pub maybe_exp_after_lacks : (p : TokenKind → Bool) (w : TokenKind) → p w ≡ false → (e : MaybeExp) (rest : Tokens) → Lacks p rest → Lacks p (maybe_exp_after_onto w e rest)
maybe_exp_after_lacks p w own tree.no_exp rest h = h
maybe_exp_after_lacks p w own (tree.some_exp e) rest h = own

pub group_lacks : (p : TokenKind → Bool) → p (token.Keyword keyword.Group) ≡ false → (g : Option GroupPart) (rest : Tokens) → Lacks p rest → Lacks p (group_onto g rest)
group_lacks p own None rest h = h
group_lacks p own (Some g) rest h = own

pub targets_lacks : (p : TokenKind → Bool) → p (token.Keyword keyword.Calc) ≡ false → p (token.Keyword keyword.Aggr) ≡ false → (m : MaybeTargets) (rest : Tokens) → Lacks p rest → Lacks p (maybe_targets_onto m rest)
targets_lacks p no_calc no_aggr tree.no_targets rest h = h
targets_lacks p no_calc no_aggr (tree.some_targets (tree.calc cs)) rest h = no_calc
targets_lacks p no_calc no_aggr (tree.some_targets (tree.aggr cs g e)) rest h = no_aggr

constant_some : (c : Constant) (rest : Tokens) → 1 ≤ length (constant_onto c rest)
constant_some (constants.Number v) rest = omega arith
constant_some (constants.String v) rest = omega arith
constant_some (constants.Boolean b) rest = omega arith
constant_some constants.Null rest = omega arith
constant_some (constants.Cast v k) rest = omega arith

-- an expression has a token
pub exp_some : (e : Exp) (rest : Tokens) → 1 ≤ length (exp_onto e rest)
exp_some (tree.binary l o r) rest = exp_some l _
exp_some (tree.in_set e negated ls) rest = exp_some e _
exp_some (tree.with_clause e c) rest = exp_some e _
exp_some (tree.member e c) rest = exp_some e _
exp_some (tree.constant c) rest = constant_some c rest
exp_some _ rest = omega arith

operand_at : (ts : Tokens) → 1 ≤ length ts → Lacks ends_operand ts → no_operand ts ≡ false
operand_at [] some h = absurd (omega arith)
operand_at (t ∷ ts) some h = h

operand_there : (e : Exp) (rest : Tokens) → Fits e → no_operand (exp_onto e rest) ≡ false
operand_there e rest fits = operand_at (exp_onto e rest) (exp_some e rest) (starts level.Expression ends_operand operand_start e (within_all e) fits rest)

-- an operand of a join without an alias goes on with what its expression does, and with `as`
abbrev pub part_goes_on : TokenKind → Bool
part_goes_on t = is_keyword keyword.As t || goes_on level.Expression t

part_stops : (ts : Tokens) → Lacks (is_keyword keyword.As) ts → Lacks (goes_on level.Expression) ts → Lacks part_goes_on ts
part_stops [] no_as stops = refl
part_stops (t ∷ ts) no_as stops = rw (no_as, stops) refl

part_stopped : (ts : Tokens) → Lacks part_goes_on ts → Lacks (is_keyword keyword.As) ts × Lacks (goes_on level.Expression) ts
part_stopped [] h = (refl, refl)
part_stopped (t ∷ ts) h = or_parts (is_keyword keyword.As t) (goes_on level.Expression t) h

-- ---- forms: the expressions that are parts are read at a budget of `n`

module _ (n : ℕ) (part : Gets Exp) (reads : CompleteGets n part exp_onto Fits exp_depth (goes_on level.Expression)) where
  pub maybe_exp_after_complete : (k : Keyword) → is_keyword k (token.Keyword k) ≡ true → (e : MaybeExp) (rest : Tokens) → MaybeFits e → maybe_depth e ≤ n → Lacks (is_keyword k) rest → Lacks (goes_on level.Expression) rest
      → maybe_exp_after n part k (maybe_exp_after_onto (token.Keyword k) e rest) ≡ Some (got (exp_option e) (n - maybe_depth e) rest)
  unfolding maybe_exp_after after_keyword
  maybe_exp_after_complete k own tree.no_exp rest fits shallow ends stops =
      let e : n - 0 ≡ n = omega arith in
      rw (lacks_keyword k rest ends, e) refl
  maybe_exp_after_complete k own (tree.some_exp e) rest fits shallow ends stops = rw (own, reads e rest fits shallow stops) refl

  pub maybe_operand_complete : (e : MaybeExp) (rest : Tokens) → MaybeFits e → maybe_depth e ≤ n → no_operand rest ≡ true → Lacks (goes_on level.Expression) rest
      → maybe_operand n part (maybe_exp_onto e rest) ≡ Some (got (exp_option e) (n - maybe_depth e) rest)
  unfolding maybe_operand
  maybe_operand_complete tree.no_exp rest fits shallow ends stops =
      let e : n - 0 ≡ n = omega arith in
      rw (ends, e) refl
  maybe_operand_complete (tree.some_exp e) rest fits shallow ends stops = rw (operand_there e rest fits, reads e rest fits shallow stops) refl

  pub exps_complete : (es : Exps) (rest : Tokens) → 1 ≤ exps_count es → ExpsFit es → exps_depth es ≤ n → Lacks (is_sign sign.Comma) rest → Lacks (goes_on level.Expression) rest
      → exps part (exps_onto es rest) ≡ Some (got (exp_list es) (n - exps_depth es) rest)
  unfolding exps
  exps_complete es rest filled fit shallow ends stops =
      let count = exps_count-list es in
      let depth = exps_depth-list es in
      rw (exps-list es rest, depth)
      (got_listed_complete n part exp_onto Fits exp_depth (goes_on level.Expression) (grows exp_onto exp-append) reads refl (exp_list es) rest (omega arith) (exps_fit-list es fit) (omega arith) ends stops)

  calc_part_complete : CompleteGets n (calc_part part) calc_onto CalcFits calc_depth (goes_on level.Expression)
  unfolding calc_part calc_head after_sign
  calc_part_complete c rest fits shallow stops =
      let value : Tokens = token.Sign sign.Assign ∷ exp_onto c.value rest in
      let lacks : Lacks (in_table written_role_at) (comp_token c.component ∷ value) = comp_lacks (in_table written_role_at) (λ k. refl) (λ k. refl) c.component in
      rw (maybe_word_complete written_role_at written_role_token written_role_read c.role (comp_token c.component ∷ value) lacks, comp_read c.component, reads c.value rest fits shallow stops) refl

  pub calc_parts_complete : (cs : Calcs) (rest : Tokens) → 1 ≤ calcs_count cs → CalcsFit cs → calcs_depth cs ≤ n → Lacks (is_sign sign.Comma) rest → Lacks (goes_on level.Expression) rest
      → calc_parts part (calcs_onto cs rest) ≡ Some (got (calc_list cs) (n - calcs_depth cs) rest)
  unfolding calc_parts
  calc_parts_complete cs rest filled fit shallow ends stops =
      let count = calcs_count-list cs in
      let depth = calcs_depth-list cs in
      rw (calcs-list cs rest, depth)
      (got_listed_complete n (calc_part part) calc_onto CalcFits calc_depth (goes_on level.Expression) (grows calc_onto calc-append) calc_part_complete refl (calc_list cs) rest (omega arith) (calcs_fit-list cs fit) (omega arith) ends stops)

  join_part_complete : CompleteGets n (join_part part) part_onto PartFits part_depth part_goes_on
  unfolding join_part
  join_part_complete p rest fits shallow stops =
      let alias : Tokens = maybe_after_onto (token.Keyword keyword.As) name_onto p.alias rest in
      let parts = part_stopped rest stops in
      let lacks : Lacks (goes_on level.Expression) alias = maybe_after_lacks (goes_on level.Expression) (token.Keyword keyword.As) name_onto refl p.alias rest parts.1 in
      rw (reads p.operand alias fits shallow lacks, alias_complete p.alias rest parts.0) refl

  pub join_parts_complete : (ps : Parts) (rest : Tokens) → 1 ≤ parts_count ps → PartsFit ps → parts_depth ps ≤ n → Lacks (is_sign sign.Comma) rest → Lacks (is_keyword keyword.As) rest → Lacks (goes_on level.Expression) rest
      → join_parts part (parts_onto ps rest) ≡ Some (got (part_list ps) (n - parts_depth ps) rest)
  unfolding join_parts
  join_parts_complete ps rest filled fit shallow ends no_as stops =
      let count = parts_count-list ps in
      let depth = parts_depth-list ps in
      rw (parts-list ps rest, depth)
      (got_listed_complete n (join_part part) part_onto PartFits part_depth part_goes_on (grows part_onto part-append) join_part_complete refl (part_list ps) rest (omega arith) (parts_fit-list ps fit) (omega arith) ends (part_stops rest no_as stops))

  aggr_complete : (cs : Calcs) (g : Option GroupPart) (h : MaybeExp) (rest : Tokens) → TargetsFit (tree.aggr cs g h) → targets_depth (tree.aggr cs g h) ≤ n
      → Lacks (is_sign sign.Comma) rest → Lacks (is_keyword keyword.Group) rest → Lacks (is_keyword keyword.Having) rest → Lacks (goes_on level.Expression) rest
      → aggr_targets n part (calcs_onto cs (group_onto g (maybe_exp_after_onto (token.Keyword keyword.Having) h rest))) ≡ Some (got (tree.aggr cs g h) (n - targets_depth (tree.aggr cs g h)) rest)
  unfolding aggr_targets
  aggr_complete cs g h rest fits shallow no_comma no_group no_having stops =
      let having : Tokens = maybe_exp_after_onto (token.Keyword keyword.Having) h rest in
      let group : Tokens = group_onto g having in
      let after_having : (p : TokenKind → Bool) → p (token.Keyword keyword.Having) ≡ false → Lacks p rest → Lacks p having = λ p own other. maybe_exp_after_lacks p (token.Keyword keyword.Having) own h rest other in
      let after_group : (p : TokenKind → Bool) → p (token.Keyword keyword.Group) ≡ false → p (token.Keyword keyword.Having) ≡ false → Lacks p rest → Lacks p group = λ p own next other. group_lacks p own g having (after_having p next other) in
      let calcs = calc_parts_complete cs group fits.0 fits.1 (omega arith) (after_group (is_sign sign.Comma) refl refl no_comma) (after_group (goes_on level.Expression) refl refl stops) in
      let grouped = group_complete g having fits.2 (after_having (is_keyword keyword.Group) refl no_group) (after_having (is_sign sign.Comma) refl no_comma) in
      let e : min (n - calcs_depth cs) (n - maybe_depth h) ≡ n - max (calcs_depth cs) (maybe_depth h) = omega arith in
      rw (calcs, grouped, maybe_exp_after_complete keyword.Having refl h rest fits.3 (omega arith) no_having stops, e, maybe_exp-option h, calcs_of-list cs) refl

  pub targets_complete : (m : MaybeTargets) (rest : Tokens) → MaybeTargetsFit m → maybe_targets_depth m ≤ n
      → Lacks (is_keyword keyword.Calc) rest → Lacks (is_keyword keyword.Aggr) rest → Lacks (is_sign sign.Comma) rest → Lacks (is_keyword keyword.Group) rest → Lacks (is_keyword keyword.Having) rest → Lacks (goes_on level.Expression) rest
      → targets_part n part (maybe_targets_onto m rest) ≡ Some (got (targets_option m) (n - maybe_targets_depth m) rest)
  unfolding targets_part after_keyword
  targets_complete tree.no_targets rest fits shallow no_calc no_aggr no_comma no_group no_having stops =
      let e : n - 0 ≡ n = omega arith in
      rw (lacks_keyword keyword.Calc rest no_calc, lacks_keyword keyword.Aggr rest no_aggr, e) refl
  targets_complete (tree.some_targets (tree.calc cs)) rest fits shallow no_calc no_aggr no_comma no_group no_having stops =
      rw (calc_parts_complete cs rest fits.0 fits.1 shallow no_comma stops, calcs_of-list cs) refl
  targets_complete (tree.some_targets (tree.aggr cs g h)) rest fits shallow no_calc no_aggr no_comma no_group no_having stops =
      rw (aggr_complete cs g h rest fits shallow no_comma no_group no_having stops) refl

  -- ---- clauses, which `]` follows

  name_clause_complete : (k : Keeping) (rest : Tokens) → ClauseFits (tree.keeping k) → name_clause n (clause_onto (tree.keeping k) (token.Sign sign.CloseSquare ∷ rest)) ≡ Some (got (tree.keeping k) n (token.Sign sign.CloseSquare ∷ rest))
  unfolding name_clause
  name_clause_complete k rest fits = rw (maybe_keeping_complete (Some k) (token.Sign sign.CloseSquare ∷ rest) fits refl refl refl refl) refl

  clause_of_targets : (m : TargetsTree) (rest : Tokens) → TargetsFit m → targets_depth m ≤ n → clause n part (targets_onto m (token.Sign sign.CloseSquare ∷ rest)) ≡ Some (got (tree.targets m) (n - targets_depth m) (token.Sign sign.CloseSquare ∷ rest))
  unfolding clause maybe_exp_after after_keyword
  clause_of_targets (tree.calc cs) rest fits shallow = rw (targets_complete (tree.some_targets (tree.calc cs)) (token.Sign sign.CloseSquare ∷ rest) fits shallow refl refl refl refl refl refl) refl
  clause_of_targets (tree.aggr cs g h) rest fits shallow = rw (targets_complete (tree.some_targets (tree.aggr cs g h)) (token.Sign sign.CloseSquare ∷ rest) fits shallow refl refl refl refl refl refl) refl

  clause_of_kept : (k : Keeping) (rest : Tokens) → ClauseFits (tree.keeping k) → clause n part (clause_onto (tree.keeping k) (token.Sign sign.CloseSquare ∷ rest)) ≡ Some (got (tree.keeping k) n (token.Sign sign.CloseSquare ∷ rest))
  unfolding clause maybe_exp_after targets_part after_keyword
  clause_of_kept (kept.Keep rs) rest fits = name_clause_complete (kept.Keep rs) rest fits
  clause_of_kept (kept.Drop rs) rest fits = name_clause_complete (kept.Drop rs) rest fits

  pub clause_complete : (c : ClauseTree) (rest : Tokens) → ClauseFits c → clause_depth c ≤ n → clause n part (clause_onto c (token.Sign sign.CloseSquare ∷ rest)) ≡ Some (got c (n - clause_depth c) (token.Sign sign.CloseSquare ∷ rest))
  unfolding clause maybe_exp_after targets_part name_clause pivot_clause maybe_keeping maybe_renames after_keyword
  clause_complete (tree.filter e) rest fits shallow = rw (reads e (token.Sign sign.CloseSquare ∷ rest) fits shallow refl) refl
  clause_complete (tree.targets m) rest fits shallow = clause_of_targets m rest fits shallow
  clause_complete (tree.keeping k) rest fits shallow = let e : n - 0 ≡ n = omega arith in rw e (clause_of_kept k rest fits)
  clause_complete (tree.rename rs) rest fits shallow = let e : n - 0 ≡ n = omega arith in rw (rename_parts_complete rs (token.Sign sign.CloseSquare ∷ rest) fits refl, e) refl
  clause_complete (tree.sub ss) rest fits shallow = let e : n - 0 ≡ n = omega arith in rw (sub_parts_complete ss (token.Sign sign.CloseSquare ∷ rest) fits refl, e) refl
  clause_complete (tree.pivot a b) rest fits shallow = let e : n - 0 ≡ n = omega arith in rw (two_comps_complete a b (token.Sign sign.CloseSquare ∷ rest), e) refl
  clause_complete (tree.unpivot a b) rest fits shallow = let e : n - 0 ≡ n = omega arith in rw (two_comps_complete a b (token.Sign sign.CloseSquare ∷ rest), e) refl
