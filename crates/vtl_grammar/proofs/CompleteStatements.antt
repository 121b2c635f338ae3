-- Each statement of the grammar is read whatever follows it, and each script.
use Rattle.std.proofs.Common.{◌≡◌, ◌∙◌, ℕ, zero, suc, ◌+◌, ◌≤◌, List, [], ◌∷◌, ◌++◌, length, Option, Some, None, refl, arith, append_assoc, length-append}
use Rattle.std.specs.List.{AllByRecursion}
use Rattle.std.proofs.lemmas.List.{append-nil}
use Rattle.vtl_lexer.specs.declared.keyword.Keyword.TheVariants as keyword
use Rattle.vtl_lexer.specs.declared.token.Sign.TheVariants as sign
use Rattle.vtl_lexer.specs.declared.token.TokenKind.TheVariants as token
use Rattle.vtl_syntax.specs.Depth.{deepest, point_rule_depth, hier_rule_depth, depth_limit}
use Rattle.vtl_syntax.specs.Trees.{Exp, PointRuleTree, StatementTree, assignment, datapoint, hierarchical, ScriptTree}
use Rattle.vtl_syntax.specs.declared.word_groups.AssignKind.{AssignKind}
use Rattle.vtl_grammar.specs.Fits.{PointRuleFits, StatementFits, InGrammar}
use Rattle.vtl_grammar.specs.Grammar.{Tokens, close_bracket, point_rule_onto, rules_onto, statement_onto, script_onto}
use Rattle.vtl_lists.specs.Options.{given}
use Rattle.vtl_grammar.specs.Reading.{after_keyword, after_sign}
use Rattle.vtl_grammar.specs.ReadStatements.{assignment_read, datapoint_read, hierarchical_read, rules_between, ruleset_end, ruleset_head, ruleset_is, script_read, statement_read, statements_read, value_read}
use Rattle.vtl_grammar.proofs.AppendExpressions.{statement-append}
use Rattle.vtl_grammar.proofs.CompleteParts.{comp_read, comps_complete}
use Rattle.vtl_grammar.proofs.CompleteRules.{whole_complete, PointRuleIs, point_rules_complete, hier_rules_complete}
use Rattle.vtl_grammar.proofs.CompleteTables.{assign_kind_read}

shallow_all : {A : Type 0} (depth : A → ℕ) (n : ℕ) (xs : List A) → deepest depth xs ≤ n → AllByRecursion (λ x. depth x ≤ n) xs
shallow_all depth n [] h = tt
shallow_all depth n (x ∷ xs) h = (omega arith, shallow_all depth n xs (omega arith))

point_rules_are : (rs : List PointRuleTree) → AllByRecursion PointRuleFits rs → deepest point_rule_depth rs ≤ depth_limit → AllByRecursion PointRuleIs rs
point_rules_are [] fits h = tt
point_rules_are (r ∷ rs) fits h = ((fits.0, omega arith), point_rules_are rs fits.1 (omega arith))

assignment_complete : (n : List ℕ) (k : AssignKind) (e : Exp) (rest : Tokens) → InGrammar (assignment n k e) → assignment_read (statement_onto (assignment n k e) rest) ≡ Some (assignment n k e, rest)
unfolding assignment_read value_read after_sign
assignment_complete n k e rest is = rw (assign_kind_read k, whole_complete e (token.Sign sign.Semicolon ∷ rest) is.fits is.shallow refl) refl

-- ---- every statement is read
pub statement_complete : (s : StatementTree) (rest : Tokens) → InGrammar s → statement_read (statement_onto s rest) ≡ Some (s, rest)
unfolding statement_read datapoint_read hierarchical_read rules_between ruleset_head ruleset_is ruleset_end after_keyword after_sign
statement_complete (assignment n k e) rest is = assignment_complete n k e rest is
statement_complete (datapoint n vs rs last) rest is =
    let fits : StatementFits (datapoint n vs rs last) = is.fits in
    let end : Tokens = token.Keyword keyword.Datapoint ∷ token.Keyword keyword.Ruleset ∷ token.Sign sign.Semicolon ∷ rest in
    let rules : Tokens = rules_onto point_rule_onto rs last (token.Keyword keyword.End ∷ end) in
    rw (comps_complete vs (close_bracket ∷ token.Keyword keyword.Is ∷ rules) fits.0 refl, point_rules_complete rs last end fits.1 (point_rules_are rs fits.2 is.shallow)) refl
statement_complete (hierarchical n i rs last) rest is =
    let end : Tokens = token.Keyword keyword.Hierarchical ∷ token.Keyword keyword.Ruleset ∷ token.Sign sign.Semicolon ∷ rest in
    rw (comp_read i, hier_rules_complete rs last end is.fits (shallow_all hier_rule_depth depth_limit rs is.shallow)) refl

-- ---- and every script

pub statement_some : (s : StatementTree) (rest : Tokens) → suc (length rest) ≤ length (statement_onto s rest)
statement_some s rest = rw (statement-append s [] rest) (omega (arith, length-append (statement_onto s []) rest, has_token s))
  where
    has_token : (x : StatementTree) → 1 ≤ length (statement_onto x [])
    has_token (assignment n k e) = omega arith
    has_token (datapoint n vs rs last) = omega arith
    has_token (hierarchical n i rs last) = omega arith

pub script_grows : (script : ScriptTree) (rest : Tokens) → length script + length rest ≤ length (script_onto script rest)
script_grows [] rest = omega arith
script_grows (s ∷ ss) rest = omega (arith, script_grows ss rest, statement_some s (script_onto ss rest))

-- what is read of a script goes on at the tokens behind it
record ScriptGoing (n : ℕ) (before script : ScriptTree) (rest : Tokens) : Type 0 where
  turns : ℕ
  is : statements_read n before (script_onto script rest) ≡ statements_read turns (before ++ script) rest

script_going : (script : ScriptTree) (n : ℕ) (before : ScriptTree) (rest : Tokens) → AllByRecursion InGrammar script → length script ≤ n → ScriptGoing n before script rest
unfolding statements_read
script_going [] n before rest all few = record { turns = n; is = rw append-nil refl }
script_going (s ∷ ss) zero before rest all few = absurd (omega arith)
script_going (s ∷ ss) (suc n) before rest all few =
    let g : ScriptGoing n (before ++ s ∷ []) ss rest = script_going ss n (before ++ s ∷ []) rest all.1 (omega arith) in
    record { turns = g.turns; is = rw (statement_complete s (script_onto ss rest) all.0) (g.is ∙ rw append_assoc refl) }

pub statements_stop : (n : ℕ) (before : ScriptTree) (rest : Tokens) → statement_read rest ≡ None → statements_read n before rest ≡ (before, rest)
unfolding statements_read
statements_stop zero before rest h = refl
statements_stop (suc n) before rest h = rw h refl

-- a script that is read only grows
statements_more : (n : ℕ) (before : ScriptTree) (ts : Tokens) → length before ≤ length (statements_read n before ts).0
unfolding statements_read
statements_more zero before ts = omega arith
statements_more (suc n) before ts = more (statements_more n) (statement_read ts)
  where
    more : ((b : ScriptTree) (r : Tokens) → length b ≤ length (statements_read n b r).0) → (o : Option (StatementTree × Tokens))
        → length before ≤ length (given o (λ s. statements_read n (before ++ s.0 ∷ []) s.1) (before, ts)).0
    more again None = omega arith
    more again (Some s) = omega (arith, again (before ++ s.0 ∷ []) s.1, length-append before (s.0 ∷ []))

-- where no statement follows, the script is what is read
pub script_complete : (script : ScriptTree) (rest : Tokens) → AllByRecursion InGrammar script → statement_read rest ≡ None → script_read (script_onto script rest) ≡ (script, rest)
unfolding script_read
script_complete script rest all ends =
    let g : ScriptGoing (length (script_onto script rest)) [] script rest = script_going script (length (script_onto script rest)) [] rest all (omega (arith, script_grows script rest)) in
    g.is ∙ statements_stop g.turns script rest ends

-- no front of the tokens is a longer script than what is read
pub script_greatest : (script : ScriptTree) (rest : Tokens) → AllByRecursion InGrammar script → length script ≤ length (script_read (script_onto script rest)).0
unfolding script_read
script_greatest script rest all =
    let g : ScriptGoing (length (script_onto script rest)) [] script rest = script_going script (length (script_onto script rest)) [] rest all (omega (arith, script_grows script rest)) in
    rw g.is (statements_more g.turns script rest)

pub nothing_read : statement_read [] ≡ None
unfolding statement_read assignment_read after_keyword
nothing_read = refl
