-- Reading rules, statements and scripts, one function for each function of the reader.
use Rattle.std.specs.Prelude.{ℕ, zero, suc, Bool, true, false, List, [], ◌∷◌, ◌++◌, length, Option, None, Some, nat_le, if◌then◌else◌}
use Rattle.vtl_lexer.specs.declared.keyword.Keyword.{Keyword}
use Rattle.vtl_lexer.specs.declared.keyword.Keyword.TheVariants as keyword
use Rattle.vtl_lexer.specs.declared.token.Sign.TheVariants as sign
use Rattle.vtl_syntax.specs.Depth.{hier_rule_depth, depth_limit}
use Rattle.vtl_syntax.specs.Trees.{Exp, PointRuleTree, point_rule, StatementTree, assignment, datapoint, hierarchical, ScriptTree}
use Rattle.vtl_syntax.specs.declared.parts.Comp.{Comp}
use Rattle.vtl_syntax.specs.declared.parts.ErrorPart.{ErrorPart}
use Rattle.vtl_syntax.specs.declared.parts.SignedComp.{SignedComp}
use Rattle.vtl_syntax.specs.declared.statements.HierRule.{HierRule}
use Rattle.vtl_syntax.specs.declared.word_groups.Addition.{Addition}
use Rattle.vtl_grammar.specs.Grammar.{Tokens}
use Rattle.vtl_grammar.specs.ReadExpressions.{read}
use Rattle.vtl_grammar.specs.ReadParts.{comps, error_part}
use Rattle.vtl_lists.specs.Options.{◌>>=◌, given}
use Rattle.vtl_grammar.specs.Reading.{Reads, is_keyword, after_keyword, after_sign, word, maybe_word}
use Rattle.vtl_grammar.specs.Words.{name_at, comp_at, comparison_at, addition_at, assign_kind_at}
use Rattle.vtl_grammar.specs.declared.levels.Level.TheVariants as level

-- an expression of a statement
unfoldable pub whole_exp : Reads Exp
whole_exp ts = read depth_limit level.Expression ts >>= (λ g. Some (g.tree, g.rest))

-- [ name ":" ]
unfoldable pub rule_name : Tokens → Option (List ℕ) × Tokens
rule_name ts =
    given (word name_at ts) (λ n. given (after_sign sign.Colon n.1) (λ after. (Some n.0, after)) (None, ts)) (None, ts)

-- [ "when" expr "then" ]
unfoldable pub when_part : Reads (Option Exp)
when_part ts =
    given (after_keyword keyword.When ts)
    (λ after. whole_exp after >>= (λ e. after_keyword keyword.Then e.1 >>= (λ rest. Some (Some e.0, rest))))
    (Some (None, ts))

-- expr error
unfoldable pub holds_read : Reads (Exp × ErrorPart)
holds_read ts = whole_exp ts >>= (λ e. error_part e.1 >>= (λ err. Some ((e.0, err.0), err.1)))

-- a rule whose name and condition were read
unfoldable pub rule_behind : Option (List ℕ) → Option Exp → Reads PointRuleTree
rule_behind name when ts = holds_read ts >>= (λ h. Some (point_rule name when h.0.0 h.0.1, h.1))

unfoldable pub point_rule_read : Reads PointRuleTree
point_rule_read ts = when_part (rule_name ts).1 >>= (λ w. rule_behind (rule_name ts).0 w.0 w.1)

-- the signed items after some; the number bounds the turns
unfoldable pub more_signed : ℕ → List SignedComp → Reads (List SignedComp)
more_signed zero items ts = Some (items, ts)
more_signed (suc n) items ts =
    given (word addition_at ts)
    (λ s. word comp_at s.1 >>= (λ c. more_signed n (items ++ record { sign = s.0; item = c.0 } ∷ []) c.1))
    (Some (items, ts))

-- what stands at the right of a hierarchical rule
unfoldable pub right_side : Reads (Option Addition × (Comp × List SignedComp))
right_side ts =
    word comp_at (maybe_word addition_at ts).1
    >>= (λ f. more_signed (length f.1) [] f.1
    >>= (λ os. Some (((maybe_word addition_at ts).0, (f.0, os.0)), os.1)))

unfoldable pub hier_rule_read : Reads HierRule
hier_rule_read ts =
    word comp_at (rule_name ts).1
    >>= (λ i. word comparison_at i.1
    >>= (λ c. right_side c.1
    >>= (λ r. error_part r.1
    >>= (λ err. let rule : HierRule = record { name = (rule_name ts).0; item = i.0; comparison = c.0; sign = r.0.0; first = r.0.1.0; others = r.0.1.1; error = err.0 } in
    if nat_le (hier_rule_depth rule) depth_limit then Some (rule, err.1) else None))))

abbrev pub ends_rules : Tokens → Bool
ends_rules [] = false
ends_rules (t ∷ ts) = is_keyword keyword.End t

-- the rules after some, each behind a semicolon, and whether a semicolon is last; the number bounds the turns
abbrev pub more_rules : {A : Type 0} → Reads A → ℕ → List A → Reads (List A × Bool)
more_rules rule zero rules ts = Some ((rules, false), ts)
more_rules rule (suc n) rules ts =
    given (after_sign sign.Semicolon ts)
    (λ after. if ends_rules after then Some ((rules, true), after) else (rule after >>= (λ r. more_rules rule n (rules ++ r.0 ∷ []) r.1)))
    (Some ((rules, false), ts))

abbrev pub rules_read : {A : Type 0} → Reads A → Reads (List A × Bool)
rules_read rule ts = rule ts >>= (λ r. more_rules rule (length r.1) (r.0 ∷ []) r.1)

unfoldable pub point_rules : Reads (List PointRuleTree × Bool)
point_rules = rules_read point_rule_read

unfoldable pub hier_rules : Reads (List HierRule × Bool)
hier_rules = rules_read hier_rule_read

-- expr ";"
unfoldable pub value_read : Reads Exp
value_read ts = whole_exp ts >>= (λ e. after_sign sign.Semicolon e.1 >>= (λ rest. Some (e.0, rest)))

-- name ( ":=" | "<-" ) expr ";"
unfoldable pub assignment_read : Reads StatementTree
assignment_read ts =
    word name_at ts
    >>= (λ n. word assign_kind_at n.1
    >>= (λ k. value_read k.1
    >>= (λ e. Some (assignment n.0 k.0 e.0, e.1))))

-- "ruleset" name "(" "variable"
unfoldable pub ruleset_head : Reads (List ℕ)
ruleset_head ts =
    after_keyword keyword.Ruleset ts
    >>= (λ a. word name_at a
    >>= (λ n. after_sign sign.OpenBracket n.1
    >>= (λ b. after_keyword keyword.Variable b
    >>= (λ rest. Some (n.0, rest)))))

-- ")" "is"
unfoldable pub ruleset_is : Tokens → Option Tokens
ruleset_is ts = after_sign sign.CloseBracket ts >>= (λ a. after_keyword keyword.Is a)

-- "end" kind "ruleset" ";"
unfoldable pub ruleset_end : Keyword → Tokens → Option Tokens
ruleset_end k ts =
    after_keyword keyword.End ts
    >>= (λ a. after_keyword k a
    >>= (λ b. after_keyword keyword.Ruleset b
    >>= (λ c. after_sign sign.Semicolon c)))

-- the rules of a ruleset, from the bracket before them to its end
unfoldable pub rules_between : {A : Type 0} → Keyword → Reads (List A × Bool) → Reads (List A × Bool)
rules_between k rules ts = ruleset_is ts >>= (λ a. rules a >>= (λ rs. ruleset_end k rs.1 >>= (λ rest. Some (rs.0, rest))))

-- after "datapoint"
unfoldable pub datapoint_read : Reads StatementTree
datapoint_read ts =
    ruleset_head ts
    >>= (λ n. comps n.1
    >>= (λ cs. rules_between keyword.Datapoint point_rules cs.1
    >>= (λ rs. Some (datapoint n.0 cs.0 rs.0.0 rs.0.1, rs.1))))

-- after "hierarchical"
unfoldable pub hierarchical_read : Reads StatementTree
hierarchical_read ts =
    ruleset_head ts
    >>= (λ n. after_keyword keyword.Rule n.1
    >>= (λ a. word comp_at a
    >>= (λ c. rules_between keyword.Hierarchical hier_rules c.1
    >>= (λ rs. Some (hierarchical n.0 c.0 rs.0.0 rs.0.1, rs.1)))))

unfoldable pub statement_read : Reads StatementTree
statement_read ts =
    given (after_keyword keyword.Define ts)
    (λ after. given (after_keyword keyword.Datapoint after) datapoint_read (after_keyword keyword.Hierarchical after >>= hierarchical_read))
    (assignment_read ts)

-- as many statements as there are, after some; the number bounds the turns
unfoldable pub statements_read : ℕ → ScriptTree → Tokens → ScriptTree × Tokens
statements_read zero script ts = (script, ts)
statements_read (suc n) script ts = given (statement_read ts) (λ s. statements_read n (script ++ s.0 ∷ []) s.1) (script, ts)

unfoldable pub script_read : Tokens → ScriptTree × Tokens
script_read ts = statements_read (length ts) [] ts
