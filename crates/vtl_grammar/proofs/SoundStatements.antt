-- Reading rules and statements gives what stands there, and it is in the grammar.
use Rattle.std.proofs.Common.{◌≡◌, ◌≤◌, ◌++◌, ◌∙◌, ℕ, zero, suc, Bool, true, false, Option, None, Some, List, [], ◌∷◌, append_assoc, append-nil, arith, length, refl, sym}
use Rattle.std.specs.Prelude.{nat_le}
use Rattle.std.specs.List.{AllByRecursion}
use Rattle.std.proofs.lemmas.Bool.Decides.{nat_tests}
use Rattle.vtl_lexer.specs.declared.keyword.Keyword.{Keyword}
use Rattle.vtl_lexer.specs.declared.keyword.Keyword.TheVariants as keyword
use Rattle.vtl_lexer.specs.declared.token.Sign.TheVariants as sign
use Rattle.vtl_lexer.specs.declared.token.TokenKind.TheVariants as token
use Rattle.vtl_syntax.specs.Depth.{deepest, exp_depth, hier_rule_depth, option_depth, point_rule_depth, depth_limit}
use Rattle.vtl_syntax.specs.Trees.{Exp, PointRuleTree, assignment, datapoint, hierarchical, point_rule}
use Rattle.vtl_syntax.specs.declared.parts.Comp.{Comp}
use Rattle.vtl_syntax.specs.declared.parts.ErrorPart.{ErrorPart}
use Rattle.vtl_syntax.specs.declared.parts.SignedComp.{SignedComp}
use Rattle.vtl_syntax.specs.declared.statements.HierRule.{HierRule}
use Rattle.vtl_syntax.specs.declared.word_groups.Addition.{Addition}
use Rattle.vtl_grammar.specs.Fits.{Filled, Fits, InGrammar, OptionFits, PointRuleFits}
use Rattle.vtl_grammar.specs.Grammar.{Tokens, close_bracket, error_onto, exp_onto, hier_rule_onto, maybe_onto, more_rules_onto, open_bracket, point_rule_onto, rule_name_onto, rules_onto, signed_onto, statement_onto, when_onto}
use Rattle.vtl_grammar.specs.ReadParts.{comps, error_part}
use Rattle.vtl_grammar.specs.ReadExpressions.{read}
use Rattle.vtl_grammar.specs.ReadStatements.{assignment_read, datapoint_read, ends_rules, hier_rule_read, hier_rules, hierarchical_read, holds_read, more_rules, more_signed, point_rule_read, point_rules, right_side, rule_behind, rule_name, rules_between, rules_read, ruleset_end, ruleset_head, ruleset_is, statement_read, value_read, when_part, whole_exp}
use Rattle.vtl_grammar.specs.Reading.{Reads, after_keyword, after_sign, maybe_word, word}
use Rattle.vtl_grammar.specs.Words.{addition_at, addition_token, assign_kind_at, assign_kind_token, comp_at, comp_token, comparison_at, comparison_token, name_at}
use Rattle.vtl_grammar.specs.declared.levels.Level.TheVariants as level
use Rattle.vtl_grammar.proofs.SoundLevels.{read-sound}
use Rattle.vtl_grammar.proofs.SoundLists.{IsRead}
use Rattle.vtl_grammar.proofs.SoundParts.{comp-sound, comps-sound, error_part-sound, name-sound}
use Rattle.vtl_grammar.proofs.SoundSteps.{Gives, either, either_way, follow, none_gives, some_gives, under_test, weaker}
use Rattle.vtl_grammar.proofs.SoundTables.{addition_table, assign_kind_table, comparison_table}
use Rattle.vtl_grammar.proofs.SoundTokens.{Spelled, after_keyword-sound, after_sign-sound, maybe_word-sound, word-sound}

-- ---- rules

abbrev Whole : Exp → Type 0
Whole e = Fits e × (exp_depth e ≤ depth_limit)

whole_exp-sound : (ts : Tokens) → Gives (IsRead exp_onto Whole ts) (whole_exp ts)
unfolding whole_exp
whole_exp-sound ts =
    follow (read depth_limit level.Expression ts) _ (read-sound depth_limit level.Expression ts)
    (λ g is. some_gives (g.tree, g.rest) (record { spelled = is.spelled; fits = (is.fits, omega arith) }))

rule_name-sound : (ts : Tokens) → Spelled rule_name_onto ts (rule_name ts)
unfolding rule_name
rule_name-sound ts =
    either_way (Spelled rule_name_onto ts) (word name_at ts) _ _ (name-sound ts)
    (λ n en. either_way (Spelled rule_name_onto ts) (after_sign sign.Colon n.1) _ _ (after_sign-sound sign.Colon n.1) (λ after e. cc) refl)
    refl

abbrev MaybeWhole : Option Exp → Type 0
MaybeWhole o = OptionFits o × (option_depth o ≤ depth_limit)

when_part-sound : (ts : Tokens) → Gives (IsRead when_onto MaybeWhole ts) (when_part ts)
unfolding when_part
when_part-sound ts =
    either (after_keyword keyword.When ts) _ _ (after_keyword-sound keyword.When ts)
    (λ after e. follow (whole_exp after) _ (whole_exp-sound after)
    (λ x is. follow (after_keyword keyword.Then x.1) _ (after_keyword-sound keyword.Then x.1)
    (λ rest er. some_gives (Some x.0, rest) (record { spelled = cc; fits = is.fits }))))
    (some_gives (None, ts) (record { spelled = refl; fits = (tt, omega arith) }))

record WholePointRule (r : PointRuleTree) : Type 0 where
  fits : PointRuleFits r
  shallow : point_rule_depth r ≤ depth_limit

-- what has to hold, with its error
abbrev holds_onto : Exp × ErrorPart → Tokens → Tokens
holds_onto p ts = exp_onto p.0 (error_onto p.1 ts)

abbrev WholeHolds : Exp × ErrorPart → Type 0
WholeHolds p = Whole p.0

holds_read-sound : (ts : Tokens) → Gives (IsRead holds_onto WholeHolds ts) (holds_read ts)
unfolding holds_read
holds_read-sound ts =
    follow (whole_exp ts) _ (whole_exp-sound ts)
    (λ e ie. follow (error_part e.1) _ (error_part-sound e.1)
    (λ err ir. some_gives ((e.0, err.0), err.1) (record { spelled = cc; fits = ie.fits })))

point_rule_read-sound : (ts : Tokens) → Gives (IsRead point_rule_onto WholePointRule ts) (point_rule_read ts)
unfolding point_rule_read rule_behind
point_rule_read-sound ts =
    let named = rule_name-sound ts in
    follow (when_part (rule_name ts).1) _ (when_part-sound (rule_name ts).1)
    (λ w iw. follow (holds_read w.1) _ (holds_read-sound w.1)
    (λ h ih. some_gives (point_rule (rule_name ts).0 w.0 h.0.0 h.0.1, h.1)
    (record { spelled = cc; fits = record { fits = (iw.fits.0, ih.fits.0); shallow = omega (arith, iw.fits.1, ih.fits.1) } })))

-- the items so far, and some more that stand there
record IsSigned (items : List SignedComp) (ts : Tokens) (p : List SignedComp × Tokens) : Type 0 where
  others : List SignedComp
  all : p.0 ≡ items ++ others
  spelled : ts ≡ signed_onto others p.1

more_signed-sound : (turns : ℕ) (items : List SignedComp) (ts : Tokens) → Gives (IsSigned items ts) (more_signed turns items ts)
unfolding more_signed
more_signed-sound zero items ts = some_gives (items, ts) (record { others = []; all = sym (append-nil items); spelled = refl })
more_signed-sound (suc n) items ts =
    either (word addition_at ts) _ _ (word-sound addition_token addition_at addition_table ts)
    (λ s es. follow (word comp_at s.1) _ (comp-sound s.1)
    (λ c ec.
    let item : SignedComp = record { sign = s.0; item = c.0 } in
    weaker (more_signed-sound n (items ++ item ∷ []) c.1)
    (λ q more. record { others = item ∷ more.others; all = more.all ∙ append_assoc items (item ∷ []) more.others; spelled = cc })))
    (some_gives (items, ts) (record { others = []; all = sym (append-nil items); spelled = refl }))

abbrev right_onto : Option Addition × (Comp × List SignedComp) → Tokens → Tokens
right_onto r ts = maybe_onto addition_token r.0 (comp_token r.1.0 ∷ signed_onto r.1.1 ts)

right_side-sound : (ts : Tokens) → Gives (Spelled right_onto ts) (right_side ts)
unfolding right_side
right_side-sound ts =
    let signed = maybe_word-sound addition_token addition_at addition_table ts in
    follow (word comp_at (maybe_word addition_at ts).1) _ (comp-sound (maybe_word addition_at ts).1)
    (λ f ef. follow (more_signed (length f.1) [] f.1) _ (more_signed-sound (length f.1) [] f.1)
    (λ os is. some_gives (((maybe_word addition_at ts).0, (f.0, os.0)), os.1) (cc)))

abbrev ShallowRule : HierRule → Type 0
ShallowRule r = hier_rule_depth r ≤ depth_limit

at_most : (a b : ℕ) → nat_le a b ≡ true → a ≤ b
at_most a b e = grind (arith, nat_tests)

hier_rule_read-sound : (ts : Tokens) → Gives (IsRead hier_rule_onto ShallowRule ts) (hier_rule_read ts)
unfolding hier_rule_read
hier_rule_read-sound ts =
    let named = rule_name-sound ts in
    follow (word comp_at (rule_name ts).1) _ (comp-sound (rule_name ts).1)
    (λ i ei. follow (word comparison_at i.1) _ (word-sound comparison_token comparison_at comparison_table i.1)
    (λ c ec. follow (right_side c.1) _ (right_side-sound c.1)
    (λ r er. follow (error_part r.1) _ (error_part-sound r.1)
    (λ err ee.
    let rule : HierRule = record { name = (rule_name ts).0; item = i.0; comparison = c.0; sign = r.0.0; first = r.0.1.0; others = r.0.1.1; error = err.0 } in
    under_test (nat_le (hier_rule_depth rule) depth_limit) (Some (rule, err.1)) None
    (λ t. some_gives (rule, err.1) (record { spelled = cc; fits = at_most (hier_rule_depth rule) depth_limit t }))
    (λ t. none_gives)))))

-- ---- rulesets

-- the rules so far, and some more that stand there
record IsMore {A : Type 0} (onto : A → Tokens → Tokens) (Holds : A → Type 0) (rules : List A) (ts : Tokens) (p : (List A × Bool) × Tokens) : Type 0 where
  others : List A
  all : p.0.0 ≡ rules ++ others
  spelled : ts ≡ more_rules_onto onto others p.0.1 p.1
  fits : AllByRecursion Holds others

more_rules-sound : {A : Type 0} (onto : A → Tokens → Tokens) (Holds : A → Type 0) (rule : Reads A) → ((ts : Tokens) → Gives (IsRead onto Holds ts) (rule ts)) → (turns : ℕ) (rules : List A) (ts : Tokens) → Gives (IsMore onto Holds rules ts) (more_rules rule turns rules ts)
more_rules-sound onto Holds rule h zero rules ts = some_gives ((rules, false), ts) (record { others = []; all = sym (append-nil rules); spelled = refl; fits = tt })
more_rules-sound onto Holds rule h (suc n) rules ts =
    either (after_sign sign.Semicolon ts) _ _ (after_sign-sound sign.Semicolon ts)
    (λ after e. under_test (ends_rules after) (Some ((rules, true), after)) _
    (λ t. some_gives ((rules, true), after) (record { others = []; all = sym (append-nil rules); spelled = e; fits = tt }))
    (λ t. follow (rule after) _ (h after)
    (λ r is. weaker (more_rules-sound onto Holds rule h n (rules ++ r.0 ∷ []) r.1)
    (λ q more. record { others = r.0 ∷ more.others; all = more.all ∙ append_assoc rules (r.0 ∷ []) more.others; spelled = cc; fits = (is.fits, more.fits) }))))
    (some_gives ((rules, false), ts) (record { others = []; all = sym (append-nil rules); spelled = refl; fits = tt }))

record IsRules {A : Type 0} (onto : A → Tokens → Tokens) (Holds : A → Type 0) (ts : Tokens) (p : (List A × Bool) × Tokens) : Type 0 where
  spelled : ts ≡ rules_onto onto p.0.0 p.0.1 p.1
  some : Filled p.0.0
  each : AllByRecursion Holds p.0.0

rules_read-sound : {A : Type 0} (onto : A → Tokens → Tokens) (Holds : A → Type 0) (rule : Reads A) → ((ts : Tokens) → Gives (IsRead onto Holds ts) (rule ts)) → (ts : Tokens) → Gives (IsRules onto Holds ts) (rules_read rule ts)
rules_read-sound onto Holds rule h ts =
    follow (rule ts) _ (h ts)
    (λ r is. weaker (more_rules-sound onto Holds rule h (length r.1) (r.0 ∷ []) r.1)
    (λ q more. record { spelled = rw more.all cc; some = rw more.all (omega arith); each = rw more.all (is.fits, more.fits) }))

point_rules-sound : (ts : Tokens) → Gives (IsRules point_rule_onto WholePointRule ts) (point_rules ts)
unfolding point_rules
point_rules-sound ts = rules_read-sound point_rule_onto WholePointRule point_rule_read point_rule_read-sound ts

hier_rules-sound : (ts : Tokens) → Gives (IsRules hier_rule_onto ShallowRule ts) (hier_rules ts)
unfolding hier_rules
hier_rules-sound ts = rules_read-sound hier_rule_onto ShallowRule hier_rule_read hier_rule_read-sound ts

fitting : (rs : List PointRuleTree) → AllByRecursion WholePointRule rs → AllByRecursion PointRuleFits rs
fitting [] h = tt
fitting (r ∷ rs) h = (h.0.fits, fitting rs h.1)

points_shallow : (rs : List PointRuleTree) → AllByRecursion WholePointRule rs → deepest point_rule_depth rs ≤ depth_limit
points_shallow [] h = omega arith
points_shallow (r ∷ rs) h = let here = h.0.shallow in let rest = points_shallow rs h.1 in omega arith

rules_shallow : (rs : List HierRule) → AllByRecursion ShallowRule rs → deepest hier_rule_depth rs ≤ depth_limit
rules_shallow [] h = omega arith
rules_shallow (r ∷ rs) h = let rest = rules_shallow rs h.1 in omega arith

-- ---- statements

abbrev head_onto : List ℕ → Tokens → Tokens
head_onto n ts = token.Keyword keyword.Ruleset ∷ token.Name n ∷ open_bracket ∷ token.Keyword keyword.Variable ∷ ts

ruleset_head-sound : (ts : Tokens) → Gives (Spelled head_onto ts) (ruleset_head ts)
unfolding ruleset_head
ruleset_head-sound ts =
    follow (after_keyword keyword.Ruleset ts) _ (after_keyword-sound keyword.Ruleset ts)
    (λ a ea. follow (word name_at a) _ (name-sound a)
    (λ n en. follow (after_sign sign.OpenBracket n.1) _ (after_sign-sound sign.OpenBracket n.1)
    (λ b eb. follow (after_keyword keyword.Variable b) _ (after_keyword-sound keyword.Variable b)
    (λ rest er. some_gives (n.0, rest) (cc)))))

ruleset_is-sound : (ts : Tokens) → Gives (λ rest. ts ≡ close_bracket ∷ token.Keyword keyword.Is ∷ rest) (ruleset_is ts)
unfolding ruleset_is
ruleset_is-sound ts =
    follow (after_sign sign.CloseBracket ts) _ (after_sign-sound sign.CloseBracket ts)
    (λ a ea. weaker (after_keyword-sound keyword.Is a) (λ rest e. cc))

ruleset_end-sound : (k : Keyword) (ts : Tokens) → Gives (λ rest. ts ≡ token.Keyword keyword.End ∷ token.Keyword k ∷ token.Keyword keyword.Ruleset ∷ token.Sign sign.Semicolon ∷ rest) (ruleset_end k ts)
unfolding ruleset_end
ruleset_end-sound k ts =
    follow (after_keyword keyword.End ts) _ (after_keyword-sound keyword.End ts)
    (λ a ea. follow (after_keyword k a) _ (after_keyword-sound k a)
    (λ b eb. follow (after_keyword keyword.Ruleset b) _ (after_keyword-sound keyword.Ruleset b)
    (λ c ec. weaker (after_sign-sound sign.Semicolon c) (λ rest e. cc))))

abbrev value_onto : Exp → Tokens → Tokens
value_onto e ts = exp_onto e (token.Sign sign.Semicolon ∷ ts)

value_read-sound : (ts : Tokens) → Gives (IsRead value_onto Whole ts) (value_read ts)
unfolding value_read
value_read-sound ts =
    follow (whole_exp ts) _ (whole_exp-sound ts)
    (λ e ie. follow (after_sign sign.Semicolon e.1) _ (after_sign-sound sign.Semicolon e.1)
    (λ rest er. some_gives (e.0, rest) (record { spelled = cc; fits = ie.fits })))

assignment_read-sound : (ts : Tokens) → Gives (IsRead statement_onto InGrammar ts) (assignment_read ts)
unfolding assignment_read
assignment_read-sound ts =
    follow (word name_at ts) _ (name-sound ts)
    (λ n en. follow (word assign_kind_at n.1) _ (word-sound assign_kind_token assign_kind_at assign_kind_table n.1)
    (λ k ek. follow (value_read k.1) _ (value_read-sound k.1)
    (λ e ie. some_gives (assignment n.0 k.0 e.0, e.1) (record { spelled = cc; fits = record { fits = ie.fits.0; shallow = ie.fits.1 } }))))

-- the rules of a ruleset and its end
abbrev end_onto : Keyword → Tokens → Tokens
end_onto k ts = token.Keyword keyword.End ∷ token.Keyword k ∷ token.Keyword keyword.Ruleset ∷ token.Sign sign.Semicolon ∷ ts

record IsBetween {A : Type 0} (k : Keyword) (onto : A → Tokens → Tokens) (Holds : A → Type 0) (ts : Tokens) (p : (List A × Bool) × Tokens) : Type 0 where
  spelled : ts ≡ close_bracket ∷ token.Keyword keyword.Is ∷ rules_onto onto p.0.0 p.0.1 (end_onto k p.1)
  some : Filled p.0.0
  each : AllByRecursion Holds p.0.0

rules_between-sound : {A : Type 0} (k : Keyword) (onto : A → Tokens → Tokens) (Holds : A → Type 0) (rules : Reads (List A × Bool)) → ((ts : Tokens) → Gives (IsRules onto Holds ts) (rules ts)) → (ts : Tokens) → Gives (IsBetween k onto Holds ts) (rules_between k rules ts)
unfolding rules_between
rules_between-sound k onto Holds rules h ts =
    follow (ruleset_is ts) _ (ruleset_is-sound ts)
    (λ a ea. follow (rules a) _ (h a)
    (λ rs irs. follow (ruleset_end k rs.1) _ (ruleset_end-sound k rs.1)
    (λ rest er. some_gives (rs.0, rest) (record { spelled = cc; some = irs.some; each = irs.each }))))

datapoint_read-sound : (ts : Tokens) → Gives (IsRead statement_onto InGrammar (token.Keyword keyword.Define ∷ token.Keyword keyword.Datapoint ∷ ts)) (datapoint_read ts)
unfolding datapoint_read
datapoint_read-sound ts =
    follow (ruleset_head ts) _ (ruleset_head-sound ts)
    (λ n en. follow (comps n.1) _ (comps-sound n.1)
    (λ cs ics. follow (rules_between keyword.Datapoint point_rules cs.1) _ (rules_between-sound keyword.Datapoint point_rule_onto WholePointRule point_rules point_rules-sound cs.1)
    (λ rs irs. some_gives (datapoint n.0 cs.0 rs.0.0 rs.0.1, rs.1)
    (record { spelled = cc; fits = record { fits = (ics.fits, irs.some, fitting rs.0.0 irs.each); shallow = points_shallow rs.0.0 irs.each } }))))

hierarchical_read-sound : (ts : Tokens) → Gives (IsRead statement_onto InGrammar (token.Keyword keyword.Define ∷ token.Keyword keyword.Hierarchical ∷ ts)) (hierarchical_read ts)
unfolding hierarchical_read
hierarchical_read-sound ts =
    follow (ruleset_head ts) _ (ruleset_head-sound ts)
    (λ n en. follow (after_keyword keyword.Rule n.1) _ (after_keyword-sound keyword.Rule n.1)
    (λ a ea. follow (word comp_at a) _ (comp-sound a)
    (λ c ec. follow (rules_between keyword.Hierarchical hier_rules c.1) _ (rules_between-sound keyword.Hierarchical hier_rule_onto ShallowRule hier_rules hier_rules-sound c.1)
    (λ rs irs. some_gives (hierarchical n.0 c.0 rs.0.0 rs.0.1, rs.1)
    (record { spelled = cc; fits = record { fits = irs.some; shallow = rules_shallow rs.0.0 irs.each } })))))

-- what is read is a statement of the grammar, and it stands there
pub statement_read-sound : (ts : Tokens) → Gives (IsRead statement_onto InGrammar ts) (statement_read ts)
unfolding statement_read
statement_read-sound ts =
    either (after_keyword keyword.Define ts) _ _ (after_keyword-sound keyword.Define ts)
    (λ after e. either (after_keyword keyword.Datapoint after) _ _ (after_keyword-sound keyword.Datapoint after)
    (λ a ea. weaker (datapoint_read-sound a) (λ p is. record { spelled = (let s = is.spelled in cc); fits = is.fits }))
    (follow (after_keyword keyword.Hierarchical after) _ (after_keyword-sound keyword.Hierarchical after)
    (λ a ea. weaker (hierarchical_read-sound a) (λ p is. record { spelled = (let s = is.spelled in cc); fits = is.fits }))))
    (assignment_read-sound ts)
