-- Reading the parts that hold no expression gives what stands there.
use Rattle.std.proofs.Common.{◌≡◌, ◌∙◌, ℕ, true, false, Option, None, Some, List, ◌∷◌, refl}
use Rattle.vtl_lexer.specs.declared.keyword.Keyword.TheVariants as keyword
use Rattle.vtl_lexer.specs.declared.token.Sign.TheVariants as sign
use Rattle.vtl_lexer.specs.declared.token.TokenKind.TheVariants as token
use Rattle.vtl_syntax.specs.declared.parts.Comp.{Comp}
use Rattle.vtl_syntax.specs.declared.parts.Comp.TheVariants as comp
use Rattle.vtl_syntax.specs.declared.parts.Constant.{Constant}
use Rattle.vtl_syntax.specs.declared.parts.Constant.TheVariants as constants
use Rattle.vtl_syntax.specs.declared.parts.DataPoints.{DataPoints}
use Rattle.vtl_syntax.specs.declared.parts.Literal.{Literal}
use Rattle.vtl_syntax.specs.declared.parts.Keeping.TheVariants as kept
use Rattle.vtl_syntax.specs.declared.parts.Limit.TheVariants as limits
use Rattle.vtl_syntax.specs.declared.parts.Literal.TheVariants as literals
use Rattle.vtl_syntax.specs.declared.parts.Reference.TheVariants as references
use Rattle.vtl_syntax.specs.declared.word_groups.CastKind.{CastKind}
use Rattle.vtl_syntax.specs.declared.parts.TimeCall.{TimeCall}
use Rattle.vtl_syntax.specs.declared.parts.TimeCall.TheVariants as time_calls
use Rattle.vtl_syntax.specs.declared.word_groups.Filling.{Filling}
use Rattle.vtl_syntax.specs.declared.word_groups.TimeName.{TimeName}
use Rattle.vtl_syntax.specs.declared.word_groups.TimeName.TheVariants as time_names
use Rattle.vtl_grammar.specs.Fits.{Filled, GroupFits, MaybeFilled, MaybeKeepingFits, OverFits}
use Rattle.vtl_grammar.specs.Grammar.{Tokens, comma, comp_onto, comps_onto, constant_onto, error_onto, group_onto, integer_onto, limit_onto, listed_onto, literal_onto, maybe_after_onto, maybe_keeping_onto, name_onto, order_onto, order_part_onto, over_onto, partition_onto, points_onto, reference_onto, rename_part_onto, retain_onto, name_of_time, set_onto, string_onto, sub_part_onto, time_part_onto}
use Rattle.vtl_grammar.specs.ReadParts.{alias_part, cast_literal, cast_part, comps, current, error_part, filling_part, group_part, limit, limits_between, literal, literal_of, literal_set, literals_listed, maybe_keeping, maybe_renames, order_by_part, order_part, order_parts, over_part, partition_part, periods_part, plain_name, points_part, reference, references_listed, rename_part, rename_parts, retain_part, rule_part, ruleset_part, shift_part, sub_part, sub_parts, time_part, two_comps, using_part}
use Rattle.vtl_grammar.specs.Reading.{after_keyword, after_sign, maybe_after, maybe_word, word}
use Rattle.vtl_grammar.specs.Words.{cast_kind_at, cast_kind_token, comp_at, comp_token, constant_at, direction_at, direction_token, filling_at, filling_token, group_kind_at, group_kind_token, integer_at, name_at, numeral_at, numeral_token, retain_at, retain_token, side_at, side_token, string_at}
use Rattle.vtl_grammar.proofs.SoundLists.{IsRead, OptionAll, listed-sound, maybe_after_all-sound}
use Rattle.vtl_grammar.proofs.SoundSteps.{Gives, either, either_way, follow, none_gives, some_gives, weaker}
use Rattle.vtl_grammar.proofs.SoundTables.{cast_kind_table, comp_table, constant_table, direction_table, filling_table, group_kind_table, integer_table, name_table, numeral_table, retain_table, side_table, string_table}
use Rattle.vtl_grammar.proofs.SoundTokens.{Spelled, after_keyword-sound, after_sign-sound, maybe_after-sound, maybe_word-sound, word-sound, word_onto-sound}

pub comp-sound : (ts : Tokens) → Gives (Spelled comp_onto ts) (word comp_at ts)
comp-sound = word-sound comp_token comp_at comp_table

pub name-sound : (ts : Tokens) → Gives (Spelled name_onto ts) (word name_at ts)
name-sound = word-sound (λ n. token.Name n) name_at name_table

pub string-sound : (ts : Tokens) → Gives (Spelled string_onto ts) (word string_at ts)
string-sound = word-sound (λ n. token.String n) string_at string_table

pub integer-sound : (ts : Tokens) → Gives (Spelled integer_onto ts) (word integer_at ts)
integer-sound = word-sound (λ n. token.Integer n) integer_at integer_table

-- ---- literals

abbrev pub cast_onto : List ℕ × CastKind → Tokens → Tokens
cast_onto c ts = token.String c.0 ∷ comma ∷ cast_kind_token c.1 ∷ ts

pub cast_part-sound : (ts : Tokens) → Gives (Spelled cast_onto ts) (cast_part ts)
unfolding cast_part
cast_part-sound ts =
    follow (word string_at ts) _ (string-sound ts)
    (λ s es. follow (after_sign sign.Comma s.1) _ (after_sign-sound sign.Comma s.1)
    (λ after ea. follow (word cast_kind_at after) _ (word-sound cast_kind_token cast_kind_at cast_kind_table after)
    (λ k ek. some_gives ((s.0, k.0), k.1) (cc))))

literal_of-sound : (c : Constant) → Gives (λ l. (us : Tokens) → constant_onto c us ≡ literal_onto l us) (literal_of c)
literal_of-sound (constants.Number n) = some_gives (literals.Number false n) (λ us. refl)
literal_of-sound (constants.String s) = some_gives (literals.String s) (λ us. refl)
literal_of-sound (constants.Boolean b) = some_gives (literals.Boolean b) (λ us. refl)
literal_of-sound constants.Null = none_gives
literal_of-sound (constants.Cast s k) = some_gives (literals.Cast s k) (λ us. refl)

cast_literal-sound : (ts : Tokens) → Gives (Spelled literal_onto ts) (cast_literal ts)
unfolding cast_literal
cast_literal-sound ts =
    follow (after_keyword keyword.Cast ts) _ (after_keyword-sound keyword.Cast ts)
    (λ after e. follow (after_sign sign.OpenBracket after) _ (after_sign-sound sign.OpenBracket after)
    (λ inner ei. follow (cast_part inner) _ (cast_part-sound inner)
    (λ p ep. follow (after_sign sign.CloseBracket p.1) _ (after_sign-sound sign.CloseBracket p.1)
    (λ rest er. some_gives (literals.Cast p.0.0 p.0.1, rest) (cc)))))

pub literal-sound : (ts : Tokens) → Gives (Spelled literal_onto ts) (literal ts)
unfolding literal
literal-sound ts =
    either (after_sign sign.Minus ts) _ _ (after_sign-sound sign.Minus ts)
    (λ after e. follow (word numeral_at after) _ (word-sound numeral_token numeral_at numeral_table after) (λ n en. some_gives (literals.Number true n.0, n.1) (cc)))
    (either (word constant_at ts) _ _ (word_onto-sound constant_onto constant_at constant_table ts)
    (λ c ec. follow (literal_of c.0) _ (literal_of-sound c.0) (λ l el. some_gives (l, c.1) (ec ∙ el c.1)))
    (cast_literal-sound ts))

pub literals_listed-sound : (ts : Tokens) → Gives (IsRead (listed_onto literal_onto) Filled ts) (literals_listed ts)
unfolding literals_listed
literals_listed-sound ts = listed-sound literal_onto literal (record { sound = literal-sound }) ts

pub literal_set-sound : (ts : Tokens) → Gives (IsRead set_onto Filled ts) (literal_set ts)
unfolding literal_set
literal_set-sound ts =
    follow (after_sign sign.OpenBrace ts) _ (after_sign-sound sign.OpenBrace ts)
    (λ after e. follow (literals_listed after) _ (literals_listed-sound after)
    (λ ls h. follow (after_sign sign.CloseBrace ls.1) _ (after_sign-sound sign.CloseBrace ls.1)
    (λ rest er. some_gives (ls.0, rest) (record { spelled = cc; fits = h.fits }))))

-- ---- names

pub comps-sound : (ts : Tokens) → Gives (IsRead comps_onto Filled ts) (comps ts)
unfolding comps
comps-sound ts = listed-sound comp_onto (word comp_at) (record { sound = comp-sound }) ts

pub error_part-sound : (ts : Tokens) → Gives (Spelled error_onto ts) (error_part ts)
unfolding error_part
error_part-sound ts =
    follow (maybe_after keyword.Errorcode (word string_at) ts) _ (maybe_after-sound keyword.Errorcode string_onto (word string_at) (record { sound = string-sound }) ts)
    (λ c ec. follow (maybe_after keyword.Errorlevel (word integer_at) c.1) _ (maybe_after-sound keyword.Errorlevel integer_onto (word integer_at) (record { sound = integer-sound }) c.1)
    (λ l el. some_gives (record { code = c.0; level = l.0 }, l.1) (cc)))

pub group_part-sound : (ts : Tokens) → Gives (IsRead group_onto GroupFits ts) (group_part ts)
unfolding group_part
group_part-sound ts =
    either (after_keyword keyword.Group ts) _ _ (after_keyword-sound keyword.Group ts)
    (λ after e. follow (word group_kind_at after) _ (word-sound group_kind_token group_kind_at group_kind_table after)
    (λ k ek. follow (comps k.1) _ (comps-sound k.1)
    (λ cs h. some_gives (Some (record { kind = k.0; names = cs.0 }), cs.1) (record { spelled = cc; fits = h.fits }))))
    (some_gives (None, ts) (record { spelled = refl; fits = tt }))

order_part-sound : (ts : Tokens) → Gives (Spelled order_part_onto ts) (order_part ts)
unfolding order_part
order_part-sound ts =
    follow (word comp_at ts) _ (comp-sound ts)
    (λ c ec.
    let d = maybe_word-sound direction_token direction_at direction_table c.1 in
    some_gives (record { component = c.0; direction = (maybe_word direction_at c.1).0 }, (maybe_word direction_at c.1).1) (cc))

order_parts-sound : (ts : Tokens) → Gives (IsRead (listed_onto order_part_onto) Filled ts) (order_parts ts)
unfolding order_parts
order_parts-sound ts = listed-sound order_part_onto order_part (record { sound = order_part-sound }) ts

-- ---- windows

current-sound : (ts : Tokens) → Gives (Spelled limit_onto ts) (current ts)
unfolding current
current-sound ts =
    follow (after_keyword keyword.Current ts) _ (after_keyword-sound keyword.Current ts)
    (λ a ea. follow (after_keyword keyword.Data a) _ (after_keyword-sound keyword.Data a)
    (λ b eb. follow (after_keyword keyword.Point b) _ (after_keyword-sound keyword.Point b)
    (λ rest er. some_gives (limits.Current, rest) (cc))))

limit-sound : (ts : Tokens) → Gives (Spelled limit_onto ts) (limit ts)
unfolding limit
limit-sound ts =
    either (after_keyword keyword.Unbounded ts) _ _ (after_keyword-sound keyword.Unbounded ts)
    (λ after e. follow (word side_at after) _ (word-sound side_token side_at side_table after) (λ s es. some_gives (limits.Unbounded s.0, s.1) (cc)))
    (either (word integer_at ts) _ _ (integer-sound ts)
    (λ d ed. follow (word side_at d.1) _ (word-sound side_token side_at side_table d.1) (λ s es. some_gives (limits.Points d.0 s.0, s.1) (cc)))
    (current-sound ts))

partition_part-sound : (ts : Tokens) → Gives (IsRead partition_onto MaybeFilled ts) (partition_part ts)
unfolding partition_part
partition_part-sound ts =
    either (after_keyword keyword.Partition ts) _ _ (after_keyword-sound keyword.Partition ts)
    (λ a ea. follow (after_keyword keyword.By a) _ (after_keyword-sound keyword.By a)
    (λ b eb. follow (comps b) _ (comps-sound b)
    (λ cs h. some_gives (Some cs.0, cs.1) (record { spelled = cc; fits = h.fits }))))
    (some_gives (None, ts) (record { spelled = refl; fits = tt }))

order_by_part-sound : (ts : Tokens) → Gives (IsRead order_onto MaybeFilled ts) (order_by_part ts)
unfolding order_by_part
order_by_part-sound ts =
    either (after_keyword keyword.Order ts) _ _ (after_keyword-sound keyword.Order ts)
    (λ a ea. follow (after_keyword keyword.By a) _ (after_keyword-sound keyword.By a)
    (λ b eb. follow (order_parts b) _ (order_parts-sound b)
    (λ os h. some_gives (Some os.0, os.1) (record { spelled = cc; fits = h.fits }))))
    (some_gives (None, ts) (record { spelled = refl; fits = tt }))

-- what follows the word `data`
abbrev between_onto : DataPoints → Tokens → Tokens
between_onto p ts = token.Keyword keyword.Points ∷ token.Keyword keyword.Between ∷ limit_onto p.from (token.Keyword keyword.And ∷ limit_onto p.to ts)

limits_between-sound : (ts : Tokens) → Gives (Spelled between_onto ts) (limits_between ts)
unfolding limits_between
limits_between-sound ts =
    follow (after_keyword keyword.Points ts) _ (after_keyword-sound keyword.Points ts)
    (λ a ea. follow (after_keyword keyword.Between a) _ (after_keyword-sound keyword.Between a)
    (λ b eb. follow (limit b) _ (limit-sound b)
    (λ f ef. follow (after_keyword keyword.And f.1) _ (after_keyword-sound keyword.And f.1)
    (λ c ec. follow (limit c) _ (limit-sound c)
    (λ t et. some_gives (record { from = f.0; to = t.0 }, t.1) (cc))))))

between_part : (p : Option DataPoints) (ts : Tokens) → maybe_after_onto (token.Keyword keyword.Data) between_onto p ts ≡ points_onto p ts
between_part None ts = refl
between_part (Some p) ts = refl

points_part-sound : (ts : Tokens) → Gives (Spelled points_onto ts) (points_part ts)
unfolding points_part
points_part-sound ts =
    weaker (maybe_after-sound keyword.Data between_onto limits_between (record { sound = limits_between-sound }) ts) (λ p e. e ∙ between_part p.0 p.1)

pub over_part-sound : (ts : Tokens) → Gives (IsRead over_onto OverFits ts) (over_part ts)
unfolding over_part
over_part-sound ts =
    follow (after_keyword keyword.Over ts) _ (after_keyword-sound keyword.Over ts)
    (λ a ea. follow (after_sign sign.OpenBracket a) _ (after_sign-sound sign.OpenBracket a)
    (λ b eb. follow (partition_part b) _ (partition_part-sound b)
    (λ p hp. follow (order_by_part p.1) _ (order_by_part-sound p.1)
    (λ o ho. follow (points_part o.1) _ (points_part-sound o.1)
    (λ d ed. follow (after_sign sign.CloseBracket d.1) _ (after_sign-sound sign.CloseBracket d.1)
    (λ rest er. some_gives (record { partition = p.0; order = o.0; points = d.0 }, rest) (record { spelled = cc; fits = (hp.fits, ho.fits) })))))))

-- ---- references

plain_name-sound : (c : Comp) → Gives (λ n. comp_token c ≡ token.Name n) (plain_name c)
plain_name-sound (comp.Name n) = some_gives n refl
plain_name-sound (comp.Quoted n) = none_gives

reference-sound : (ts : Tokens) → Gives (Spelled reference_onto ts) (reference ts)
unfolding reference
reference-sound ts =
    follow (word comp_at ts) _ (comp-sound ts)
    (λ c ec. either (after_sign sign.Hash c.1) _ _ (after_sign-sound sign.Hash c.1)
    (λ after e. follow (plain_name c.0) _ (plain_name-sound c.0)
    (λ n en. follow (word comp_at after) _ (comp-sound after)
    (λ m em. some_gives (references.Member n m.0, m.1) (cc))))
    (some_gives (references.Component c.0, c.1) ec))

references_listed-sound : (ts : Tokens) → Gives (IsRead (listed_onto reference_onto) Filled ts) (references_listed ts)
unfolding references_listed
references_listed-sound ts = listed-sound reference_onto reference (record { sound = reference-sound }) ts

rename_part-sound : (ts : Tokens) → Gives (Spelled rename_part_onto ts) (rename_part ts)
unfolding rename_part
rename_part-sound ts =
    follow (reference ts) _ (reference-sound ts)
    (λ f ef. follow (after_keyword keyword.To f.1) _ (after_keyword-sound keyword.To f.1)
    (λ after e. follow (word comp_at after) _ (comp-sound after)
    (λ t et. some_gives (record { from = f.0; to = t.0 }, t.1) (cc))))

rename_parts-sound : (ts : Tokens) → Gives (IsRead (listed_onto rename_part_onto) Filled ts) (rename_parts ts)
unfolding rename_parts
rename_parts-sound ts = listed-sound rename_part_onto rename_part (record { sound = rename_part-sound }) ts

filled : {A : Type 0} (o : Option (List A)) → OptionAll Filled o → MaybeFilled o
filled None h = h
filled (Some xs) h = h

pub maybe_renames-sound : (ts : Tokens) → Gives (IsRead (maybe_after_onto (token.Keyword keyword.Rename) (listed_onto rename_part_onto)) MaybeFilled ts) (maybe_renames ts)
unfolding maybe_renames
maybe_renames-sound ts =
    weaker (maybe_after_all-sound keyword.Rename (listed_onto rename_part_onto) Filled rename_parts rename_parts-sound ts)
    (λ p h. record { spelled = h.spelled; fits = filled p.0 h.fits })

sub_part-sound : (ts : Tokens) → Gives (Spelled sub_part_onto ts) (sub_part ts)
unfolding sub_part
sub_part-sound ts =
    follow (word comp_at ts) _ (comp-sound ts)
    (λ c ec. follow (after_sign sign.Equal c.1) _ (after_sign-sound sign.Equal c.1)
    (λ after e. follow (literal after) _ (literal-sound after)
    (λ l el. some_gives (record { component = c.0; value = l.0 }, l.1) (cc))))

pub sub_parts-sound : (ts : Tokens) → Gives (IsRead (listed_onto sub_part_onto) Filled ts) (sub_parts ts)
unfolding sub_parts
sub_parts-sound ts = listed-sound sub_part_onto sub_part (record { sound = sub_part-sound }) ts

pub maybe_keeping-sound : (ts : Tokens) → Gives (IsRead maybe_keeping_onto MaybeKeepingFits ts) (maybe_keeping ts)
unfolding maybe_keeping
maybe_keeping-sound ts =
    either (after_keyword keyword.Keep ts) _ _ (after_keyword-sound keyword.Keep ts)
    (λ after e. follow (references_listed after) _ (references_listed-sound after)
    (λ rs h. some_gives (Some (kept.Keep rs.0), rs.1) (record { spelled = cc; fits = h.fits })))
    (either (after_keyword keyword.Drop ts) _ _ (after_keyword-sound keyword.Drop ts)
    (λ after e. follow (references_listed after) _ (references_listed-sound after)
    (λ rs h. some_gives (Some (kept.Drop rs.0), rs.1) (record { spelled = cc; fits = h.fits })))
    (some_gives (None, ts) (record { spelled = refl; fits = tt })))

-- ---- parts of clauses and calls

abbrev pub two_comps_onto : Comp × Comp → Tokens → Tokens
two_comps_onto p ts = comp_token p.0 ∷ comma ∷ comp_token p.1 ∷ ts

pub two_comps-sound : (ts : Tokens) → Gives (Spelled two_comps_onto ts) (two_comps ts)
unfolding two_comps
two_comps-sound ts =
    follow (word comp_at ts) _ (comp-sound ts)
    (λ a ea. follow (after_sign sign.Comma a.1) _ (after_sign-sound sign.Comma a.1)
    (λ after e. follow (word comp_at after) _ (comp-sound after)
    (λ b eb. some_gives ((a.0, b.0), b.1) (cc))))

pub using_part-sound : (ts : Tokens) → Gives (IsRead (maybe_after_onto (token.Keyword keyword.Using) comps_onto) MaybeFilled ts) (using_part ts)
unfolding using_part
using_part-sound ts =
    weaker (maybe_after_all-sound keyword.Using comps_onto Filled comps comps-sound ts) (λ p h. record { spelled = h.spelled; fits = filled p.0 h.fits })

pub alias_part-sound : (ts : Tokens) → Gives (Spelled (maybe_after_onto (token.Keyword keyword.As) name_onto) ts) (alias_part ts)
unfolding alias_part
alias_part-sound ts = maybe_after-sound keyword.As name_onto (word name_at) (record { sound = name-sound }) ts

abbrev pub shift_onto : List ℕ × Option Literal → Tokens → Tokens
shift_onto p ts = comma ∷ token.Integer p.0 ∷ maybe_after_onto comma literal_onto p.1 ts

pub shift_part-sound : (ts : Tokens) → Gives (Spelled shift_onto ts) (shift_part ts)
unfolding shift_part
shift_part-sound ts =
    follow (after_sign sign.Comma ts) _ (after_sign-sound sign.Comma ts)
    (λ a ea. follow (word integer_at a) _ (integer-sound a)
    (λ d ed. either (after_sign sign.Comma d.1) _ _ (after_sign-sound sign.Comma d.1)
    (λ b eb. follow (literal b) _ (literal-sound b) (λ l el. some_gives ((d.0, Some l.0), l.1) (cc)))
    (some_gives ((d.0, None), d.1) (cc))))

pub retain_part-sound : (ts : Tokens) → Gives (Spelled retain_onto ts) (retain_part ts)
unfolding retain_part
retain_part-sound ts =
    either (after_sign sign.Comma ts) _ _ (after_sign-sound sign.Comma ts)
    (λ after e. follow (word retain_at after) _ (word-sound retain_token retain_at retain_table after) (λ r er. some_gives (Some r.0, r.1) (cc)))
    (some_gives (None, ts) refl)

-- what stands behind the operand of a time operator, which is the one of this name
pub record IsTimePart (f : TimeName) (ts : Tokens) (p : TimeCall × Tokens) : Type 0 where
  pub name : name_of_time p.0 ≡ f
  pub spelled : ts ≡ time_part_onto p.0 p.1

periods_part-sound : (ts : Tokens) → Gives (IsTimePart time_names.Timeshift ts) (periods_part ts)
unfolding periods_part
periods_part-sound ts =
    follow (after_sign sign.Comma ts) _ (after_sign-sound sign.Comma ts)
    (λ a ea. either (after_sign sign.Minus a) _ _ (after_sign-sound sign.Minus a)
    (λ b eb. follow (word integer_at b) _ (integer-sound b) (λ d ed. some_gives (time_calls.Timeshift true d.0, d.1) (record { name = refl; spelled = cc })))
    (follow (word integer_at a) _ (integer-sound a) (λ d ed. some_gives (time_calls.Timeshift false d.0, d.1) (record { name = refl; spelled = cc }))))

abbrev filling_onto : Option Filling → Tokens → Tokens
filling_onto f ts = time_part_onto (time_calls.FillTimeSeries f) ts

filling_part-sound : (ts : Tokens) → Gives (Spelled filling_onto ts) (filling_part ts)
unfolding filling_part
filling_part-sound ts =
    either (after_sign sign.Comma ts) _ _ (after_sign-sound sign.Comma ts)
    (λ after e. follow (word filling_at after) _ (word-sound filling_token filling_at filling_table after) (λ r er. some_gives (Some r.0, r.1) (cc)))
    (some_gives (None, ts) refl)

pub time_part-sound : (f : TimeName) (ts : Tokens) → Gives (IsTimePart f ts) (time_part f ts)
unfolding time_part
time_part-sound time_names.Timeshift ts = periods_part-sound ts
time_part-sound time_names.FillTimeSeries ts =
    follow (filling_part ts) _ (filling_part-sound ts) (λ f ef. some_gives (time_calls.FillTimeSeries f.0, f.1) (record { name = refl; spelled = ef }))
time_part-sound time_names.FlowToStock ts = some_gives (time_calls.FlowToStock, ts) (record { name = refl; spelled = refl })
time_part-sound time_names.StockToFlow ts = some_gives (time_calls.StockToFlow, ts) (record { name = refl; spelled = refl })

abbrev pub ruleset_onto : List ℕ → Tokens → Tokens
ruleset_onto n ts = comma ∷ token.Name n ∷ ts

pub ruleset_part-sound : (ts : Tokens) → Gives (Spelled ruleset_onto ts) (ruleset_part ts)
unfolding ruleset_part
ruleset_part-sound ts =
    follow (after_sign sign.Comma ts) _ (after_sign-sound sign.Comma ts) (λ after e. weaker (name-sound after) (λ n en. cc))

pub rule_part-sound : (ts : Tokens) → Spelled (maybe_after_onto (token.Keyword keyword.Rule) comp_onto) ts (rule_part ts)
unfolding rule_part
rule_part-sound ts =
    either_way (Spelled (maybe_after_onto (token.Keyword keyword.Rule) comp_onto) ts) (after_keyword keyword.Rule ts) _ _ (after_keyword-sound keyword.Rule ts)
    (λ after e. either_way (Spelled (maybe_after_onto (token.Keyword keyword.Rule) comp_onto) ts) (word comp_at after) _ _ (comp-sound after) (λ c ec. cc) refl)
    refl
