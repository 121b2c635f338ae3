-- The parts that hold no expression are read, each where what follows it does not go on with it.
use Rattle.std.proofs.Common.{◌≡◌, ℕ, Bool, true, false, List, ◌∷◌, Option, Some, None, refl}
use Rattle.vtl_lexer.specs.declared.keyword.Keyword.{Keyword}
use Rattle.vtl_lexer.specs.declared.keyword.Keyword.TheVariants as keyword
use Rattle.vtl_lexer.specs.declared.token.Sign.TheVariants as sign
use Rattle.vtl_lexer.specs.declared.token.TokenKind.{TokenKind}
use Rattle.vtl_lexer.specs.declared.token.TokenKind.TheVariants as token
use Rattle.vtl_syntax.specs.declared.parts.Comp.{Comp}
use Rattle.vtl_syntax.specs.declared.parts.Comp.TheVariants as comp
use Rattle.vtl_syntax.specs.declared.parts.DataPoints.{DataPoints}
use Rattle.vtl_syntax.specs.declared.parts.ErrorPart.{ErrorPart}
use Rattle.vtl_syntax.specs.declared.parts.GroupPart.{GroupPart}
use Rattle.vtl_syntax.specs.declared.parts.Keeping.{Keeping}
use Rattle.vtl_syntax.specs.declared.parts.Keeping.TheVariants as kept
use Rattle.vtl_syntax.specs.declared.parts.Limit.{Limit}
use Rattle.vtl_syntax.specs.declared.parts.Limit.TheVariants as limits
use Rattle.vtl_syntax.specs.declared.parts.Literal.{Literal}
use Rattle.vtl_syntax.specs.declared.parts.Literal.TheVariants as literals
use Rattle.vtl_syntax.specs.declared.parts.Numeral.TheVariants as numeral
use Rattle.vtl_syntax.specs.declared.parts.OrderPart.{OrderPart}
use Rattle.vtl_syntax.specs.declared.parts.OverPart.{OverPart}
use Rattle.vtl_syntax.specs.declared.parts.Reference.{Reference}
use Rattle.vtl_syntax.specs.declared.parts.Reference.TheVariants as references
use Rattle.vtl_syntax.specs.declared.parts.RenamePart.{RenamePart}
use Rattle.vtl_syntax.specs.declared.parts.SubPart.{SubPart}
use Rattle.vtl_syntax.specs.declared.word_groups.CastKind.{CastKind}
use Rattle.vtl_syntax.specs.declared.word_groups.Retain.{Retain}
use Rattle.vtl_syntax.specs.declared.parts.TimeCall.{TimeCall}
use Rattle.vtl_syntax.specs.declared.parts.TimeCall.TheVariants as time_calls
use Rattle.vtl_grammar.specs.Fits.{Filled, MaybeFilled, GroupFits, OverFits, MaybeKeepingFits}
use Rattle.vtl_grammar.specs.Grammar.{Tokens, comma, close_bracket, listed_onto, maybe_after_onto, comp_onto, comps_onto, literal_onto, set_onto, string_onto, integer_onto, name_onto, error_onto, group_onto, order_part_onto, limit_onto, partition_onto, order_onto, points_onto, over_onto, reference_onto, maybe_keeping_onto, rename_part_onto, sub_part_onto, retain_onto, name_of_time, time_part_onto}
use Rattle.vtl_grammar.specs.Reading.{Reads, is_keyword, is_sign, after_keyword, after_sign, word, maybe_after}
use Rattle.vtl_grammar.specs.ReadParts.{cast_part, cast_literal, literal, literals_listed, literal_set, comps, error_part, group_part, order_part, order_parts, current, limit, partition_part, order_by_part, limits_between, points_part, over_part, reference, references_listed, rename_part, rename_parts, maybe_renames, sub_part, sub_parts, maybe_keeping, two_comps, using_part, alias_part, shift_part, retain_part, periods_part, filling_part, time_part, ruleset_part, rule_part}
use Rattle.vtl_grammar.specs.Words.{name_at, string_at, integer_at, comp_at, comp_token, cast_kind_token, direction_at, direction_token, boolean_token}
use Rattle.vtl_grammar.proofs.AppendParts.{grows, literal-append, comp-append, order_part-append, reference-append, rename_part-append, sub_part-append}
use Rattle.vtl_grammar.proofs.CompleteBase.{Lacks, in_table, never, lacks_never, lacks_keyword, lacks_sign, lacks_word, maybe_after_lacks, maybe_word_complete, Complete, listed_complete}
use Rattle.vtl_grammar.proofs.CompleteTables.{cast_kind_read, group_kind_read, side_read, direction_read, retain_read, filling_read}

pub comp_read : (c : Comp) → comp_at (comp_token c) ≡ Some c
comp_read (comp.Name n) = refl
comp_read (comp.Quoted n) = refl

pub comp_lacks : (p : TokenKind → Bool) → ((n : List ℕ) → p (token.Name n) ≡ false) → ((n : List ℕ) → p (token.QuotedName n) ≡ false) → (c : Comp) → p (comp_token c) ≡ false
comp_lacks p name quoted (comp.Name n) = name n
comp_lacks p name quoted (comp.Quoted n) = quoted n

pub comp_complete : Complete (word comp_at) comp_onto never
comp_complete c rest stops = rw (comp_read c) refl

pub comps_complete : (cs : List Comp) (rest : Tokens) → Filled cs → Lacks (is_sign sign.Comma) rest → comps (comps_onto cs rest) ≡ Some (cs, rest)
unfolding comps
comps_complete cs rest filled ends = listed_complete (word comp_at) comp_onto never (grows comp_onto comp-append) comp_complete refl cs rest filled ends (lacks_never rest)

-- [ keyword item ]
pub maybe_after_complete : {A : Type 0} (k : Keyword) (item : Reads A) (onto : A → Tokens → Tokens) (rest : Tokens) → ((x : A) → item (onto x rest) ≡ Some (x, rest)) → is_keyword k (token.Keyword k) ≡ true
    → (o : Option A) → Lacks (is_keyword k) rest → maybe_after k item (maybe_after_onto (token.Keyword k) onto o rest) ≡ Some (o, rest)
unfolding after_keyword
maybe_after_complete k item onto rest reads own None ends = rw (lacks_keyword k rest ends) refl
maybe_after_complete k item onto rest reads own (Some x) ends = rw (own, reads x) refl

pub cast_part_complete : (s : List ℕ) (k : CastKind) (rest : Tokens) → cast_part (token.String s ∷ comma ∷ cast_kind_token k ∷ rest) ≡ Some ((s, k), rest)
unfolding cast_part after_sign
cast_part_complete s k rest = rw (cast_kind_read k) refl

boolean_literal : (b : Bool) (rest : Tokens) → literal (boolean_token b ∷ rest) ≡ Some (literals.Boolean b, rest)
unfolding literal after_sign
boolean_literal true rest = refl
boolean_literal false rest = refl

pub literal_complete : Complete literal literal_onto never
unfolding literal cast_literal after_sign after_keyword
literal_complete (literals.Number true (numeral.Integer d)) rest stops = refl
literal_complete (literals.Number true (numeral.Decimal d)) rest stops = refl
literal_complete (literals.Number false (numeral.Integer d)) rest stops = refl
literal_complete (literals.Number false (numeral.Decimal d)) rest stops = refl
literal_complete (literals.String s) rest stops = refl
literal_complete (literals.Boolean b) rest stops = boolean_literal b rest
literal_complete (literals.Cast s k) rest stops = rw (cast_part_complete s k (close_bracket ∷ rest)) refl

pub literal_set_complete : (ls : List Literal) (rest : Tokens) → Filled ls → literal_set (set_onto ls rest) ≡ Some (ls, rest)
unfolding literal_set literals_listed after_sign
literal_set_complete ls rest filled =
    let after : Tokens = token.Sign sign.CloseBrace ∷ rest in
    rw (listed_complete literal literal_onto never (grows literal_onto literal-append) literal_complete refl ls after filled refl refl) refl

pub error_complete : (e : ErrorPart) (rest : Tokens) → Lacks (is_keyword keyword.Errorcode) rest → Lacks (is_keyword keyword.Errorlevel) rest → error_part (error_onto e rest) ≡ Some (e, rest)
unfolding error_part
error_complete e rest no_code no_level =
    let level : Tokens = maybe_after_onto (token.Keyword keyword.Errorlevel) integer_onto e.level rest in
    let lacks : Lacks (is_keyword keyword.Errorcode) level = maybe_after_lacks (is_keyword keyword.Errorcode) (token.Keyword keyword.Errorlevel) integer_onto refl e.level rest no_code in
    rw (maybe_after_complete keyword.Errorcode (word string_at) string_onto level (λ s. refl) refl e.code lacks, maybe_after_complete keyword.Errorlevel (word integer_at) integer_onto rest (λ s. refl) refl e.level no_level) refl

pub group_complete : (g : Option GroupPart) (rest : Tokens) → GroupFits g → Lacks (is_keyword keyword.Group) rest → Lacks (is_sign sign.Comma) rest → group_part (group_onto g rest) ≡ Some (g, rest)
unfolding group_part after_keyword
group_complete None rest fits ends stops = rw (lacks_keyword keyword.Group rest ends) refl
group_complete (Some g) rest fits ends stops = rw (group_kind_read g.kind, comps_complete g.names rest fits stops) refl

pub order_part_complete : Complete order_part order_part_onto (in_table direction_at)
unfolding order_part
order_part_complete o rest stops =
    rw (comp_read o.component, maybe_word_complete direction_at direction_token direction_read o.direction rest stops) refl

order_parts_complete : (os : List OrderPart) (rest : Tokens) → Filled os → Lacks (is_sign sign.Comma) rest → Lacks (in_table direction_at) rest → order_parts (listed_onto order_part_onto os rest) ≡ Some (os, rest)
unfolding order_parts
order_parts_complete os rest filled ends stops = listed_complete order_part order_part_onto (in_table direction_at) (grows order_part_onto order_part-append) order_part_complete refl os rest filled ends stops

limit_complete : (l : Limit) (rest : Tokens) → limit (limit_onto l rest) ≡ Some (l, rest)
unfolding limit current after_keyword
limit_complete (limits.Unbounded s) rest = rw (side_read s) refl
limit_complete (limits.Points d s) rest = rw (side_read s) refl
limit_complete limits.Current rest = refl

partition_complete : (p : Option (List Comp)) (rest : Tokens) → MaybeFilled p → Lacks (is_keyword keyword.Partition) rest → Lacks (is_sign sign.Comma) rest → partition_part (partition_onto p rest) ≡ Some (p, rest)
unfolding partition_part after_keyword
partition_complete None rest fits ends stops = rw (lacks_keyword keyword.Partition rest ends) refl
partition_complete (Some cs) rest fits ends stops = rw (comps_complete cs rest fits stops) refl

order_complete : (o : Option (List OrderPart)) (rest : Tokens) → MaybeFilled o → Lacks (is_keyword keyword.Order) rest → Lacks (is_sign sign.Comma) rest → Lacks (in_table direction_at) rest → order_by_part (order_onto o rest) ≡ Some (o, rest)
unfolding order_by_part after_keyword
order_complete None rest fits ends stops undirected = rw (lacks_keyword keyword.Order rest ends) refl
order_complete (Some os) rest fits ends stops undirected = rw (order_parts_complete os rest fits stops undirected) refl

points_complete : (p : Option DataPoints) (rest : Tokens) → Lacks (is_keyword keyword.Data) rest → points_part (points_onto p rest) ≡ Some (p, rest)
unfolding points_part limits_between after_keyword
points_complete None rest ends = rw (lacks_keyword keyword.Data rest ends) refl
points_complete (Some p) rest ends = rw (limit_complete p.from (token.Keyword keyword.And ∷ limit_onto p.to rest), limit_complete p.to rest) refl

-- what `partition by`, `order by` and the points begin with
points_lacks : (p : TokenKind → Bool) → p (token.Keyword keyword.Data) ≡ false → (d : Option DataPoints) (rest : Tokens) → Lacks p rest → Lacks p (points_onto d rest)
points_lacks p no_data None rest h = h
points_lacks p no_data (Some d) rest h = no_data

order_lacks : (p : TokenKind → Bool) → p (token.Keyword keyword.Order) ≡ false → (o : Option (List OrderPart)) (rest : Tokens) → Lacks p rest → Lacks p (order_onto o rest)
order_lacks p no_order None rest h = h
order_lacks p no_order (Some o) rest h = no_order

pub over_complete : (o : OverPart) (rest : Tokens) → OverFits o → over_part (over_onto o rest) ≡ Some (o, rest)
unfolding over_part after_keyword after_sign
over_complete o rest fits =
    let after : Tokens = close_bracket ∷ rest in
    let points : Tokens = points_onto o.points after in
    let order : Tokens = order_onto o.order points in
    let after_points : (p : TokenKind → Bool) → p (token.Keyword keyword.Data) ≡ false → p close_bracket ≡ false → Lacks p points = λ p no_data no_close. points_lacks p no_data o.points after no_close in
    let after_order : (p : TokenKind → Bool) → p (token.Keyword keyword.Order) ≡ false → p (token.Keyword keyword.Data) ≡ false → p close_bracket ≡ false → Lacks p order =
    λ p no_order no_data no_close. order_lacks p no_order o.order points (after_points p no_data no_close) in
    let partitioned = partition_complete o.partition order fits.0 (after_order (is_keyword keyword.Partition) refl refl refl) (after_order (is_sign sign.Comma) refl refl refl) in
    let ordered = order_complete o.order points fits.1 (after_points (is_keyword keyword.Order) refl refl) (after_points (is_sign sign.Comma) refl refl) (after_points (in_table direction_at) refl refl) in
    rw (partitioned, ordered, points_complete o.points after refl) refl

pub reference_complete : Complete reference reference_onto (is_sign sign.Hash)
unfolding reference after_sign
reference_complete (references.Component c) rest stops = rw (comp_read c, lacks_sign sign.Hash rest stops) refl
reference_complete (references.Member n c) rest stops = rw (comp_read c) refl

references_complete : (rs : List Reference) (rest : Tokens) → Filled rs → Lacks (is_sign sign.Comma) rest → Lacks (is_sign sign.Hash) rest → references_listed (listed_onto reference_onto rs rest) ≡ Some (rs, rest)
unfolding references_listed
references_complete rs rest filled ends stops = listed_complete reference reference_onto (is_sign sign.Hash) (grows reference_onto reference-append) reference_complete refl rs rest filled ends stops

pub rename_part_complete : Complete rename_part rename_part_onto never
unfolding rename_part after_keyword
rename_part_complete r rest stops =
    rw (reference_complete r.from (token.Keyword keyword.To ∷ comp_token r.to ∷ rest) refl, comp_read r.to) refl

pub rename_parts_complete : (rs : List RenamePart) (rest : Tokens) → Filled rs → Lacks (is_sign sign.Comma) rest → rename_parts (listed_onto rename_part_onto rs rest) ≡ Some (rs, rest)
unfolding rename_parts
rename_parts_complete rs rest filled ends = listed_complete rename_part rename_part_onto never (grows rename_part_onto rename_part-append) rename_part_complete refl rs rest filled ends (lacks_never rest)

pub maybe_renames_complete : (r : Option (List RenamePart)) (rest : Tokens) → MaybeFilled r → Lacks (is_keyword keyword.Rename) rest → Lacks (is_sign sign.Comma) rest
    → maybe_renames (maybe_after_onto (token.Keyword keyword.Rename) (listed_onto rename_part_onto) r rest) ≡ Some (r, rest)
unfolding maybe_renames after_keyword
maybe_renames_complete None rest fits ends stops = rw (lacks_keyword keyword.Rename rest ends) refl
maybe_renames_complete (Some rs) rest fits ends stops = rw (rename_parts_complete rs rest fits stops) refl

sub_part_complete : Complete sub_part sub_part_onto never
unfolding sub_part after_sign
sub_part_complete s rest stops = rw (comp_read s.component, literal_complete s.value rest (lacks_never rest)) refl

pub sub_parts_complete : (ss : List SubPart) (rest : Tokens) → Filled ss → Lacks (is_sign sign.Comma) rest → sub_parts (listed_onto sub_part_onto ss rest) ≡ Some (ss, rest)
unfolding sub_parts
sub_parts_complete ss rest filled ends = listed_complete sub_part sub_part_onto never (grows sub_part_onto sub_part-append) sub_part_complete refl ss rest filled ends (lacks_never rest)

pub maybe_keeping_complete : (k : Option Keeping) (rest : Tokens) → MaybeKeepingFits k → Lacks (is_keyword keyword.Keep) rest → Lacks (is_keyword keyword.Drop) rest → Lacks (is_sign sign.Comma) rest → Lacks (is_sign sign.Hash) rest
    → maybe_keeping (maybe_keeping_onto k rest) ≡ Some (k, rest)
unfolding maybe_keeping after_keyword
maybe_keeping_complete None rest fits no_keep no_drop ends stops = rw (lacks_keyword keyword.Keep rest no_keep, lacks_keyword keyword.Drop rest no_drop) refl
maybe_keeping_complete (Some (kept.Keep rs)) rest fits no_keep no_drop ends stops = rw (references_complete rs rest fits ends stops) refl
maybe_keeping_complete (Some (kept.Drop rs)) rest fits no_keep no_drop ends stops = rw (references_complete rs rest fits ends stops) refl

pub two_comps_complete : (a b : Comp) (rest : Tokens) → two_comps (comp_token a ∷ comma ∷ comp_token b ∷ rest) ≡ Some ((a, b), rest)
unfolding two_comps after_sign
two_comps_complete a b rest = rw (comp_read a, comp_read b) refl

pub using_complete : (u : Option (List Comp)) (rest : Tokens) → MaybeFilled u → Lacks (is_keyword keyword.Using) rest → Lacks (is_sign sign.Comma) rest
    → using_part (maybe_after_onto (token.Keyword keyword.Using) comps_onto u rest) ≡ Some (u, rest)
unfolding using_part after_keyword
using_complete None rest fits ends stops = rw (lacks_keyword keyword.Using rest ends) refl
using_complete (Some cs) rest fits ends stops = rw (comps_complete cs rest fits stops) refl

pub alias_complete : (a : Option (List ℕ)) (rest : Tokens) → Lacks (is_keyword keyword.As) rest → alias_part (maybe_after_onto (token.Keyword keyword.As) name_onto a rest) ≡ Some (a, rest)
unfolding alias_part
alias_complete a rest ends = maybe_after_complete keyword.As (word name_at) name_onto rest (λ n. refl) refl a ends

pub shift_complete : (n : List ℕ) (l : Option Literal) (rest : Tokens) → Lacks (is_sign sign.Comma) rest → shift_part (comma ∷ token.Integer n ∷ maybe_after_onto comma literal_onto l rest) ≡ Some ((n, l), rest)
unfolding shift_part after_sign
shift_complete n None rest ends = rw (lacks_sign sign.Comma rest ends) refl
shift_complete n (Some l) rest ends = rw (literal_complete l rest (lacks_never rest)) refl

pub retain_complete : (r : Option Retain) (rest : Tokens) → Lacks (is_sign sign.Comma) rest → retain_part (retain_onto r rest) ≡ Some (r, rest)
unfolding retain_part after_sign
retain_complete None rest ends = rw (lacks_sign sign.Comma rest ends) refl
retain_complete (Some r) rest ends = rw (retain_read r) refl

pub time_part_complete : (call : TimeCall) (rest : Tokens) → Lacks (is_sign sign.Comma) rest → time_part (name_of_time call) (time_part_onto call rest) ≡ Some (call, rest)
unfolding time_part periods_part filling_part after_sign
time_part_complete (time_calls.Timeshift true n) rest ends = refl
time_part_complete (time_calls.Timeshift false n) rest ends = refl
time_part_complete (time_calls.FillTimeSeries None) rest ends = rw (lacks_sign sign.Comma rest ends) refl
time_part_complete (time_calls.FillTimeSeries (Some f)) rest ends = rw (filling_read f) refl
time_part_complete time_calls.FlowToStock rest ends = refl
time_part_complete time_calls.StockToFlow rest ends = refl

-- what stands behind an operand begins with no token but a comma, or is what follows it
pub time_part_lacks : (p : TokenKind → Bool) → p comma ≡ false → (call : TimeCall) (rest : Tokens) → Lacks p rest → Lacks p (time_part_onto call rest)
time_part_lacks p no_comma (time_calls.Timeshift true n) rest h = no_comma
time_part_lacks p no_comma (time_calls.Timeshift false n) rest h = no_comma
time_part_lacks p no_comma (time_calls.FillTimeSeries None) rest h = h
time_part_lacks p no_comma (time_calls.FillTimeSeries (Some f)) rest h = no_comma
time_part_lacks p no_comma time_calls.FlowToStock rest h = h
time_part_lacks p no_comma time_calls.StockToFlow rest h = h

pub ruleset_complete : (n : List ℕ) (rest : Tokens) → ruleset_part (comma ∷ token.Name n ∷ rest) ≡ Some (n, rest)
unfolding ruleset_part after_sign
ruleset_complete n rest = refl

-- the word `rule` stands alone where no component follows it
pub rule_complete : (r : Option Comp) (rest : Tokens) → rule_part rest ≡ (None, rest) → rule_part (maybe_after_onto (token.Keyword keyword.Rule) comp_onto r rest) ≡ (r, rest)
unfolding rule_part after_keyword
rule_complete None rest ends = ends
rule_complete (Some c) rest ends = rw (comp_read c) refl

pub rule_lacks : (rest : Tokens) → Lacks (is_keyword keyword.Rule) rest → rule_part rest ≡ (None, rest)
unfolding rule_part
rule_lacks rest ends = rw (lacks_keyword keyword.Rule rest ends) refl

pub rule_alone : (rest : Tokens) → Lacks (in_table comp_at) rest → rule_part (token.Keyword keyword.Rule ∷ rest) ≡ (None, token.Keyword keyword.Rule ∷ rest)
unfolding rule_part after_keyword
rule_alone rest ends = rw (lacks_word comp_at rest ends) refl
