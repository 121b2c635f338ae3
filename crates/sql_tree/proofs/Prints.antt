-- What is written for an expression spells it.
use Rattle.std.proofs.Common.{◌≡◌, inl, inr, ◌∙◌, ◌≤◌, ◌+◌, ◌*◌, ◌-◌, ℕ, zero, suc, max, Bool, true, false, List, [], ◌∷◌, ◌++◌, length, Option, None, Some, refl, sym, ap, subst, arith, append_assoc, append-nil, nat_le}
use borrow.Author.Tests.{leb-true}
use Rattle.grammar_forms.specs.Forms.{Form, chain, seq, deep, Deep, limited, lookup, IsToken}
use Rattle.grammar_forms.specs.Written.{Each}
use Rattle.grammar_forms.proofs.Chains.{chain-alone, chain-more}
use Rattle.grammar_forms.proofs.Written.{both-of, as-of, after-of, before-of, listed-of}
use Rattle.sql_lexer.specs.Places.{place}
use Rattle.sql_lexer.specs.declared.token.TokenKind.TheVariants as t
use Rattle.sql_lexer.specs.declared.token.Word.{Word}
use Rattle.sql_lexer.specs.declared.token.Word.TheVariants as w
use Rattle.vtl_cell.specs.declared.operator.ScalarOp.{ScalarOp}
use Rattle.vtl_cell.specs.declared.operator.ScalarOp.TheVariants as op
use Rattle.vtl_cell.specs.declared.operator.AggKind.{AggKind}
use Rattle.vtl_cell.specs.declared.operator.AggKind.TheVariants as agg
use Rattle.sql_tree.specs.Trees.{Text, Exp, Exps, Branches, exps_of, branches_of, binary, unary, is_null, in_list, constant, column, call, count_all, aggregate, case_when, exists, no_exps, exp, no_branches, branch}
use Rattle.sql_tree.specs.Grammar as g
use Rattle.sql_tree.specs.Grammar.{SqlForm, items_after, two_keys, Tokens, Expr, Place, Whole, Negated, Signed, key, of_table, in_brackets, expr_at, joined_by, operator_before, or_ops_table, and_ops_table, add_ops_table, multiply_ops_table, compare_ops_table, signs_table, functions_table, aggregates_table}
use Rattle.sql_tree.specs.Printing as p
use Rattle.sql_tree.specs.Printing.{op_word, aggregate_word, op_level, unary_level, level_of, just, bracketed, wrapped, not_word, minus_word, commas, written_source, written_equality, written_equalities, written_number, written_constant, written_literal, written, written_exps, more_exps, written_branches}
use Rattle.sql_tree.specs.Formed.{IsName, is_binary, is_unary, is_function, IsEquality, IsLiteral, Formed, SomeExps, SomeBranches, EachFormed, BranchesFormed, exp_depth, exps_depth, branches_depth}
use Rattle.sql_tree.specs.declared.parts.Numeral.{Numeral}
use Rattle.sql_tree.specs.declared.parts.Numeral.TheVariants as numeral
use Rattle.sql_tree.specs.declared.parts.Constant.{Constant}
use Rattle.sql_tree.specs.declared.parts.Constant.TheVariants as const
use Rattle.sql_tree.specs.declared.parts.Literal.{Literal}
use Rattle.sql_tree.specs.declared.parts.Literal.TheVariants as literal
use Rattle.sql_tree.specs.declared.parts.Column.{Column}
use Rattle.sql_tree.specs.declared.parts.Source.{Source}
use Rattle.sql_tree.specs.declared.parts.Series.{Series}
use Rattle.sql_tree.specs.declared.word_groups.Span.{Span}
use Rattle.sql_tree.specs.declared.word_groups.Span.TheVariants as span
use Rattle.sql_tree.specs.declared.parts.Equality.{Equality}
use Rattle.sql_tree.proofs.Levels.{limited-ok, one, name-of, text-of, int-of, dec-of, in-brackets-of, column-of, column-prim, form_at, moved, lift, whole, negated, signed}
use Rattle.sql_tree.proofs.ColumnCalls.{prim-aggr}

-- ---- parts

pub listed-by : {A : Type 0} (mark : Word) (item : SqlForm A) (f : A → Tokens) (P : A → Type 0) → ((x : A) → P x → item.spells (f x) x) → (xs : List A) → 1 ≤ length xs → Each P xs → (Rattle.grammar_forms.specs.Forms.listed (key mark) item).spells (Rattle.grammar_forms.specs.Written.between (just mark) f xs) xs
listed-by mark item f P good [] some each = absurd (omega (arith, some))
listed-by mark item f P good (x ∷ xs) some each = listed-of (key mark) item (just mark) tt (one mark) f P good x xs each.0 each.1

number-of : (x : Numeral) → g.number.spells (written_number x) x
unfolding g.number
number-of (numeral.Int x) = inl (as-of _ (t.Int x ∷ []) x (int-of x))
number-of (numeral.Dec x) = inr (as-of _ (t.Dec x ∷ []) x (dec-of x))

const-of : (x : Constant) → g.const.spells (written_constant x) x
unfolding g.const
const-of (const.Number x) = inl (as-of _ (written_number x) x (number-of x))
const-of (const.Text x) = inr (inl (as-of _ (t.Text x ∷ []) x (text-of x)))
const-of const.True = inr (inr (inl (record { token = t.Word w.True; is = refl; stands_for = refl })))
const-of const.False = inr (inr (inl (record { token = t.Word w.False; is = refl; stands_for = refl })))
const-of const.Null = inr (inr (inl (record { token = t.Word w.Null; is = refl; stands_for = refl })))
const-of (const.Date x) = inr (inr (inr (inl (as-of _ (t.Word w.Date ∷ (t.Text x ∷ [])) x (after-of (just w.Date) (t.Text x ∷ []) tt (one w.Date) (text-of x))))))
const-of (const.Period x) = inr (inr (inr (inr (as-of _ (t.Word w.Period ∷ (t.Text x ∷ [])) x (after-of (just w.Period) (t.Text x ∷ []) tt (one w.Period) (text-of x))))))

minus-of : (b : Bool) → (Rattle.grammar_forms.specs.Forms.as g.is_some (Rattle.grammar_forms.specs.Forms.maybe (key w.Minus))).spells (minus_word b) b
minus-of true = record { part = Some tt; spelled = one w.Minus; is = refl }
minus-of false = record { part = None; spelled = refl; is = refl }

negated-of : (b : Bool) → g.negated.spells (not_word b) b
unfolding g.negated
negated-of true = record { part = Some tt; spelled = one w.Not; is = refl }
negated-of false = record { part = None; spelled = refl; is = refl }

pub lit-of : (x : Literal) → g.lit.spells (written_literal x) x
unfolding g.lit g.signed_number
lit-of (literal.Number negative x) = inl (as-of _ (minus_word negative ++ written_number x) (negative, x) (both-of (minus_word negative) (written_number x) (minus-of negative) (number-of x)))
lit-of (literal.Text x) = inr (inl (as-of _ (t.Text x ∷ []) x (text-of x)))
lit-of literal.True = inr (inr (inl (record { token = t.Word w.True; is = refl; stands_for = refl })))
lit-of literal.False = inr (inr (inl (record { token = t.Word w.False; is = refl; stands_for = refl })))
lit-of (literal.Date x) = inr (inr (inr (inl (as-of _ (t.Word w.Date ∷ (t.Text x ∷ [])) x (after-of (just w.Date) (t.Text x ∷ []) tt (one w.Date) (text-of x))))))
lit-of (literal.Period x) = inr (inr (inr (inr (as-of _ (t.Word w.Period ∷ (t.Text x ∷ [])) x (after-of (just w.Period) (t.Text x ∷ []) tt (one w.Period) (text-of x))))))

pub two : (x y : Word) → (two_keys x y).spells (p.two_words x y) tt
two x y = after-of (just x) (just y) tt (one x) (one y)

pub not_null-of : (b : Bool) → g.not_null.spells (p.not_null_words b) b
unfolding g.not_null
not_null-of true = record { part = Some tt; spelled = two w.Not w.Null; is = refl }
not_null-of false = record { part = None; spelled = refl; is = refl }

-- what may be left out

pub names-of : (x : Text) (xs : List Text) → Each IsName (x ∷ xs) → g.names.spells (p.commas p.written_name (x ∷ xs)) (x ∷ xs)
unfolding g.names
names-of x xs each = listed-by w.Comma g.name p.written_name IsName (λ y h. name-of y) (x ∷ xs) (omega arith) each

module _ {O A : Type 0} (mark : SqlForm O) (marks : Tokens) (o : O) (marked : mark.spells marks o) (items : SqlForm (List A)) (f : List A → Tokens) (P : A → Type 0) (item-spells : (x : A) (xs : List A) → Each P (x ∷ xs) → items.spells (f (x ∷ xs)) (x ∷ xs)) where
  pub items-of : (xs : List A) → Each P xs → (items_after mark items).spells (p.items_after marks f xs) xs
  items-of [] each = inr (record { none = refl; is = refl })
  items-of (x ∷ xs) each = inl (record { part = (o, x ∷ xs); spelled = both-of marks (f (x ∷ xs)) marked (item-spells x xs each); is = refl })

-- names may be any texts here
any-names : (xs : List Text) → Each (λ x. Unit {0}) xs
any-names [] = tt
any-names (x ∷ xs) = (tt, any-names xs)

bracketed-names : (x : Text) (xs : List Text) → (in_brackets g.names).spells (bracketed (commas p.written_name (x ∷ xs))) (x ∷ xs)
unfolding g.names
bracketed-names x xs = in-brackets-of (commas p.written_name (x ∷ xs)) (x ∷ xs) (listed-by w.Comma g.name p.written_name (λ y. Unit {0}) (λ y u. name-of y) (x ∷ xs) (omega arith) (any-names (x ∷ xs)))

span-token : (s : Span) → (of_table g.spans_table).spells (just (p.span_word s)) s
span-token span.Single = record { token = t.Word w.Single; is = refl; stands_for = refl }
span-token span.All = record { token = t.Word w.All; is = refl; stands_for = refl }

series-of : (x : Series) → g.series.spells (p.written_series x) x
unfolding g.series
series-of x =
    as-of _ (p.written_series x) (x.on, (x.by, x.span)) (both-of (t.Word w.On ∷ (t.Name x.on ∷ [])) _ (after-of (just w.On) (t.Name x.on ∷ []) tt (one w.On) (name-of x.on))
    (both-of _ (just (p.span_word x.span)) (items-of (key w.By) (just w.By) tt (one w.By) (in_brackets g.names) (λ xs. bracketed (commas p.written_name xs)) (λ y. Unit {0}) (λ y ys each. bracketed-names y ys) x.by (any-names x.by)) (span-token x.span)))

given-of : (table : Text) (o : Option Series) → g.given.spells (p.written_given table o) (table, o)
unfolding g.given
given-of table None = inl (as-of _ (t.Name table ∷ []) table (name-of table))
given-of table (Some x) =
    inr (as-of _ (p.written_given table (Some x)) (table, x) (after-of (just w.Series) (t.Name table ∷ p.written_series x) tt (one w.Series) (both-of (t.Name table ∷ []) (p.written_series x) (name-of table) (series-of x))))

pub source-of : (s : Source) → g.source.spells (written_source s) s
unfolding g.source
source-of s = as-of _ (written_source s) ((s.table, s.series), s.alias) (both-of (p.written_given s.table s.series) (t.Word w.As ∷ (t.Name s.alias ∷ [])) (given-of s.table s.series) (after-of (just w.As) (t.Name s.alias ∷ []) tt (one w.As) (name-of s.alias)))

equality-of : (e : Equality) → g.equality.spells (written_equality e) e
unfolding g.equality
equality-of e = as-of _ (written_equality e) (e.left, e.right) (both-of _ (t.Word w.Equal ∷ _) (column-of e.left) (after-of (just w.Equal) _ tt (one w.Equal) (column-of e.right)))

-- ---- expressions: the tokens spell the tree, not deeper than the bound

record Writes (m l : ℕ) (ts : Tokens) (e : Exp) (bound : ℕ) : Type 0 where
  depth : ℕ
  low : depth ≤ bound
  spelled : (form_at m l).spells ts (deep e depth)

-- at any looser level
raise : (m l k : ℕ) (ts : Tokens) (e : Exp) (bound more : ℕ) → l ≤ k → bound ≤ more → Writes m l ts e bound → Writes m k ts e more
raise m l k ts e bound more h b is = record { depth = is.depth; low = omega (arith, is.low); spelled = moved m (k - l + l) k ts (deep e is.depth) (omega (arith, h)) (lift m l (k - l) ts (deep e is.depth) is.spelled) }

in-pair : (k : ℕ) (ts : Tokens) (e : Exp) (bound : ℕ) → bound ≤ suc k → Writes k 7 ts e bound → Writes (suc k) 0 (bracketed ts) e (suc bound)
unfolding g.prim g.bracketed
in-pair k ts e bound h is = record {
  depth = suc is.depth;
  low = omega (arith, is.low);
  spelled = inr (inr (inl (record { part = deep e is.depth; spelled = in-brackets-of ts (deep e is.depth) (whole k ts (deep e is.depth) is.spelled); is = limited-ok (suc (suc k)) (suc is.depth) e (omega (arith, is.low, h)) })));
}

-- what is written for a part spells it, at its level
abbrev Good : Exp → Type 0
Good e = (m : ℕ) → 2 * exp_depth e ≤ suc (suc m) → Writes m (level_of e) (written e) e (2 * exp_depth e - 1)

deep-some : (e : Exp) → 1 ≤ exp_depth e
deep-some (binary a o b) = omega arith
deep-some (unary o e) = omega arith
deep-some (is_null e n) = omega arith
deep-some (in_list e n ls) = omega arith
deep-some (constant x) = omega arith
deep-some (column x) = omega arith
deep-some (call f es) = omega arith
deep-some count_all = omega arith
deep-some (aggregate f e) = omega arith
deep-some (case_when bs e) = omega arith
deep-some (exists s es) = omega arith

op-low : (o : ScalarOp) → op_level o ≤ 7
op-low op.Or = omega arith
op-low op.Xor = omega arith
op-low op.And = omega arith
op-low op.Add = omega arith
op-low op.Subtract = omega arith
op-low op.Concat = omega arith
op-low op.Multiply = omega arith
op-low op.Divide = omega arith
op-low _ = omega arith

unary-low : (o : ScalarOp) → unary_level o ≤ 7
unary-low op.Not = omega arith
unary-low _ = omega arith

level-low : (e : Exp) → level_of e ≤ 7
level-low (binary a o b) = op-low o
level-low (unary o e) = unary-low o
level-low (is_null e n) = omega arith
level-low (in_list e n ls) = omega arith
level-low (constant x) = omega arith
level-low (column x) = omega arith
level-low (call f es) = omega arith
level-low count_all = omega arith
level-low (aggregate f e) = omega arith
level-low (case_when bs e) = omega arith
level-low (exists s es) = omega arith

-- a part at its place, in brackets where it needs them
at-test : (m l : ℕ) (e : Exp) → Good e → 2 * exp_depth e ≤ suc m → (b : Bool) → nat_le (level_of e) l ≡ b → Writes m l (wrapped b (written e)) e (2 * exp_depth e)
at-test m l e good h true t = raise m (level_of e) l (written e) e (2 * exp_depth e - 1) (2 * exp_depth e) (leb-true (level_of e) l t) (omega arith) (good m (omega (arith, h)))
at-test zero l e good h false t = absurd (omega (arith, h, deep-some e))
at-test (suc k) l e good h false t =
    let inside = raise k (level_of e) 7 (written e) e (2 * exp_depth e - 1) (2 * exp_depth e - 1) (level-low e) (omega arith) (good k (omega (arith, h))) in
    raise (suc k) 0 l (bracketed (written e)) e (suc (2 * exp_depth e - 1)) (2 * exp_depth e) (omega arith) (omega (arith, deep-some e)) (in-pair k (written e) e (2 * exp_depth e - 1) (omega (arith, h)) inside)

at : (m l : ℕ) (e : Exp) → Good e → 2 * exp_depth e ≤ suc m → Writes m l (wrapped (nat_le (level_of e) l) (written e)) e (2 * exp_depth e)
at m l e good h = at-test m l e good h (nat_le (level_of e) l) refl

-- ---- operators that group to the left

chain-op : (n : ℕ) (operand : Expr) (table : List (ℕ × ScalarOp)) (x : Word) (o : ScalarOp) → lookup table (place x) ≡ Some o → (us vs : Tokens) (a b : Exp) (da db : ℕ) → (g.left_grouped n operand table).spells us (deep a da) → operand.spells vs (deep b db) → suc (max da db) ≤ n
    → (g.left_grouped n operand table).spells (us ++ (t.Word x ∷ vs)) (deep (binary a o b) (suc (max da db)))
chain-op n operand table x o known us vs a b da db ha hb low =
    chain-more _ _ _ us (t.Word x ∷ vs) (deep a da) (deep (binary a o b) (suc (max da db))) (o, deep b db) ha
    (record { left = just x; right = vs; is = refl; first = record { token = t.Word x; is = refl; stands_for = known }; second = hb }) (limited-ok n (suc (max da db)) (binary a o b) low)

module _ (a b : Exp) (ga : Good a) (gb : Good b) (m : ℕ) (h : 2 * suc (max (exp_depth a) (exp_depth b)) ≤ suc (suc m)) (x : Word) (o : ScalarOp) where
  bound : ℕ
  bound = 2 * suc (max (exp_depth a) (exp_depth b)) - 1

  tokens-at : ℕ → ℕ → Tokens
  tokens-at i j = wrapped (nat_le (level_of a) i) (written a) ++ (t.Word x ∷ wrapped (nat_le (level_of b) j) (written b))

  or-case : lookup or_ops_table (place x) ≡ Some o → Writes m 7 (tokens-at 7 6) (binary a o b) bound
  unfolding bound tokens-at g.disjunction
  or-case known = let l = at m 7 a ga (omega (arith, h)) in let r = at m 6 b gb (omega (arith, h)) in
      record { depth = suc (max l.depth r.depth); low = omega (arith, l.low, r.low); spelled = chain-op (suc m) (g.conjunction (suc m) (expr_at m)) or_ops_table x o known _ _ a b l.depth r.depth l.spelled r.spelled (omega (arith, l.low, r.low, h)) }

  and-case : lookup and_ops_table (place x) ≡ Some o → Writes m 6 (tokens-at 6 5) (binary a o b) bound
  unfolding bound tokens-at g.conjunction
  and-case known = let l = at m 6 a ga (omega (arith, h)) in let r = at m 5 b gb (omega (arith, h)) in
      record { depth = suc (max l.depth r.depth); low = omega (arith, l.low, r.low); spelled = chain-op (suc m) (g.neg (suc m) (expr_at m)) and_ops_table x o known _ _ a b l.depth r.depth l.spelled r.spelled (omega (arith, l.low, r.low, h)) }

  add-case : lookup add_ops_table (place x) ≡ Some o → Writes m 3 (tokens-at 3 2) (binary a o b) bound
  unfolding bound tokens-at g.add
  add-case known = let l = at m 3 a ga (omega (arith, h)) in let r = at m 2 b gb (omega (arith, h)) in
      record { depth = suc (max l.depth r.depth); low = omega (arith, l.low, r.low); spelled = chain-op (suc m) (g.mul (suc m) (expr_at m)) add_ops_table x o known _ _ a b l.depth r.depth l.spelled r.spelled (omega (arith, l.low, r.low, h)) }

  mul-case : lookup multiply_ops_table (place x) ≡ Some o → Writes m 2 (tokens-at 2 1) (binary a o b) bound
  unfolding bound tokens-at g.mul
  mul-case known = let l = at m 2 a ga (omega (arith, h)) in let r = at m 1 b gb (omega (arith, h)) in
      record { depth = suc (max l.depth r.depth); low = omega (arith, l.low, r.low); spelled = chain-op (suc m) (g.un (suc m) (expr_at m)) multiply_ops_table x o known _ _ a b l.depth r.depth l.spelled r.spelled (omega (arith, l.low, r.low, h)) }

  compare-case : lookup compare_ops_table (place x) ≡ Some o → Writes m 4 (tokens-at 3 3) (binary a o b) bound
  unfolding bound tokens-at g.cmp g.tail
  compare-case known = let l = at m 3 a ga (omega (arith, h)) in let r = at m 3 b gb (omega (arith, h)) in
      record {
        depth = suc (max l.depth r.depth);
        low = omega (arith, l.low, r.low);
        spelled = record {
          part = (deep a l.depth, Some (g.Compared o (deep b r.depth)));
          spelled = record {
            left = wrapped (nat_le (level_of a) 3) (written a);
            right = t.Word x ∷ wrapped (nat_le (level_of b) 3) (written b);
            is = refl;
            first = l.spelled;
            second = inl (record { part = (o, deep b r.depth); spelled = record { left = just x; right = wrapped (nat_le (level_of b) 3) (written b); is = refl; first = record { token = t.Word x; is = refl; stands_for = known }; second = r.spelled }; is = refl });
          };
          is = limited-ok (suc m) (suc (max l.depth r.depth)) (binary a o b) (omega (arith, l.low, r.low, h));
        };
      }

binary-good : (a b : Exp) → Good a → Good b → (o : ScalarOp) → is_binary o ≡ true → Good (binary a o b)
unfolding bound tokens-at
binary-good a b ga gb op.Or is m h = or-case a b ga gb m h w.Or op.Or refl
binary-good a b ga gb op.Xor is m h = or-case a b ga gb m h w.Xor op.Xor refl
binary-good a b ga gb op.And is m h = and-case a b ga gb m h w.And op.And refl
binary-good a b ga gb op.Equal is m h = compare-case a b ga gb m h w.Equal op.Equal refl
binary-good a b ga gb op.NotEqual is m h = compare-case a b ga gb m h w.NotEqual op.NotEqual refl
binary-good a b ga gb op.Less is m h = compare-case a b ga gb m h w.Less op.Less refl
binary-good a b ga gb op.LessOrEqual is m h = compare-case a b ga gb m h w.LessOrEqual op.LessOrEqual refl
binary-good a b ga gb op.Greater is m h = compare-case a b ga gb m h w.Greater op.Greater refl
binary-good a b ga gb op.GreaterOrEqual is m h = compare-case a b ga gb m h w.GreaterOrEqual op.GreaterOrEqual refl
binary-good a b ga gb op.Add is m h = add-case a b ga gb m h w.Plus op.Add refl
binary-good a b ga gb op.Subtract is m h = add-case a b ga gb m h w.Minus op.Subtract refl
binary-good a b ga gb op.Concat is m h = add-case a b ga gb m h w.Concat op.Concat refl
binary-good a b ga gb op.Multiply is m h = mul-case a b ga gb m h w.Star op.Multiply refl
binary-good a b ga gb op.Divide is m h = mul-case a b ga gb m h w.Slash op.Divide refl
binary-good a b ga gb _ is m h = cc

-- ---- leaves

constant-good : (x : Constant) → Good (constant x)
unfolding g.prim
constant-good x m h = record { depth = 1; low = omega arith; spelled = inl (record { part = x; spelled = const-of x; is = refl }) }

column-good : (x : Column) → Good (column x)
column-good x m h = record { depth = 1; low = omega arith; spelled = column-prim (suc m) (expr_at m Whole) _ x (column-of x) }

count_all-good : Good count_all
unfolding g.aggr g.counted
count_all-good m h = record {
  depth = 1;
  low = omega arith;
  spelled = prim-aggr (suc m) (expr_at m Whole) (t.Word w.Count ∷ bracketed (just w.Star)) (deep count_all 1)
      (inl (after-of (just w.Count) (bracketed (just w.Star)) tt (one w.Count) (in-brackets-of (just w.Star) (deep count_all 1) (inl (as-of _ (just w.Star) tt (one w.Star))))));
}

exists-good : (s : Source) (es : List Equality) → Each IsEquality es → Good (exists s es)
unfolding g.prim g.exists g.matched
exists-good s es each m h = record {
  depth = 3;
  low = omega arith;
  spelled = inr (inr (inr (inr (inr (inr (record {
    part = (s, es);
    spelled = after-of (just w.Exists) _ tt (one w.Exists) (in-brackets-of (t.Word w.Select ∷ (t.Int (49 ∷ []) ∷ (t.Word w.From ∷ (written_source s ++ written_equalities es)))) (s, es)
        (after-of (just w.Select) _ tt (one w.Select) (after-of (t.Int (49 ∷ []) ∷ []) _ tt (record { token = t.Int (49 ∷ []); is = refl; stands_for = refl }) (after-of (just w.From) _ tt (one w.From) (both-of (written_source s) (written_equalities es) (source-of s) (equalities es each))))));
    is = limited-ok (suc m) 3 (exists s es) (omega (arith, h));
  }))))));
}
  where
    equalities : (xs : List Equality) → Each IsEquality xs → (g.items_after (key w.Where) (Rattle.grammar_forms.specs.Forms.listed (key w.And) g.equality)).spells (written_equalities xs) xs
    equalities [] each = inr (record { none = refl; is = refl })
    equalities (x ∷ xs) each = inl (record {
      part = (tt, x ∷ xs);
      spelled = both-of (just w.Where) _ (one w.Where) (listed-by w.And g.equality written_equality IsEquality (λ e p. equality-of e) (x ∷ xs) (omega arith) each);
      is = refl;
    })

-- ---- operators before and behind an operand

negation-good : (e : Exp) → Good e → Good (unary op.Not e)
unfolding g.neg
negation-good e ge zero h = absurd (omega (arith, h, deep-some e))
negation-good e ge (suc k) h =
    let a = at k 5 e ge (omega (arith, h)) in
    let ts = wrapped (nat_le (level_of e) 5) (written e) in
    record {
      depth = suc a.depth;
      low = omega (arith, a.low);
      spelled = inl (record { part = deep e a.depth; spelled = after-of (just w.Not) ts tt (one w.Not) (negated k ts (deep e a.depth) a.spelled); is = limited-ok (suc (suc k)) (suc a.depth) (unary op.Not e) (omega (arith, a.low, h)) });
    }

sign-good : (o : ScalarOp) (e : Exp) → (of_table signs_table).spells (just (op_word o)) o → Good e → (m : ℕ) → 2 * suc (exp_depth e) ≤ suc (suc m) → Writes m 1 (t.Word (op_word o) ∷ wrapped (nat_le (level_of e) 1) (written e)) (unary o e) (2 * suc (exp_depth e) - 1)
unfolding g.un
sign-good o e sign ge zero h = absurd (omega (arith, h, deep-some e))
sign-good o e sign ge (suc k) h =
    let a = at k 1 e ge (omega (arith, h)) in
    let ts = wrapped (nat_le (level_of e) 1) (written e) in
    record {
      depth = suc a.depth;
      low = omega (arith, a.low);
      spelled = inl (record { part = (o, deep e a.depth); spelled = both-of (just (op_word o)) ts sign (signed k ts (deep e a.depth) a.spelled); is = limited-ok (suc (suc k)) (suc a.depth) (unary o e) (omega (arith, a.low, h)) });
    }

unary-good : (o : ScalarOp) → is_unary o ≡ true → (e : Exp) → Good e → Good (unary o e)
unary-good op.Not is e ge = negation-good e ge
unary-good op.Identity is e ge = sign-good op.Identity e (record { token = t.Word w.Plus; is = refl; stands_for = refl }) ge
unary-good op.Negate is e ge = sign-good op.Negate e (record { token = t.Word w.Minus; is = refl; stands_for = refl }) ge
unary-good _ is e ge = cc

-- what stands behind an operand
tailed : (e : Exp) → Good e → (m : ℕ) → 2 * suc (exp_depth e) ≤ suc (suc m) → (ts : Tokens) (tail : g.Tail) (whole : Exp) → (g.tail (suc m) (expr_at m)).spells ts tail
    → ((d : ℕ) → suc d ≤ suc m → g.with_tail (suc m) (deep e d, Some tail) ≡ Some (deep whole (suc d))) → Writes m 4 (wrapped (nat_le (level_of e) 3) (written e) ++ ts) whole (2 * suc (exp_depth e) - 1)
unfolding g.cmp
tailed e ge m h ts tail whole spelled made =
    let a = at m 3 e ge (omega (arith, h)) in
    record {
      depth = suc a.depth;
      low = omega (arith, a.low);
      spelled = record { part = (deep e a.depth, Some tail); spelled = record { left = wrapped (nat_le (level_of e) 3) (written e); right = ts; is = refl; first = a.spelled; second = spelled }; is = made a.depth (omega (arith, a.low, h)) };
    }

null-good : (e : Exp) (n : Bool) → Good e → Good (is_null e n)
unfolding g.tail g.null_test
null-good e n ge m h =
    tailed e ge m h (t.Word w.Is ∷ (not_word n ++ just w.Null)) (g.IsNull n) (is_null e n)
    (inr (inl (as-of _ _ n (after-of (just w.Is) (not_word n ++ just w.Null) tt (one w.Is) (before-of (not_word n) (just w.Null) tt (negated-of n) (one w.Null))))))
    (λ d low. limited-ok (suc m) (suc d) (is_null e n) low)

list-good : (e : Exp) (n : Bool) (ls : List Literal) → 1 ≤ length ls → Each IsLiteral ls → Good e → Good (in_list e n ls)
unfolding g.tail g.membership g.lits
list-good e n ls some each ge m h =
    tailed e ge m h (not_word n ++ (t.Word w.In ∷ bracketed (commas written_literal ls))) (g.Among n ls) (in_list e n ls)
    (inr (inr (as-of _ _ (n, ls) (both-of (not_word n) (t.Word w.In ∷ bracketed (commas written_literal ls)) (negated-of n)
    (after-of (just w.In) (bracketed (commas written_literal ls)) tt (one w.In) (in-brackets-of (commas written_literal ls) ls (listed-by w.Comma g.lit written_literal IsLiteral (λ x p. lit-of x) ls some each)))))))
    (λ d low. limited-ok (suc m) (suc d) (in_list e n ls) low)

-- ---- calls

-- a part in brackets or between words, which needs no brackets of its own
item : (k : ℕ) (e : Exp) → Good e → 2 * exp_depth e ≤ suc (suc k) → Writes k 7 (written e) e (2 * exp_depth e)
item k e ge h = raise k (level_of e) 7 (written e) e (2 * exp_depth e - 1) (2 * exp_depth e) (level-low e) (omega arith) (ge k h)

list_of : Exps → List Exp
list_of no_exps = []
list_of (exp e es) = e ∷ list_of es

of_list : (es : Exps) → exps_of (list_of es) ≡ es
unfolding list_of
of_list no_exps = refl
of_list (exp e es) = ap (λ x. exp e x) (of_list es)

abbrev EachGood : Exps → Type 0
EachGood no_exps = Unit {0}
EachGood (exp e es) = Good e × EachGood es

abbrev exps_form : ℕ → SqlForm (Deep (List Exp))
exps_form m = Rattle.grammar_forms.specs.Forms.deep_listed (key w.Comma) (expr_at m Whole)

record WritesAll (m : ℕ) (ts : Tokens) (es : List Exp) (bound : ℕ) : Type 0 where
  depth : ℕ
  low : depth ≤ bound
  spelled : (exps_form m).spells ts (deep es depth)

more-items : (k : ℕ) (es : Exps) → EachGood es → 2 * exps_depth es ≤ suc (suc k) → (before : List Exp) (us : Tokens) (b : ℕ) → WritesAll (suc k) us before b → WritesAll (suc k) (us ++ more_exps es) (before ++ list_of es) (max b (2 * exps_depth es))
unfolding list_of
more-items k no_exps all h before us b is = record { depth = is.depth; low = omega (arith, is.low); spelled = subst (λ ts. (exps_form (suc k)).spells ts (deep (before ++ []) is.depth)) (sym (append-nil us)) (subst (λ xs. (exps_form (suc k)).spells us (deep xs is.depth)) (sym (append-nil before)) is.spelled) }
more-items k (exp e es) all h before us b is =
    let a = item k e all.0 (omega (arith, h)) in
    let new : Tokens = t.Word w.Comma ∷ written e in
    let next : Deep (List Exp) = deep (before ++ e ∷ []) (max is.depth a.depth) in
    let longer = chain-more _ _ _ us new (deep before is.depth) next (deep e a.depth) is.spelled (after-of (just w.Comma) (written e) tt (one w.Comma) (whole k (written e) (deep e a.depth) a.spelled)) (refl {a = Some next}) in
    let rest = more-items k es all.1 (omega (arith, h)) (before ++ e ∷ []) (us ++ new) (max b (2 * exp_depth e)) (record { depth = max is.depth a.depth; low = omega (arith, is.low, a.low); spelled = longer }) in
    record {
      depth = rest.depth;
      low = omega (arith, rest.low);
      spelled = subst (λ ts. (exps_form (suc k)).spells ts (deep (before ++ e ∷ list_of es) rest.depth)) (append_assoc us new (more_exps es))
          (subst (λ xs. (exps_form (suc k)).spells ((us ++ new) ++ more_exps es) (deep xs rest.depth)) (append_assoc before (e ∷ []) (list_of es)) rest.spelled);
    }

all-items : (k : ℕ) (es : Exps) → SomeExps es → EachGood es → 2 * exps_depth es ≤ suc (suc k) → WritesAll (suc k) (written_exps es) (list_of es) (2 * exps_depth es)
unfolding list_of
all-items k no_exps some all h = absurd some
all-items k (exp e es) some all h =
    let a = item k e all.0 (omega (arith, h)) in
    let alone : Deep (List Exp) = deep (e ∷ []) a.depth in
    let first : (exps_form (suc k)).spells (written e) alone = chain-alone _ _ _ (written e) alone (record { part = deep e a.depth; spelled = whole k (written e) (deep e a.depth) a.spelled; is = refl {a = Some alone} }) in
    let rest = more-items k es all.1 (omega (arith, h)) (e ∷ []) (written e) (2 * exp_depth e) (record { depth = a.depth; low = a.low; spelled = first }) in
    record { depth = rest.depth; low = omega (arith, rest.low); spelled = rest.spelled }

function-token : (f : ScalarOp) → is_function f ≡ true → (of_table functions_table).spells (just (op_word f)) f
function-token op.Absolute is = record { token = t.Word w.Abs; is = refl; stands_for = refl }
function-token op.Floor is = record { token = t.Word w.Floor; is = refl; stands_for = refl }
function-token op.Ceil is = record { token = t.Word w.Ceil; is = refl; stands_for = refl }
function-token op.Round is = record { token = t.Word w.Round; is = refl; stands_for = refl }
function-token op.Truncate is = record { token = t.Word w.Trunc; is = refl; stands_for = refl }
function-token op.Modulo is = record { token = t.Word w.Mod; is = refl; stands_for = refl }
function-token op.Trim is = record { token = t.Word w.Trim; is = refl; stands_for = refl }
function-token op.TrimLeft is = record { token = t.Word w.Ltrim; is = refl; stands_for = refl }
function-token op.TrimRight is = record { token = t.Word w.Rtrim; is = refl; stands_for = refl }
function-token op.Substring is = record { token = t.Word w.Substr; is = refl; stands_for = refl }
function-token op.Replace is = record { token = t.Word w.Replace; is = refl; stands_for = refl }
function-token op.Position is = record { token = t.Word w.Instr; is = refl; stands_for = refl }
function-token op.Length is = record { token = t.Word w.Length; is = refl; stands_for = refl }
function-token op.ValueOr is = record { token = t.Word w.Coalesce; is = refl; stands_for = refl }
function-token op.Between is = record { token = t.Word w.Between; is = refl; stands_for = refl }
function-token op.PeriodShift is = record { token = t.Word w.PeriodShift; is = refl; stands_for = refl }
function-token op.PeriodFrequency is = record { token = t.Word w.PeriodFrequency; is = refl; stands_for = refl }
function-token _ is = cc

some-depth : (es : Exps) → SomeExps es → 1 ≤ exps_depth es
some-depth no_exps s = absurd s
some-depth (exp e es) s = omega (arith, deep-some e)

call-good : (f : ScalarOp) (es : Exps) → is_function f ≡ true → SomeExps es → EachGood es → Good (call f es)
unfolding g.prim g.call_of
call-good f es is some all zero h = absurd (omega (arith, h, some-depth es some))
call-good f es is some all (suc k) h =
    let a = all-items k es some all (omega (arith, h)) in
    record {
      depth = suc a.depth;
      low = omega (arith, a.low, some-depth es some);
      spelled = inr (inr (inr (inl (record {
        part = (f, deep (list_of es) a.depth);
        spelled = both-of (just (op_word f)) (bracketed (written_exps es)) (function-token f is) (in-brackets-of (written_exps es) (deep (list_of es) a.depth) a.spelled);
        is = limited-ok (suc (suc k)) (suc a.depth) (call f (exps_of (list_of es))) (omega (arith, a.low, h)) ∙ ap (λ x. Some (deep (call f x) (suc a.depth))) (of_list es);
      }))));
    }

-- ---- aggregates

other-aggr : (n : ℕ) (part : Expr) (f : AggKind) (e : Exp) (d : ℕ) (ts : Tokens) → (of_table aggregates_table).spells (just (aggregate_word f)) f → suc d ≤ n → part.spells ts (deep e d) → (g.aggr n part).spells (t.Word (aggregate_word f) ∷ bracketed ts) (deep (aggregate f e) (suc d))
unfolding g.aggr
other-aggr n part f e d ts token low h = inr (record { part = (f, deep e d); spelled = both-of (just (aggregate_word f)) (bracketed ts) token (in-brackets-of ts (deep e d) h); is = limited-ok n (suc d) (aggregate f e) low })

aggr-of : (n : ℕ) (part : Expr) (f : AggKind) (e : Exp) (d : ℕ) (ts : Tokens) → suc d ≤ n → part.spells ts (deep e d) → (g.aggr n part).spells (t.Word (aggregate_word f) ∷ bracketed ts) (deep (aggregate f e) (suc d))
unfolding g.aggr g.counted
aggr-of n part agg.Count e d ts low h = inl (after-of (just w.Count) (bracketed ts) tt (one w.Count) (in-brackets-of ts (deep (aggregate agg.Count e) (suc d)) (inr (record { part = deep e d; spelled = h; is = limited-ok n (suc d) (aggregate agg.Count e) low }))))
aggr-of n part agg.Sum e d ts low h = other-aggr n part agg.Sum e d ts (record { token = t.Word w.Sum; is = refl; stands_for = refl }) low h
aggr-of n part agg.Avg e d ts low h = other-aggr n part agg.Avg e d ts (record { token = t.Word w.Avg; is = refl; stands_for = refl }) low h
aggr-of n part agg.Min e d ts low h = other-aggr n part agg.Min e d ts (record { token = t.Word w.Min; is = refl; stands_for = refl }) low h
aggr-of n part agg.Max e d ts low h = other-aggr n part agg.Max e d ts (record { token = t.Word w.Max; is = refl; stands_for = refl }) low h
aggr-of n part agg.Median e d ts low h = other-aggr n part agg.Median e d ts (record { token = t.Word w.Median; is = refl; stands_for = refl }) low h

aggregate-good : (f : AggKind) (e : Exp) → Good e → Good (aggregate f e)
aggregate-good f e ge zero h = absurd (omega (arith, h, deep-some e))
aggregate-good f e ge (suc k) h =
    let a = item k e ge (omega (arith, h)) in
    record {
      depth = suc a.depth;
      low = omega (arith, a.low, deep-some e);
      spelled = prim-aggr (suc (suc k)) (expr_at (suc k) Whole) _ (deep (aggregate f e) (suc a.depth)) (aggr-of (suc (suc k)) (expr_at (suc k) Whole) f e a.depth (written e) (omega (arith, a.low, h)) (whole k (written e) (deep e a.depth) a.spelled));
    }

-- ---- cases

pairs_of : Branches → List (Exp × Exp)
pairs_of no_branches = []
pairs_of (branch e v bs) = (e, v) ∷ pairs_of bs

of_pairs : (bs : Branches) → branches_of (pairs_of bs) ≡ bs
unfolding pairs_of
of_pairs no_branches = refl
of_pairs (branch e v bs) = ap (λ x. branch e v x) (of_pairs bs)

abbrev BranchesGood : Branches → Type 0
BranchesGood no_branches = Unit {0}
BranchesGood (branch e v bs) = Good e × Good v × BranchesGood bs

record WritesPairs (m : ℕ) (ts : Tokens) (bs : List (Exp × Exp)) (bound : ℕ) : Type 0 where
  depth : ℕ
  low : depth ≤ bound
  spelled : (g.branches (expr_at m Whole)).spells ts (deep bs depth)

branch_tokens : Exp → Exp → Tokens
branch_tokens e v = t.Word w.When ∷ (written e ++ (t.Word w.Then ∷ written v))

record WritesPair (m : ℕ) (e v : Exp) : Type 0 where
  depth : ℕ
  low : depth ≤ max (2 * exp_depth e) (2 * exp_depth v)
  spelled : (g.branch (expr_at m Whole)).spells (branch_tokens e v) (deep (e, v) depth)

one-branch : (k : ℕ) (e v : Exp) → Good e → Good v → 2 * exp_depth e ≤ suc (suc k) → 2 * exp_depth v ≤ suc (suc k) → WritesPair (suc k) e v
unfolding g.branch branch_tokens
one-branch k e v ge gv he hv =
    let a = item k e ge he in
    let b = item k v gv hv in
    record {
      depth = max a.depth b.depth;
      low = omega (arith, a.low, b.low);
      spelled = as-of _ (branch_tokens e v) (deep e a.depth, deep v b.depth) (both-of (t.Word w.When ∷ written e) (t.Word w.Then ∷ written v) (after-of (just w.When) (written e) tt (one w.When) (whole k (written e) (deep e a.depth) a.spelled)) (after-of (just w.Then) (written v) tt (one w.Then) (whole k (written v) (deep v b.depth) b.spelled)));
    }

more-branches : (k : ℕ) (bs : Branches) → BranchesGood bs → 2 * branches_depth bs ≤ suc (suc k) → (before : List (Exp × Exp)) (us : Tokens) (b : ℕ) → WritesPairs (suc k) us before b → WritesPairs (suc k) (us ++ written_branches bs) (before ++ pairs_of bs) (max b (2 * branches_depth bs))
unfolding pairs_of g.branches branch_tokens
more-branches k no_branches all h before us b is = record { depth = is.depth; low = omega (arith, is.low); spelled = subst (λ ts. (g.branches (expr_at (suc k) Whole)).spells ts (deep (before ++ []) is.depth)) (sym (append-nil us)) (subst (λ xs. (g.branches (expr_at (suc k) Whole)).spells us (deep xs is.depth)) (sym (append-nil before)) is.spelled) }
more-branches k (branch e v bs) all h before us b is =
    let a = one-branch k e v all.0 all.1 (omega (arith, h)) (omega (arith, h)) in
    let new : Tokens = branch_tokens e v in
    let next : Deep (List (Exp × Exp)) = deep (before ++ (e, v) ∷ []) (max is.depth a.depth) in
    let longer = chain-more _ _ _ us new (deep before is.depth) next (deep (e, v) a.depth) is.spelled a.spelled (refl {a = Some next}) in
    let rest = more-branches k bs all.2 (omega (arith, h)) (before ++ (e, v) ∷ []) (us ++ new) (max b (max (2 * exp_depth e) (2 * exp_depth v))) (record { depth = max is.depth a.depth; low = omega (arith, is.low, a.low); spelled = longer }) in
    record {
      depth = rest.depth;
      low = omega (arith, rest.low);
      spelled = subst (λ ts. (g.branches (expr_at (suc k) Whole)).spells ts (deep (before ++ (e, v) ∷ pairs_of bs) rest.depth)) (append_assoc us new (written_branches bs))
          (subst (λ xs. (g.branches (expr_at (suc k) Whole)).spells ((us ++ new) ++ written_branches bs) (deep xs rest.depth)) (append_assoc before ((e, v) ∷ []) (pairs_of bs)) rest.spelled);
    }

all-branches : (k : ℕ) (bs : Branches) → SomeBranches bs → BranchesGood bs → 2 * branches_depth bs ≤ suc (suc k) → WritesPairs (suc k) (written_branches bs) (pairs_of bs) (2 * branches_depth bs)
unfolding pairs_of g.branches branch_tokens
all-branches k no_branches some all h = absurd some
all-branches k (branch e v bs) some all h =
    let a = one-branch k e v all.0 all.1 (omega (arith, h)) (omega (arith, h)) in
    let alone : Deep (List (Exp × Exp)) = deep ((e, v) ∷ []) a.depth in
    let first : (g.branches (expr_at (suc k) Whole)).spells (branch_tokens e v) alone = chain-alone _ _ _ (branch_tokens e v) alone (record { part = deep (e, v) a.depth; spelled = a.spelled; is = refl {a = Some alone} }) in
    let rest = more-branches k bs all.2 (omega (arith, h)) ((e, v) ∷ []) (branch_tokens e v) (max (2 * exp_depth e) (2 * exp_depth v)) (record { depth = a.depth; low = a.low; spelled = first }) in
    record { depth = rest.depth; low = omega (arith, rest.low); spelled = rest.spelled }

case-good : (bs : Branches) (e : Exp) → SomeBranches bs → BranchesGood bs → Good e → Good (case_when bs e)
unfolding g.prim g.case
case-good bs e some all ge zero h = absurd (omega (arith, h, deep-some e))
case-good bs e some all ge (suc k) h =
    let a = all-branches k bs some all (omega (arith, h)) in
    let b = item k e ge (omega (arith, h)) in
    record {
      depth = suc (max a.depth b.depth);
      low = omega (arith, a.low, b.low, deep-some e);
      spelled = inr (inr (inr (inr (inr (inl (record {
        part = (deep (pairs_of bs) a.depth, deep e b.depth);
        spelled = after-of (just w.Case) _ tt (one w.Case) (both-of (written_branches bs) (t.Word w.Else ∷ (written e ++ just w.End)) a.spelled
            (before-of (t.Word w.Else ∷ written e) (just w.End) tt (after-of (just w.Else) (written e) tt (one w.Else) (whole k (written e) (deep e b.depth) b.spelled)) (one w.End)));
        is = limited-ok (suc (suc k)) (suc (max a.depth b.depth)) (case_when (branches_of (pairs_of bs)) e) (omega (arith, a.low, b.low, h)) ∙ ap (λ x. Some (deep (case_when x e) (suc (max a.depth b.depth)))) (of_pairs bs);
      }))))));
    }

-- ---- every expression

mutual
  good : (e : Exp) → Formed e → Good e
  good (binary a o b) f = binary-good a b (good a f.1) (good b f.2) o f.0
  good (unary o e) f = unary-good o f.0 e (good e f.1)
  good (is_null e n) f = null-good e n (good e f)
  good (in_list e n ls) f = list-good e n ls f.1 f.2 (good e f.0)
  good (constant x) f = constant-good x
  good (column x) f = column-good x
  good (call c es) f = call-good c es f.0 f.1 (each-good es f.2)
  good count_all f = count_all-good
  good (aggregate k e) f = aggregate-good k e (good e f)
  good (case_when bs e) f = case-good bs e f.0 (branches-good bs f.1) (good e f.2)
  good (exists s es) f = exists-good s es f.1

  each-good : (es : Exps) → EachFormed es → EachGood es
  each-good no_exps f = tt
  each-good (exp e es) f = (good e f.0, each-good es f.1)

  branches-good : (bs : Branches) → BranchesFormed bs → BranchesGood bs
  branches-good no_branches f = tt
  branches-good (branch e v bs) f = (good e f.0, good v f.1, branches-good bs f.2)

pub expr-of : (e : Exp) → Formed e → exp_depth e ≤ 256 → g.expr.spells (written e) e
unfolding g.expr
expr-of e f h =
    let a = raise 511 (level_of e) 7 (written e) e (2 * exp_depth e - 1) (2 * exp_depth e) (level-low e) (omega arith) (good e f 511 (omega (arith, h))) in
    record { part = deep e a.depth; spelled = whole 511 (written e) (deep e a.depth) a.spelled; is = refl }
