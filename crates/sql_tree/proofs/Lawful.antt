-- The forms of the grammar are lawful.
use Rattle.std.proofs.Common.{◌≡◌, ℕ, zero, suc, true, [], ◌∷◌, List, Some, refl}
use Rattle.grammar_forms.specs.Forms.{gate, has, apart}
use Rattle.grammar_forms.proofs.Laws.{Lawful, token-law, words-law, seq-law, made-law, or-law, maybe-law, led-law, absent-law, gate-law, nothing-law, as-law, after-law, before-law}
use Rattle.grammar_forms.proofs.Chains.{chain-law, listed-law, deep_listed-law}
use Rattle.sql_lexer.specs.Places.{place}
use Rattle.sql_lexer.specs.declared.token.TokenKind.{TokenKind}
use Rattle.sql_lexer.specs.declared.token.TokenKind.TheVariants as t
use Rattle.sql_lexer.specs.declared.token.Word.{Word}
use Rattle.sql_lexer.specs.declared.token.Word.TheVariants as w
use Rattle.sql_tree.specs.Classes.{class, name_class, text_class, int_class, dec_class}
use Rattle.sql_tree.specs.Trees.{Text}
use Rattle.sql_tree.specs.Grammar as g
use Rattle.sql_tree.specs.Grammar.{SqlForm, Place, Whole, Negated, Signed, Expr, key, name, text, int, dec, one, name_at, text_at, int_at, dec_at, one_at, of_table, in_brackets, commas, items_after, two_keys, starts_of, more_of}

-- ---- tokens

known-name : (x : TokenKind) (a : Text) → name_at x ≡ Some a → has (name_class ∷ []) (class x) ≡ true
known-name (t.Name x) a h = refl
known-name (t.Word x) a h = cc
known-name (t.Text x) a h = cc
known-name (t.Int x) a h = cc
known-name (t.Dec x) a h = cc

known-text : (x : TokenKind) (a : Text) → text_at x ≡ Some a → has (text_class ∷ []) (class x) ≡ true
known-text (t.Text x) a h = refl
known-text (t.Word x) a h = cc
known-text (t.Name x) a h = cc
known-text (t.Int x) a h = cc
known-text (t.Dec x) a h = cc

known-int : (x : TokenKind) (a : Text) → int_at x ≡ Some a → has (int_class ∷ []) (class x) ≡ true
known-int (t.Int x) a h = refl
known-int (t.Word x) a h = cc
known-int (t.Name x) a h = cc
known-int (t.Text x) a h = cc
known-int (t.Dec x) a h = cc

known-dec : (x : TokenKind) (a : Text) → dec_at x ≡ Some a → has (dec_class ∷ []) (class x) ≡ true
known-dec (t.Dec x) a h = refl
known-dec (t.Word x) a h = cc
known-dec (t.Name x) a h = cc
known-dec (t.Text x) a h = cc
known-dec (t.Int x) a h = cc

known-one : (x : TokenKind) (a : Unit {0}) → one_at x ≡ Some a → has (int_class ∷ []) (class x) ≡ true
known-one (t.Int x) a h = refl
known-one (t.Word x) a h = cc
known-one (t.Name x) a h = cc
known-one (t.Text x) a h = cc
known-one (t.Dec x) a h = cc

pub name-law : Lawful class name
name-law = token-law class (name_class ∷ []) name_at known-name

pub text-law : Lawful class text
text-law = token-law class (text_class ∷ []) text_at known-text

pub int-law : Lawful class int
int-law = token-law class (int_class ∷ []) int_at known-int

pub dec-law : Lawful class dec
dec-law = token-law class (dec_class ∷ []) dec_at known-dec

one-law : Lawful class one
one-law = token-law class (int_class ∷ []) one_at known-one

pub key-law : (x : Word) → Lawful class (key x)
key-law x = words-law class ((place x, tt) ∷ [])

pub table-law : {A : Type 0} (table : List (ℕ × A)) → Lawful class (of_table table)
table-law table = words-law class table

pub keys-law : (x y : Word) → Lawful class (two_keys x y)
keys-law x y = after-law (key-law x) (key-law y) refl

-- ---- lists and brackets

pub brackets-law : {A : Type 0} {f : SqlForm A} → Lawful class f → apart f.more (place w.Close ∷ []) ≡ true → Lawful class (in_brackets f)
brackets-law lf a = after-law (key-law w.Open) (before-law lf (key-law w.Close) a) refl

pub names-law : Lawful class g.names
unfolding g.names
names-law = listed-law (key-law w.Comma) name-law refl refl refl refl

pub texts-law : Lawful class g.texts
unfolding g.texts
texts-law = listed-law (key-law w.Comma) text-law refl refl refl refl

pub column-law : Lawful class g.column
unfolding g.column
column-law = as-law _ (seq-law name-law (after-law (key-law w.Dot) name-law refl) refl)

pub columns-law : Lawful class g.columns
unfolding g.columns g.column
columns-law = listed-law (key-law w.Comma) column-law refl refl refl refl

series-law : Lawful class g.series
unfolding g.series g.names
series-law = as-law _ (seq-law (after-law (key-law w.On) name-law refl) (seq-law (led-law _ (key-law w.By) (brackets-law names-law refl) (absent-law class []) refl refl refl) (table-law g.spans_table) refl) refl)

given-law : Lawful class g.given
unfolding g.given g.series
given-law = or-law (as-law _ name-law) (as-law _ (after-law (key-law w.Series) (seq-law name-law series-law refl) refl)) refl refl refl

pub source-law : Lawful class g.source
unfolding g.source g.given g.series
source-law = as-law _ (seq-law given-law (after-law (key-law w.As) name-law refl) refl)

-- ---- constants

number-law : Lawful class g.number
unfolding g.number
number-law = or-law (as-law _ int-law) (as-law _ dec-law) refl refl refl

const-law : Lawful class g.const
unfolding g.const g.number
const-law =
    or-law (as-law _ number-law)
    (or-law (as-law _ text-law)
    (or-law (table-law g.constant_words_table)
    (or-law (as-law _ (after-law (key-law w.Date) text-law refl))
    (as-law _ (after-law (key-law w.Period) text-law refl)) refl refl refl) refl refl refl) refl refl refl) refl refl refl

signed_number-law : Lawful class g.signed_number
unfolding g.signed_number g.number
signed_number-law = as-law _ (seq-law (as-law _ (maybe-law (key-law w.Minus) refl)) number-law refl)

pub lit-law : Lawful class g.lit
unfolding g.lit g.signed_number g.number
lit-law =
    or-law signed_number-law
    (or-law (as-law _ text-law)
    (or-law (table-law g.literal_words_table)
    (or-law (as-law _ (after-law (key-law w.Date) text-law refl))
    (as-law _ (after-law (key-law w.Period) text-law refl)) refl refl refl) refl refl refl) refl refl refl) refl refl refl

lits-law : Lawful class g.lits
unfolding g.lits g.lit g.signed_number g.number
lits-law = listed-law (key-law w.Comma) lit-law refl refl refl refl

equality-law : Lawful class g.equality
unfolding g.equality g.column
equality-law = as-law _ (seq-law column-law (after-law (key-law w.Equal) column-law refl) refl)

matched-law : Lawful class g.matched
unfolding g.matched g.equality g.column g.source g.given g.series
matched-law = seq-law source-law (led-law _ (key-law w.Where) (listed-law (key-law w.And) equality-law refl refl refl refl) (absent-law class []) refl refl refl) refl

negated-law : Lawful class g.negated
unfolding g.negated
negated-law = as-law _ (maybe-law (key-law w.Not) refl)

null_test-law : Lawful class g.null_test
unfolding g.null_test g.negated
null_test-law = after-law (key-law w.Is) (before-law negated-law (key-law w.Null) refl) refl

membership-law : Lawful class g.membership
unfolding g.membership g.negated g.lits g.lit g.signed_number g.number
membership-law = seq-law negated-law (after-law (key-law w.In) (brackets-law lits-law refl) refl) refl

-- ---- expressions

-- what parts may be
abbrev gated : (Place → Expr) → Place → Expr
gated f p = gate (starts_of p) (more_of p) (f p)

module _ (f : Place → Expr) (law : (p : Place) → Lawful class (gated f p)) (n : ℕ) where
  bracketed-law : Lawful class (g.bracketed n (gated f Whole))
  unfolding g.bracketed
  bracketed-law = made-law _ (brackets-law (law Whole) refl)

  call-law : Lawful class (g.call_of n (gated f Whole))
  unfolding g.call_of
  call-law = made-law _ (seq-law (table-law g.functions_table) (brackets-law (deep_listed-law (key-law w.Comma) (law Whole) refl refl refl refl) refl) refl)

  counted-law : Lawful class (g.counted n (gated f Whole))
  unfolding g.counted
  counted-law = or-law (as-law _ (key-law w.Star)) (made-law _ (law Whole)) refl refl refl

  aggr-law : Lawful class (g.aggr n (gated f Whole))
  unfolding g.aggr g.counted
  aggr-law = or-law (after-law (key-law w.Count) (brackets-law counted-law refl) refl) (made-law _ (seq-law (table-law g.aggregates_table) (brackets-law (law Whole) refl) refl)) refl refl refl

  branch-law : Lawful class (g.branch (gated f Whole))
  unfolding g.branch
  branch-law = as-law _ (seq-law (after-law (key-law w.When) (law Whole) refl) (after-law (key-law w.Then) (law Whole) refl) refl)

  branches-law : Lawful class (g.branches (gated f Whole))
  unfolding g.branches g.branch
  branches-law = chain-law _ (as-law _ branch-law) branch-law refl refl refl refl

  case-law : Lawful class (g.case n (gated f Whole))
  unfolding g.case g.branches g.branch
  case-law = made-law _ (after-law (key-law w.Case) (seq-law branches-law (before-law (after-law (key-law w.Else) (law Whole) refl) (key-law w.End) refl) refl) refl)

  exists-law : Lawful class (g.exists n)
  unfolding g.exists g.matched g.equality g.column g.source g.given g.series
  exists-law = made-law _ (after-law (key-law w.Exists) (brackets-law (after-law (key-law w.Select) (after-law one-law (after-law (key-law w.From) matched-law refl) refl) refl) refl) refl)

  prim-law : Lawful class (g.prim n (gated f Whole))
  unfolding g.prim g.const g.number g.column g.bracketed g.call_of g.aggr g.counted g.case g.branches g.branch g.exists g.matched g.equality g.source g.given g.series
  prim-law =
      or-law (as-law _ const-law)
      (or-law (as-law _ column-law)
      (or-law bracketed-law
      (or-law call-law
      (or-law aggr-law
      (or-law case-law exists-law refl refl refl) refl refl refl) refl refl refl) refl refl refl) refl refl refl) refl refl refl

  un-law : Lawful class (g.un n (gated f))
  unfolding g.un g.prim g.const g.number g.column g.bracketed g.call_of g.aggr g.counted g.case g.branches g.branch g.exists g.matched g.equality g.source g.given g.series
  un-law = or-law (made-law _ (seq-law (table-law g.signs_table) (law Signed) refl)) prim-law refl refl refl

  mul-law : Lawful class (g.mul n (gated f))
  unfolding g.mul g.un g.prim g.const g.number g.column g.bracketed g.call_of g.aggr g.counted g.case g.branches g.branch g.exists g.matched g.equality g.source g.given g.series
  mul-law = chain-law _ un-law (seq-law (table-law g.multiply_ops_table) un-law refl) refl refl refl refl

  add-law : Lawful class (g.add n (gated f))
  unfolding g.add g.mul g.un g.prim g.const g.number g.column g.bracketed g.call_of g.aggr g.counted g.case g.branches g.branch g.exists g.matched g.equality g.source g.given g.series
  add-law = chain-law _ mul-law (seq-law (table-law g.add_ops_table) mul-law refl) refl refl refl refl

  tail-law : Lawful class (g.tail n (gated f))
  unfolding g.tail g.null_test g.membership g.negated g.lits g.lit g.signed_number g.add g.mul g.un g.prim g.const g.number g.column g.bracketed g.call_of g.aggr g.counted g.case g.branches g.branch g.exists g.matched g.equality g.source g.given g.series
  tail-law =
      or-law (as-law _ (seq-law (table-law g.compare_ops_table) add-law refl))
      (or-law (as-law _ null_test-law) (as-law _ membership-law) refl refl refl) refl refl refl

  cmp-law : Lawful class (g.cmp n (gated f))
  unfolding g.cmp g.tail g.null_test g.membership g.negated g.lits g.lit g.signed_number g.add g.mul g.un g.prim g.const g.number g.column g.bracketed g.call_of g.aggr g.counted g.case g.branches g.branch g.exists g.matched g.equality g.source g.given g.series
  cmp-law = made-law _ (seq-law add-law (maybe-law tail-law refl) refl)

  neg-law : Lawful class (g.neg n (gated f))
  unfolding g.neg g.cmp g.tail g.null_test g.membership g.negated g.lits g.lit g.signed_number g.add g.mul g.un g.prim g.const g.number g.column g.bracketed g.call_of g.aggr g.counted g.case g.branches g.branch g.exists g.matched g.equality g.source g.given g.series
  neg-law = or-law (made-law _ (after-law (key-law w.Not) (law Negated) refl)) cmp-law refl refl refl

  conjunction-law : Lawful class (g.conjunction n (gated f))
  unfolding g.conjunction g.neg g.cmp g.tail g.null_test g.membership g.negated g.lits g.lit g.signed_number g.add g.mul g.un g.prim g.const g.number g.column g.bracketed g.call_of g.aggr g.counted g.case g.branches g.branch g.exists g.matched g.equality g.source g.given g.series
  conjunction-law = chain-law _ neg-law (seq-law (table-law g.and_ops_table) neg-law refl) refl refl refl refl

  disjunction-law : Lawful class (g.disjunction n (gated f))
  unfolding g.disjunction g.conjunction g.neg g.cmp g.tail g.null_test g.membership g.negated g.lits g.lit g.signed_number g.add g.mul g.un g.prim g.const g.number g.column g.bracketed g.call_of g.aggr g.counted g.case g.branches g.branch g.exists g.matched g.equality g.source g.given g.series
  disjunction-law = chain-law _ conjunction-law (seq-law (table-law g.or_ops_table) conjunction-law refl) refl refl refl refl

  place-law : (p : Place) → Lawful class (gate (starts_of p) (more_of p) (g.at_place n (gated f) p))
  unfolding g.at_place g.disjunction g.conjunction g.neg g.cmp g.tail g.null_test g.membership g.negated g.lits g.lit g.signed_number g.add g.mul g.un g.prim g.const g.number g.column g.bracketed g.call_of g.aggr g.counted g.case g.branches g.branch g.exists g.matched g.equality g.source g.given g.series
  place-law Whole = gate-law _ _ disjunction-law refl refl refl
  place-law Negated = gate-law _ _ neg-law refl refl refl
  place-law Signed = gate-law _ _ un-law refl refl refl

inner-law : (n : ℕ) (p : Place) → Lawful class (gate (starts_of p) (more_of p) (g.inner n p))
unfolding g.inner
inner-law zero p = nothing-law class (starts_of p) (more_of p)
inner-law (suc n) p = place-law (g.inner n) (inner-law n) (suc n) p

pub expr-law : Lawful class g.expr
unfolding g.expr
expr-law = as-law _ (inner-law 512 Whole)
