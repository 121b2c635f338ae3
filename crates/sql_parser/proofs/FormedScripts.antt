-- What tokens spell is formed: names and literals have their forms, no list lacks an item, and no expression is too deep.
use Rattle.std.proofs.Common.{◌≡◌, ◌⊎◌, inl, inr, ◌≤◌, ◌+◌, ℕ, zero, suc, true, max, List, [], ◌∷◌, ◌++◌, length, map, Option, None, Some, Result, Ok, Err, refl, subst, arith}
use Rattle.std.specs.Prelude.{IfOk}
use Rattle.grammar_forms.specs.Forms.{Both, Deep, deep, IsAbsent, IsMade, Spelling, deep_one, limited}
use Rattle.grammar_forms.specs.Written.{Each}
use Rattle.grammar_forms.specs.Scripts.{ScriptSpells}
use Rattle.grammar_forms.proofs.Laws.{some_of}
use Rattle.sql_lexer.specs.Lexed.{Lexes, at_end, behind_space, behind_token, at_fault}
use Rattle.sql_lexer.specs.Spelling.{IsDigits, IsFormed}
use Rattle.sql_lexer.specs.declared.token.Token.{Token}
use Rattle.sql_lexer.specs.declared.token.TokenKind.{TokenKind}
use Rattle.sql_lexer.specs.declared.token.TokenKind.TheVariants as t
use Rattle.sql_lexer.specs.declared.token.Word.TheVariants as w
use Rattle.vtl_cell.specs.declared.operator.ScalarOp.{ScalarOp}
use Rattle.vtl_cell.specs.declared.operator.ScalarOp.TheVariants as op
use Rattle.vtl_cell.specs.declared.operator.AggKind.{AggKind}
use Rattle.vtl_cell.specs.declared.operator.AggKind.TheVariants as agg
use Rattle.sql_tree.specs.Classes.{class}
use Rattle.sql_tree.specs.Formed as f
use Rattle.sql_tree.specs.Formed.{Formed, EachFormed, BranchesFormed, SomeExps, SomeBranches, exp_depth, exps_depth, branches_depth}
use Rattle.sql_tree.specs.Grammar as g
use Rattle.sql_tree.specs.Grammar.{Place, Whole, Negated, Signed, SqlForm, DeepExp, Expr, Tail, Compared, IsNull, Among, commas, in_brackets, of_table, key, joined_by, operator_before, with_tail, expr_at}
use Rattle.sql_tree.specs.Texts.{IsScript, kind}
use Rattle.sql_tree.specs.View.{script_tree}
use Rattle.sql_tree.specs.declared.statements.SqlScript.{SqlScript}
use Rattle.sql_parser.specs.declared.parsing.SqlErr.{SqlErr}
use Rattle.sql_parser.proofs.Texts.{Answered}
use Rattle.sql_tree.specs.Trees as tree
use Rattle.sql_tree.specs.Trees.{Text, Exp, exps_of, branches_of, ItemTree, JoinTree, StatementTree, ScriptTree}
use Rattle.sql_tree.specs.declared.parts.Column.{Column}
use Rattle.sql_tree.specs.declared.parts.Series.{Series}
use Rattle.sql_tree.specs.declared.parts.Source.{Source}
use Rattle.sql_tree.specs.declared.parts.Equality.{Equality}
use Rattle.sql_tree.specs.declared.parts.Numeral.TheVariants as numeral
use Rattle.sql_tree.specs.declared.parts.Constant.TheVariants as constant
use Rattle.sql_tree.specs.declared.parts.Literal.{Literal}
use Rattle.sql_tree.specs.declared.parts.Literal.TheVariants as literal
use Rattle.sql_tree.specs.declared.windows.WindowCall.{WindowCall}
use Rattle.sql_tree.specs.declared.windows.WindowCall.TheVariants as call
use Rattle.sql_tree.specs.declared.windows.Frame.{Frame}
use Rattle.sql_tree.specs.declared.word_groups.JoinKind.{JoinKind}
use Rattle.sql_tree.specs.declared.word_groups.ShiftFunction.{ShiftFunction}
use Rattle.sql_tree.specs.declared.windows.Bound.TheVariants as bound
use Rattle.sql_parser.proofs.Gives.{Any, Deep-each, Gives, Maybe, Some-each, deep-keeps, each-push, each-split, gives-absent, gives-after, gives-any, gives-as, gives-before, gives-chain, gives-deep_listed, gives-led, gives-listed, gives-made, gives-maybe, gives-or, gives-seq, gives-token, gives-words, limited-is}

abbrev Has : {A : Type 0} → (A → Type 0) → SqlForm A → Type 0
Has P form = Gives IsFormed P form.spells

abbrev gv : TokenKind → Type 0
gv = IsFormed

-- ---- tokens, lists and brackets

has-name : Has f.IsName g.name
has-name = gives-token gv f.IsName known
  where
    known : (x : TokenKind) (a : Text) → IsFormed x → g.name_at x ≡ Some a → f.IsName a
    known (t.Name x) a h e = subst f.IsName (some_of x a e) h
    known (t.Word x) a h e = cc
    known (t.Text x) a h e = cc
    known (t.Int x) a h e = cc
    known (t.Dec x) a h e = cc

has-int : Has IsDigits g.int
has-int = gives-token gv IsDigits known
  where
    known : (x : TokenKind) (a : Text) → IsFormed x → g.int_at x ≡ Some a → IsDigits a
    known (t.Int x) a h e = subst IsDigits (some_of x a e) h
    known (t.Word x) a h e = cc
    known (t.Text x) a h e = cc
    known (t.Name x) a h e = cc
    known (t.Dec x) a h e = cc

has-dec : Has (λ a. f.IsNumber (numeral.Dec a)) g.dec
has-dec = gives-token gv (λ a. f.IsNumber (numeral.Dec a)) known
  where
    known : (x : TokenKind) (a : Text) → IsFormed x → g.dec_at x ≡ Some a → f.IsNumber (numeral.Dec a)
    known (t.Dec x) a h e = subst (λ d. f.IsNumber (numeral.Dec d)) (some_of x a e) h
    known (t.Word x) a h e = cc
    known (t.Text x) a h e = cc
    known (t.Name x) a h e = cc
    known (t.Int x) a h e = cc

has-brackets : {A : Type 0} (P : A → Type 0) {form : Spelling TokenKind A} → Gives IsFormed P form → Gives IsFormed P (IsMade (λ p. Some p.1) (Both (key w.Open).spells (IsMade (λ p. Some p.0) (Both form (key w.Close).spells))))
has-brackets P h = gives-after gv P (gives-before gv P h)

has-items_after : {O A : Type 0} (P : A → Type 0) {mark : Spelling TokenKind O} {items : Spelling TokenKind (List A)} → Gives IsFormed (Some-each P) items → Gives IsFormed (Each P) (λ ts a. IsMade (λ p. Some p.1) (Both mark items) ts a ⊎ IsAbsent [] ts a)
has-items_after P h = gives-led gv (Some-each P) (Each P) (λ o b a p e. subst (Each P) (some_of b a e) p.1) h (gives-absent gv (Each P) [] tt)

has-names : Has (Some-each f.IsName) g.names
unfolding g.names
has-names = gives-listed gv f.IsName has-name

has-column : Has f.IsColumn g.column
unfolding g.column
has-column = gives-as gv (λ p. f.IsName p.0 × f.IsName p.1) f.IsColumn _ (λ a p. p) (gives-seq gv f.IsName f.IsName has-name (gives-after gv f.IsName has-name))

has-columns : Has (Some-each f.IsColumn) g.columns
unfolding g.columns
has-columns = gives-listed gv f.IsColumn has-column

Is-series : Series → Type 0
Is-series x = f.IsMaybeSeries (Some x)

has-series : Has Is-series g.series
unfolding g.series Is-series
has-series =
    gives-as gv (λ p. f.IsName p.0 × (Each f.IsName p.1.0 × Any p.1.1)) Is-series _ (λ a p. (p.0, p.1.0))
    (gives-seq gv f.IsName (λ p. Each f.IsName p.0 × Any p.1) (gives-after gv f.IsName has-name)
    (gives-seq gv (Each f.IsName) Any (has-items_after f.IsName (has-brackets (Some-each f.IsName) has-names)) (gives-any gv _)))

Is-given : Text × Option Series → Type 0
Is-given p = f.IsName p.0 × f.IsMaybeSeries p.1

has-given : Has Is-given g.given
unfolding g.given Is-given Is-series
has-given =
    gives-or gv Is-given (gives-as gv f.IsName Is-given _ (λ a p. (p, tt)) has-name)
    (gives-as gv (λ p. f.IsName p.0 × Is-series p.1) Is-given _ (λ a p. p) (gives-after gv (λ p. f.IsName p.0 × Is-series p.1) (gives-seq gv f.IsName Is-series has-name has-series)))

has-source : Has f.IsSource g.source
unfolding g.source Is-given
has-source = gives-as gv (λ p. Is-given p.0 × f.IsName p.1) f.IsSource _ (λ a p. (p.0.0, p.0.1, p.1)) (gives-seq gv Is-given f.IsName has-given (gives-after gv f.IsName has-name))

has-equality : Has f.IsEquality g.equality
unfolding g.equality
has-equality = gives-as gv (λ p. f.IsColumn p.0 × f.IsColumn p.1) f.IsEquality _ (λ a p. p) (gives-seq gv f.IsColumn f.IsColumn has-column (gives-after gv f.IsColumn has-column))

-- ---- constants

has-number : Has f.IsNumber g.number
unfolding g.number
has-number = gives-or gv f.IsNumber (gives-as gv IsDigits f.IsNumber numeral.Int (λ a p. p) has-int) (gives-as gv (λ a. f.IsNumber (numeral.Dec a)) f.IsNumber numeral.Dec (λ a p. p) has-dec)

has-const : Has f.IsConstant g.const
unfolding g.const
has-const =
    gives-or gv f.IsConstant (gives-as gv f.IsNumber f.IsConstant constant.Number (λ a p. p) has-number)
    (gives-or gv f.IsConstant (gives-as gv Any f.IsConstant constant.Text (λ a p. tt) (gives-any gv _))
    (gives-or gv f.IsConstant (gives-words gv f.IsConstant class g.constant_words_table (tt, (tt, (tt, tt))))
    (gives-or gv f.IsConstant (gives-as gv Any f.IsConstant constant.Date (λ a p. tt) (gives-any gv _))
    (gives-as gv Any f.IsConstant constant.Period (λ a p. tt) (gives-any gv _)))))

has-signed_number : Has f.IsLiteral g.signed_number
unfolding g.signed_number
has-signed_number = gives-as gv (λ p. Any p.0 × f.IsNumber p.1) f.IsLiteral (λ p. literal.Number p.0 p.1) (λ a p. p.1) (gives-seq gv Any f.IsNumber (gives-any gv _) has-number)

has-lit : Has f.IsLiteral g.lit
unfolding g.lit
has-lit =
    gives-or gv f.IsLiteral has-signed_number
    (gives-or gv f.IsLiteral (gives-as gv Any f.IsLiteral literal.Text (λ a p. tt) (gives-any gv _))
    (gives-or gv f.IsLiteral (gives-words gv f.IsLiteral class g.literal_words_table (tt, (tt, tt)))
    (gives-or gv f.IsLiteral (gives-as gv Any f.IsLiteral literal.Date (λ a p. tt) (gives-any gv _))
    (gives-as gv Any f.IsLiteral literal.Period (λ a p. tt) (gives-any gv _)))))

has-lits : Has (Some-each f.IsLiteral) g.lits
unfolding g.lits
has-lits = gives-listed gv f.IsLiteral has-lit

-- ---- expressions

-- a formed tree that is no deeper than this
abbrev Fits : Exp → ℕ → Type 0
Fits e d = Formed e × (exp_depth e ≤ d)

fits-more : (e : Exp) (n m : ℕ) → n ≤ m → Fits e n → Fits e m
fits-more e n m h p = (p.0, omega (arith, h, p.1))

-- a formed tree within a budget
abbrev Within : ℕ → DeepExp → Type 0
Within n d = Fits d.tree d.depth × (d.depth ≤ n)

exps-fit : (d : ℕ) (es : List Exp) → Each (λ e. Fits e d) es → EachFormed (exps_of es) × (exps_depth (exps_of es) ≤ d)
exps-fit d [] h = (tt, omega arith)
exps-fit d (e ∷ es) h = let more = exps-fit d es h.1 in ((h.0.0, more.0), omega (arith, h.0.1, more.1))

some-exps : (es : List Exp) → 1 ≤ length es → SomeExps (exps_of es)
some-exps [] h = absurd (omega (arith, h))
some-exps (e ∷ es) h = tt

abbrev Branch-fits : Exp × Exp → ℕ → Type 0
Branch-fits b d = Fits b.0 d × Fits b.1 d

branch-more : (b : Exp × Exp) (n m : ℕ) → n ≤ m → Branch-fits b n → Branch-fits b m
branch-more b n m h p = (fits-more b.0 n m h p.0, fits-more b.1 n m h p.1)

branches-fit : (d : ℕ) (bs : List (Exp × Exp)) → Each (λ b. Branch-fits b d) bs → BranchesFormed (branches_of bs) × (branches_depth (branches_of bs) ≤ d)
branches-fit d [] h = (tt, omega arith)
branches-fit d (b ∷ bs) h = let more = branches-fit d bs h.1 in ((h.0.0.0, h.0.1.0, more.0), omega (arith, h.0.0.1, h.0.1.1, more.1))

some-branches : (bs : List (Exp × Exp)) → 1 ≤ length bs → SomeBranches (branches_of bs)
some-branches [] h = absurd (omega (arith, h))
some-branches (b ∷ bs) h = tt

abbrev Matched : Source × List Equality → Type 0
Matched p = f.IsSource p.0 × Each f.IsEquality p.1

has-matched : Has Matched g.matched
unfolding g.matched
has-matched = gives-seq gv f.IsSource (Each f.IsEquality) has-source (has-items_after f.IsEquality (gives-listed gv f.IsEquality has-equality))

-- what may follow an operand, within a budget
abbrev Tail-fits : ℕ → Tail → Type 0
Tail-fits n (Compared o b) = (f.is_binary o ≡ true) × Within n b
Tail-fits n (IsNull negated) = Unit {0}
Tail-fits n (Among negated ls) = Some-each f.IsLiteral ls

aggregated : (m : ℕ) (k : AggKind) (a b : DeepExp) → Within m a → limited (suc m) (tree.aggregate k a.tree) (suc a.depth) ≡ Some b → Within (suc m) b
aggregated m k a b p e = limited-is (Within (suc m)) (suc m) (tree.aggregate k a.tree) (suc a.depth) b e (λ h. ((p.0.0, omega (arith, p.0.1)), h))

cased : (m : ℕ) (a : Deep (List (Exp × Exp)) × DeepExp) (b : DeepExp) → Deep-each Branch-fits a.0 × Within m a.1 → g.case_made (suc m) a ≡ Some b → Within (suc m) b
cased m a b p e =
    limited-is (Within (suc m)) (suc m) (tree.case_when (branches_of a.0.tree) a.1.tree) (suc (max a.0.depth a.1.depth)) b e
    (λ h. let fit = branches-fit a.0.depth a.0.tree p.0.1 in (((some-branches a.0.tree p.0.0, fit.0, p.1.0.0), omega (arith, fit.1, p.1.0.1)), h))

signed : (m : ℕ) (o : ScalarOp) (a b : DeepExp) → f.is_unary o ≡ true → Within m a → operator_before (suc m) o a ≡ Some b → Within (suc m) b
signed m o a b u p e = limited-is (Within (suc m)) (suc m) (tree.unary o a.tree) (suc a.depth) b e (λ h. (((u, p.0.0), omega (arith, p.0.1)), h))

joins : (n : ℕ) (a : DeepExp) (s : ScalarOp × DeepExp) (b : DeepExp) → Within n a → (f.is_binary s.0 ≡ true) × Within n s.1 → joined_by n a s ≡ Some b → Within n b
joins n a s b p q e = limited-is (Within n) n (tree.binary a.tree s.0 s.1.tree) (suc (max a.depth s.1.depth)) b e (λ h. (((q.0, p.0.0, q.1.0.0), omega (arith, p.0.1, q.1.0.1)), h))

grouped : (n : ℕ) (operand : Expr) (ops : List (ℕ × ScalarOp)) → Each (λ o. f.is_binary o.1 ≡ true) ops → Has (Within n) operand → Has (Within n) (g.left_grouped n operand ops)
grouped n operand ops all h =
    gives-chain gv (Within n) (λ s. (f.is_binary s.0 ≡ true) × Within n s.1) (joins n) h
    (gives-seq gv (λ o. f.is_binary o ≡ true) (Within n) (gives-words gv (λ o. f.is_binary o ≡ true) class ops all) h)

tailed : (n : ℕ) (a : DeepExp × Option Tail) (b : DeepExp) → Within n a.0 × Maybe (Tail-fits n) a.1 → with_tail n a ≡ Some b → Within n b
tailed n (a, None) b p e = subst (Within n) (some_of a b e) p.0
tailed n (a, Some (Compared o c)) b p e = joins n a (o, c) b p.0 p.1 e
tailed n (a, Some (IsNull negated)) b p e = limited-is (Within n) n (tree.is_null a.tree negated) (suc a.depth) b e (λ h. ((p.0.0.0, omega (arith, p.0.0.1)), h))
tailed n (a, Some (Among negated ls)) b p e = limited-is (Within n) n (tree.in_list a.tree negated ls) (suc a.depth) b e (λ h. (((p.0.0.0, p.1.0, p.1.1), omega (arith, p.0.0.1)), h))

module _ (m : ℕ) (part : Place → Expr) (parts : (p : Place) → Has (Within m) (part p)) where
  has-bracketed : Has (Within (suc m)) (g.bracketed (suc m) (part Whole))
  unfolding g.bracketed
  has-bracketed = gives-made gv (Within m) (Within (suc m)) (λ a b p e. limited-is (Within (suc m)) (suc m) a.tree (suc a.depth) b e (λ h. ((p.0.0, omega (arith, p.0.1)), h))) (has-brackets (Within m) (parts Whole))

  has-call : Has (Within (suc m)) (g.call_of (suc m) (part Whole))
  unfolding g.call_of
  has-call =
      gives-made gv (λ p. (f.is_function p.0 ≡ true) × Deep-each Fits p.1) (Within (suc m))
      (λ a b p e. limited-is (Within (suc m)) (suc m) (tree.call a.0 (exps_of a.1.tree)) (suc a.1.depth) b e (λ h. let fit = exps-fit a.1.depth a.1.tree p.1.1 in (((p.0, some-exps a.1.tree p.1.0, fit.0), omega (arith, fit.1)), h)))
      (gives-seq gv (λ o. f.is_function o ≡ true) (Deep-each Fits)
      (gives-words gv (λ o. f.is_function o ≡ true) class g.functions_table (refl, (refl, (refl, (refl, (refl, (refl, (refl, (refl, (refl, (refl, (refl, (refl, (refl, (refl, (refl, (refl, (refl, tt))))))))))))))))))
      (has-brackets (Deep-each Fits) (gives-deep_listed gv Fits fits-more (λ ts a good h. (parts Whole ts a good h).0))))

  has-counted : Has (Within (suc m)) (g.counted (suc m) (part Whole))
  unfolding g.counted
  has-counted =
      gives-or gv (Within (suc m)) (gives-as gv Any (Within (suc m)) (λ u. deep tree.count_all 1) (λ a p. ((tt, omega arith), omega arith)) (gives-any gv _))
      (gives-made gv (Within m) (Within (suc m)) (λ a b p e. aggregated m agg.Count a b p e) (parts Whole))

  has-aggr : Has (Within (suc m)) (g.aggr (suc m) (part Whole))
  unfolding g.aggr
  has-aggr =
      gives-or gv (Within (suc m)) (gives-after gv (Within (suc m)) (has-brackets (Within (suc m)) has-counted))
      (gives-made gv (λ p. Any p.0 × Within m p.1) (Within (suc m)) (λ a b p e. aggregated m a.0 a.1 b p.1 e) (gives-seq gv Any (Within m) (gives-any gv _) (has-brackets (Within m) (parts Whole))))

  has-branch : Has (λ d. Branch-fits d.tree d.depth) (g.branch (part Whole))
  unfolding g.branch
  has-branch =
      gives-as gv (λ p. Within m p.0 × Within m p.1) (λ d. Branch-fits d.tree d.depth) g.deep_branch
      (λ a p. (fits-more a.0.tree a.0.depth (max a.0.depth a.1.depth) (omega arith) p.0.0, fits-more a.1.tree a.1.depth (max a.0.depth a.1.depth) (omega arith) p.1.0))
      (gives-seq gv (Within m) (Within m) (gives-after gv (Within m) (parts Whole)) (gives-after gv (Within m) (parts Whole)))

  has-branches : Has (Deep-each Branch-fits) (g.branches (part Whole))
  unfolding g.branches
  has-branches =
      gives-chain gv (Deep-each Branch-fits) (λ d. Branch-fits d.tree d.depth) (deep-keeps Branch-fits branch-more)
      (gives-as gv (λ d. Branch-fits d.tree d.depth) (Deep-each Branch-fits) deep_one (λ a p. (omega arith, (p, tt))) has-branch) has-branch

  has-case : Has (Within (suc m)) (g.case (suc m) (part Whole))
  unfolding g.case
  has-case =
      gives-made gv (λ p. Deep-each Branch-fits p.0 × Within m p.1) (Within (suc m)) (cased m)
      (gives-after gv (λ p. Deep-each Branch-fits p.0 × Within m p.1) (gives-seq gv (Deep-each Branch-fits) (Within m) has-branches (gives-before gv (Within m) (gives-after gv (Within m) (parts Whole)))))

  has-exists : Has (Within (suc m)) (g.exists (suc m))
  unfolding g.exists
  has-exists =
      gives-made gv Matched (Within (suc m)) (λ a b p e. limited-is (Within (suc m)) (suc m) (tree.exists a.0 a.1) 3 b e (λ h. ((p, omega arith), h)))
      (gives-after gv Matched (has-brackets Matched (gives-after gv Matched (gives-after gv Matched (gives-after gv Matched has-matched)))))

  has-prim : Has (Within (suc m)) (g.prim (suc m) (part Whole))
  unfolding g.prim
  has-prim =
      gives-or gv (Within (suc m)) (gives-as gv f.IsConstant (Within (suc m)) (λ c. deep (tree.constant c) 1) (λ a p. ((p, omega arith), omega arith)) has-const)
      (gives-or gv (Within (suc m)) (gives-as gv f.IsColumn (Within (suc m)) (λ c. deep (tree.column c) 1) (λ a p. ((p, omega arith), omega arith)) has-column)
      (gives-or gv (Within (suc m)) has-bracketed
      (gives-or gv (Within (suc m)) has-call
      (gives-or gv (Within (suc m)) has-aggr
      (gives-or gv (Within (suc m)) has-case has-exists)))))

  has-un : Has (Within (suc m)) (g.un (suc m) part)
  unfolding g.un
  has-un =
      gives-or gv (Within (suc m))
      (gives-made gv (λ p. (f.is_unary p.0 ≡ true) × Within m p.1) (Within (suc m)) (λ a b p e. signed m a.0 a.1 b p.0 p.1 e)
      (gives-seq gv (λ o. f.is_unary o ≡ true) (Within m) (gives-words gv (λ o. f.is_unary o ≡ true) class g.signs_table (refl, (refl, tt))) (parts Signed)))
      has-prim

  has-mul : Has (Within (suc m)) (g.mul (suc m) part)
  unfolding g.mul
  has-mul = grouped (suc m) (g.un (suc m) part) g.multiply_ops_table (refl, (refl, tt)) has-un

  has-add : Has (Within (suc m)) (g.add (suc m) part)
  unfolding g.add
  has-add = grouped (suc m) (g.mul (suc m) part) g.add_ops_table (refl, (refl, (refl, tt))) has-mul

  has-tail : Has (Tail-fits (suc m)) (g.tail (suc m) part)
  unfolding g.tail g.membership
  has-tail =
      gives-or gv (Tail-fits (suc m))
      (gives-as gv (λ p. (f.is_binary p.0 ≡ true) × Within (suc m) p.1) (Tail-fits (suc m)) (λ p. Compared p.0 p.1) (λ a p. p)
      (gives-seq gv (λ o. f.is_binary o ≡ true) (Within (suc m)) (gives-words gv (λ o. f.is_binary o ≡ true) class g.compare_ops_table (refl, (refl, (refl, (refl, (refl, (refl, tt))))))) has-add))
      (gives-or gv (Tail-fits (suc m)) (gives-as gv Any (Tail-fits (suc m)) IsNull (λ a p. tt) (gives-any gv _))
      (gives-as gv (λ p. Any p.0 × Some-each f.IsLiteral p.1) (Tail-fits (suc m)) (λ p. Among p.0 p.1) (λ a p. p.1)
      (gives-seq gv Any (Some-each f.IsLiteral) (gives-any gv _) (gives-after gv (Some-each f.IsLiteral) (has-brackets (Some-each f.IsLiteral) has-lits)))))

  has-cmp : Has (Within (suc m)) (g.cmp (suc m) part)
  unfolding g.cmp
  has-cmp =
      gives-made gv (λ p. Within (suc m) p.0 × Maybe (Tail-fits (suc m)) p.1) (Within (suc m)) (tailed (suc m))
      (gives-seq gv (Within (suc m)) (Maybe (Tail-fits (suc m))) has-add (gives-maybe gv (Tail-fits (suc m)) has-tail))

  has-neg : Has (Within (suc m)) (g.neg (suc m) part)
  unfolding g.neg
  has-neg =
      gives-or gv (Within (suc m))
      (gives-made gv (Within m) (Within (suc m)) (λ a b p e. signed m op.Not a b refl p e) (gives-after gv (Within m) (parts Negated)))
      has-cmp

  has-conjunction : Has (Within (suc m)) (g.conjunction (suc m) part)
  unfolding g.conjunction
  has-conjunction = grouped (suc m) (g.neg (suc m) part) g.and_ops_table (refl, tt) has-neg

  has-disjunction : Has (Within (suc m)) (g.disjunction (suc m) part)
  unfolding g.disjunction
  has-disjunction = grouped (suc m) (g.conjunction (suc m) part) g.or_ops_table (refl, (refl, tt)) has-conjunction

  has-place : (p : Place) → Has (Within (suc m)) (g.at_place (suc m) part p)
  unfolding g.at_place
  has-place Whole = has-disjunction
  has-place Negated = has-neg
  has-place Signed = has-un

has-inner : (n : ℕ) (p : Place) → Has (Within n) (expr_at n p)
unfolding g.inner
has-inner zero p = λ ts a good h. absurd h
has-inner (suc n) p = has-place n (expr_at n) (has-inner n) p

has-expr : Has (f.IsExp 512) g.expr
unfolding g.expr
has-expr = gives-as gv (Within 512) (f.IsExp 512) (λ d. d.tree) (λ a p. (p.0.0, omega (arith, p.0.1, p.1))) (has-inner 512 Whole)

-- ---- windows

has-column_aggregate : Has f.IsCall g.column_aggregate
unfolding g.column_aggregate
has-column_aggregate =
    gives-as gv (λ p. (f.is_window_aggregate p.0 ≡ true) × f.IsColumn p.1) f.IsCall (λ p. call.Aggregate p.0 p.1) (λ a p. p)
    (gives-seq gv (λ k. f.is_window_aggregate k ≡ true) f.IsColumn (gives-words gv (λ k. f.is_window_aggregate k ≡ true) class g.window_aggregates_table (refl, (refl, (refl, (refl, (refl, tt)))))) (has-brackets f.IsColumn has-column))

has-column_value : Has f.IsCall g.column_value
unfolding g.column_value
has-column_value = gives-as gv (λ p. Any p.0 × f.IsColumn p.1) f.IsCall (λ p. call.Value p.0 p.1) (λ a p. p.1) (gives-seq gv Any f.IsColumn (gives-any gv _) (has-brackets f.IsColumn has-column))

has-default : Has f.IsDefault g.default
unfolding g.default
has-default = gives-or gv f.IsDefault (gives-as gv f.IsLiteral f.IsDefault (λ l. Some l) (λ a p. p) has-lit) (gives-as gv Any f.IsDefault (λ u. None) (λ a p. tt) (gives-any gv _))

abbrev Shifts : Column × (Text × Option Literal) → Type 0
Shifts p = f.IsColumn p.0 × (IsDigits p.1.0 × f.IsDefault p.1.1)

abbrev Shift-parts : ShiftFunction × (Column × (Text × Option Literal)) → Type 0
Shift-parts p = Any p.0 × Shifts p.1

shift-of : ShiftFunction × (Column × (Text × Option Literal)) → WindowCall
shift-of p = call.Shift p.0 p.1.0 p.1.1.0 p.1.1.1

has-column_shift : Has f.IsCall g.column_shift
unfolding g.column_shift shift-of
has-column_shift =
    gives-as gv Shift-parts f.IsCall shift-of (λ a p. (p.1.0, p.1.1.0, p.1.1.1))
    (gives-seq gv Any Shifts (gives-any gv _)
    (has-brackets Shifts
    (gives-seq gv f.IsColumn (λ p. IsDigits p.0 × f.IsDefault p.1) has-column
    (gives-seq gv IsDigits f.IsDefault (gives-after gv IsDigits has-int) (gives-after gv f.IsDefault has-default)))))

has-wcall : Has f.IsCall g.wcall
unfolding g.wcall g.rank
has-wcall = gives-or gv f.IsCall has-column_aggregate (gives-or gv f.IsCall has-column_value (gives-or gv f.IsCall has-column_shift (gives-as gv Any f.IsCall (λ u. call.Rank) (λ a p. tt) (gives-any gv _))))

has-wkey : Has f.IsWindowKey g.wkey
unfolding g.wkey
has-wkey = gives-as gv (λ p. f.IsColumn p.0 × Any p.1) f.IsWindowKey _ (λ a p. p.0) (gives-seq gv f.IsColumn Any has-column (gives-any gv _))

has-bound : Has f.IsBound g.bound_of
unfolding g.bound_of
has-bound =
    gives-or gv f.IsBound (gives-as gv Any f.IsBound bound.Unbounded (λ a p. tt) (gives-any gv _))
    (gives-or gv f.IsBound (gives-as gv (λ p. IsDigits p.0 × Any p.1) f.IsBound (λ p. bound.Rows p.0 p.1) (λ a p. p.0) (gives-seq gv IsDigits Any has-int (gives-any gv _)))
    (gives-as gv Any f.IsBound (λ u. bound.CurrentRow) (λ a p. tt) (gives-any gv _)))

abbrev IsFrame : Frame → Type 0
IsFrame x = f.IsBound x.first × f.IsBound x.last

has-frame : Has IsFrame g.frame
unfolding g.frame
has-frame =
    gives-as gv (λ p. f.IsBound p.0 × f.IsBound p.1) IsFrame _ (λ a p. p)
    (gives-after gv (λ p. f.IsBound p.0 × f.IsBound p.1) (gives-seq gv f.IsBound f.IsBound has-bound (gives-after gv f.IsBound has-bound)))

maybe-frame : (o : Option Frame) → Maybe IsFrame o → f.IsMaybeFrame o
maybe-frame None h = tt
maybe-frame (Some x) h = h

has-over : Has f.IsOver g.over
unfolding g.over
has-over =
    gives-as gv (λ p. Each f.IsColumn p.0 × (Each f.IsWindowKey p.1.0 × Maybe IsFrame p.1.1)) f.IsOver _ (λ a p. (p.0, p.1.0, maybe-frame a.1.1 p.1.1))
    (gives-seq gv (Each f.IsColumn) (λ p. Each f.IsWindowKey p.0 × Maybe IsFrame p.1) (has-items_after f.IsColumn has-columns)
    (gives-seq gv (Each f.IsWindowKey) (Maybe IsFrame) (has-items_after f.IsWindowKey (gives-listed gv f.IsWindowKey has-wkey)) (gives-maybe gv IsFrame has-frame)))

-- ---- queries

has-value : Has (f.IsValue 512) g.value_of
unfolding g.value_of
has-value ts a good (inl h) =
    let s = h.spelled in
    let both = each-split IsFormed s.left s.right (subst (Each IsFormed) s.is good) in
    subst (f.IsValue 512) (some_of (tree.window (record { call = h.part.0; over = h.part.1 })) a h.is) (gives-before gv f.IsCall has-wcall s.left h.part.0 both.0 s.first, has-brackets f.IsOver has-over s.right h.part.1 both.1 s.second)
has-value ts a good (inr h) = gives-as gv (f.IsExp 512) (f.IsValue 512) tree.expression (λ e p. p) has-expr ts a good h

has-item : Has (f.IsItem 512) g.item
unfolding g.item
has-item = gives-as gv (λ p. f.IsValue 512 p.0 × f.IsName p.1) (f.IsItem 512) _ (λ a p. p) (gives-seq gv (f.IsValue 512) f.IsName has-value (gives-after gv f.IsName has-name))

abbrev Joins-on : JoinKind × (Source × Exp) → Type 0
Joins-on p = Any p.0 × (f.IsSource p.1.0 × f.IsExp 512 p.1.1)

has-join : Has (f.IsJoin 512) g.join_of
unfolding g.join_of
has-join =
    gives-or gv (f.IsJoin 512)
    (gives-as gv Joins-on (f.IsJoin 512) (λ p. tree.on p.0 p.1.0 p.1.1) (λ a p. p.1)
    (gives-seq gv Any (λ p. f.IsSource p.0 × f.IsExp 512 p.1) (gives-any gv _) (gives-seq gv f.IsSource (f.IsExp 512) (gives-after gv f.IsSource has-source) (gives-after gv (f.IsExp 512) has-expr))))
    (gives-as gv f.IsSource (f.IsJoin 512) tree.cross (λ a p. p) (gives-after gv f.IsSource has-source))

abbrev Sources : Source × List JoinTree → Type 0
Sources p = f.IsSource p.0 × Each (f.IsJoin 512) p.1

join-keeps : (a : Source × List JoinTree) (j : JoinTree) (b : Source × List JoinTree) → Sources a → f.IsJoin 512 j → g.join_added a j ≡ Some b → Sources b
join-keeps a j b p q e = subst Sources (some_of (a.0, a.1 ++ j ∷ []) b e) (p.0, each-push (f.IsJoin 512) a.1 j p.1 q)

alone : Source → Source × List JoinTree
alone s = (s, [])

has-sources : Has Sources g.sources
unfolding g.sources alone
has-sources = gives-chain gv Sources (f.IsJoin 512) join-keeps (gives-as gv f.IsSource Sources alone (λ a p. (p, tt)) has-source) has-join

has-condition : {O : Type 0} {mark : Spelling TokenKind O} → Gives IsFormed (f.IsMaybeExp 512) (λ ts a. IsMade (λ p. Some (Some p.1)) (Both mark g.expr.spells) ts a ⊎ IsAbsent None ts a)
has-condition = gives-led gv (f.IsExp 512) (f.IsMaybeExp 512) (λ o b a p e. subst (f.IsMaybeExp 512) (some_of (Some b) a e) p) has-expr (gives-absent gv (f.IsMaybeExp 512) None tt)

abbrev Group-fits : List Column × Option Exp → Type 0
Group-fits p = Each f.IsColumn p.0 × f.IsMaybeExp 512 p.1

abbrev Limits-fit : Option Exp × (List Column × Option Exp) → Type 0
Limits-fit p = f.IsMaybeExp 512 p.0 × Group-fits p.1

has-limits : Has Limits-fit g.limits
unfolding g.limits
has-limits = gives-seq gv (f.IsMaybeExp 512) Group-fits has-condition (gives-seq gv (Each f.IsColumn) (f.IsMaybeExp 512) (has-items_after f.IsColumn has-columns) has-condition)

abbrev Body-fits : (Source × List JoinTree) × (Option Exp × (List Column × Option Exp)) → Type 0
Body-fits p = Sources p.0 × Limits-fit p.1

abbrev Select-parts : List ItemTree × ((Source × List JoinTree) × (Option Exp × (List Column × Option Exp))) → Type 0
Select-parts p = Some-each (f.IsItem 512) p.0 × Body-fits p.1

has-select : Has (f.IsSelect 512) g.select
unfolding g.select
has-select =
    gives-as gv Select-parts (f.IsSelect 512) g.select_made
    (λ a p. record { some = p.0.0; items = p.0.1; source = p.1.0.0; joins = p.1.0.1; condition = p.1.1.0; group = p.1.1.1.0; having = p.1.1.1.1 })
    (gives-after gv Select-parts (gives-seq gv (Some-each (f.IsItem 512)) Body-fits (gives-listed gv (f.IsItem 512) has-item) (gives-seq gv Sources Limits-fit (gives-after gv Sources has-sources) has-limits)))

has-query : Has (f.IsQuery 512) g.query
unfolding g.query
has-query = gives-listed gv (f.IsSelect 512) has-select

-- ---- statements

has-input_column : Has f.IsInputColumn g.input_column
unfolding g.input_column
has-input_column =
    gives-as gv (λ p. f.IsName p.0 × ((f.is_column_kind p.1.0 ≡ true) × Any p.1.1)) f.IsInputColumn _ (λ a p. (p.0, p.1.0))
    (gives-seq gv f.IsName (λ p. (f.is_column_kind p.0 ≡ true) × Any p.1) has-name (gives-seq gv (λ k. f.is_column_kind k ≡ true) Any (gives-words gv (λ k. f.is_column_kind k ≡ true) class g.kinds_table (refl, (refl, (refl, (refl, (refl, (refl, tt))))))) (gives-any gv _)))

some-names : (o : Option (List Text)) → Maybe (Some-each f.IsName) o → Each f.IsName (g.items_or_none o)
some-names None h = tt
some-names (Some ns) h = h.1

has-input : Has (f.IsStatement 512) g.input
unfolding g.input
has-input =
    gives-as gv (λ p. f.IsName p.0 × (Some-each f.IsInputColumn p.1.0 × Each f.IsName p.1.1)) (f.IsStatement 512) _ (λ a p. (p.0, p.1.0.0, p.1.0.1, p.1.1))
    (gives-seq gv f.IsName (λ p. Some-each f.IsInputColumn p.0 × Each f.IsName p.1) (gives-after gv f.IsName has-name)
    (gives-seq gv (Some-each f.IsInputColumn) (Each f.IsName) (has-brackets (Some-each f.IsInputColumn) (gives-listed gv f.IsInputColumn has-input_column))
    (gives-before gv (Each f.IsName) (gives-after gv (Each f.IsName) (has-brackets (Each f.IsName) (gives-as gv (Maybe (Some-each f.IsName)) (Each f.IsName) g.items_or_none some-names (gives-maybe gv (Some-each f.IsName) has-names)))))))

has-create : Has (f.IsStatement 512) g.create
unfolding g.create
has-create =
    gives-as gv (λ p. f.IsName p.0 × f.IsQuery 512 p.1) (f.IsStatement 512) (λ p. tree.create p.0 p.1) (λ a p. p)
    (gives-seq gv f.IsName (f.IsQuery 512) (gives-after gv f.IsName has-name) (gives-before gv (f.IsQuery 512) (gives-after gv (f.IsQuery 512) has-query)))

has-export : Has (f.IsStatement 512) g.export
unfolding g.export
has-export =
    gives-as gv (λ p. f.IsName p.0 × Each f.IsName p.1) (f.IsStatement 512) _ (λ a p. p)
    (gives-seq gv f.IsName (Each f.IsName) (gives-after gv f.IsName has-name) (gives-before gv (Each f.IsName) (has-items_after f.IsName has-names)))

has-statement : Has (f.IsStatement 512) g.statement
unfolding g.statement
has-statement = gives-or gv (f.IsStatement 512) has-input (gives-or gv (f.IsStatement 512) has-create has-export)

abbrev IsSetting : StatementTree → Type 0
IsSetting (tree.setting scale r) = IsDigits scale
IsSetting _ = ⊥

has-setting : Has IsSetting g.setting
unfolding g.setting
has-setting = gives-as gv (λ p. IsDigits p.0 × Any p.1) IsSetting (λ p. tree.setting p.0 p.1) (λ a p. p.0) (gives-seq gv IsDigits Any (gives-after gv IsDigits has-int) (gives-any gv _))

-- ---- scripts

statements-formed : (i : ℕ) (ss : ScriptTree) (ts : List TokenKind) → Each IsFormed ts → ScriptSpells g.statement_at (suc i) ts ss → Each (f.IsStatement 512) ss
unfolding g.statement_at
statements-formed i [] ts good h = tt
statements-formed i (s ∷ ss) ts good h =
    let both = each-split IsFormed h.0 h.1 (subst (Each IsFormed) h.2 good) in
    (has-statement h.0 s both.0 h.3, statements-formed (suc i) ss h.1 both.1 h.4)

set-first : (s : StatementTree) (ss : ScriptTree) → IsSetting s → Each (f.IsStatement 512) ss → f.FormedScript (s ∷ ss)
set-first (tree.setting scale r) ss h more = (h, more)
set-first (tree.input x) ss h more = absurd h
set-first (tree.create x q) ss h more = absurd h
set-first (tree.export x) ss h more = absurd h

script-formed : (ss : ScriptTree) (ts : List TokenKind) → Each IsFormed ts → 1 ≤ length ss → ScriptSpells g.statement_at 0 ts ss → f.FormedScript ss
unfolding g.statement_at
script-formed [] ts good some h = absurd (omega (arith, some))
script-formed (s ∷ ss) ts good some h =
    let both = each-split IsFormed h.0 h.1 (subst (Each IsFormed) h.2 good) in
    set-first s ss (has-setting h.0 s both.0 h.3) (statements-formed 0 ss h.1 both.1 h.4)

lexed-formed : (at : ℕ) (text : List ℕ) (tokens : List Token) (fault : Option ℕ) → Lexes at text tokens fault → Each IsFormed (map kind tokens)
lexed-formed at text tokens fault (at_end _) = tt
lexed-formed at text tokens fault (behind_space _ c rest _ _ white more) = lexed-formed (at + 1) rest tokens fault more
lexed-formed at text tokens fault (behind_token _ _ rest token others _ is from to more) = (is.starts.formed, lexed-formed token.end rest others fault more)
lexed-formed at text tokens fault (at_fault _ c rest dark none) = tt

-- the script that a text is, is formed
pub formed_script : (text : List ℕ) (script : ScriptTree) → IsScript text script → f.FormedScript script
formed_script text script is = script-formed script (map kind is.tokens) (lexed-formed 0 _ is.tokens is.bad is.lexed) is.whole.enough is.whole.spelled

pub formed_answer : (text : List ℕ) (r : Result SqlScript SqlErr) → Answered text r → IfOk r (λ script. f.FormedScript (script_tree script))
formed_answer text (Ok script) a = formed_script text (script_tree script) a
formed_answer text (Err e) a = tt
