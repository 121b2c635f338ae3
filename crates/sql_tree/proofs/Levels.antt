-- The levels of expressions: what spells an expression at one level spells it at each looser one.
use Rattle.std.proofs.Common.{◌≡◌, inl, inr, ◌≤◌, ◌+◌, ℕ, zero, suc, true, [], ◌∷◌, ◌++◌, None, Some, refl, sym, subst, arith, append-nil, nat_eq}
use borrow.Author.Tests.{eq-eqb, le-leb}
use Rattle.grammar_forms.specs.Forms.{Both, IsMade, Spelling, deep, limited}
use Rattle.grammar_forms.proofs.Chains.{chain-alone}
use Rattle.grammar_forms.proofs.Written.{both-of, as-of, after-of, before-of}
use Rattle.sql_lexer.specs.Places.{place}
use Rattle.sql_lexer.specs.declared.token.TokenKind.{TokenKind}
use Rattle.sql_lexer.specs.declared.token.TokenKind.TheVariants as t
use Rattle.sql_lexer.specs.declared.token.Word.{Word}
use Rattle.sql_lexer.specs.declared.token.Word.TheVariants as w
use Rattle.sql_tree.specs.Trees.{Text, Exp}
use Rattle.sql_tree.specs.Trees as tree
use Rattle.sql_tree.specs.Grammar as g
use Rattle.sql_tree.specs.Grammar.{SqlForm, Tokens, Expr, DeepExp, Place, Whole, Negated, Signed, key, name, text, int, dec, of_table, in_brackets, expr_at}
use Rattle.sql_tree.specs.Printing.{just, bracketed, written_column}
use Rattle.sql_tree.specs.declared.parts.Column.{Column}

-- ---- tokens

pub limited-ok : (n d : ℕ) (e : Exp) → d ≤ n → limited n e d ≡ Some (deep e d)
limited-ok n d e h = rw (le-leb d n h) refl

same-class : (n : ℕ) → nat_eq n n ≡ true
same-class n = eq-eqb n n refl

pub one : (x : Word) → (key x).spells (just x) tt
one x = record { token = t.Word x; is = refl; stands_for = rw (same-class (place x)) refl }

pub name-of : (a : Text) → name.spells (t.Name a ∷ []) a
name-of a = record { token = t.Name a; is = refl; stands_for = refl }

pub text-of : (a : Text) → text.spells (t.Text a ∷ []) a
text-of a = record { token = t.Text a; is = refl; stands_for = refl }

pub int-of : (a : Text) → int.spells (t.Int a ∷ []) a
int-of a = record { token = t.Int a; is = refl; stands_for = refl }

pub dec-of : (a : Text) → dec.spells (t.Dec a ∷ []) a
dec-of a = record { token = t.Dec a; is = refl; stands_for = refl }

pub in-brackets-of : {A : Type 0} {f : Spelling TokenKind A} (ts : Tokens) (a : A) → f ts a → IsMade (λ p. Some p.1) (Both (key w.Open).spells (IsMade (λ p. Some p.0) (Both f (key w.Close).spells))) (bracketed ts) a
in-brackets-of ts a h = after-of (just w.Open) (ts ++ just w.Close) tt (one w.Open) (before-of ts (just w.Close) tt h (one w.Close))

pub column-of : (c : Column) → g.column.spells (written_column c) c
unfolding g.column
column-of c = as-of _ (written_column c) (c.source, c.name) (both-of (t.Name c.source ∷ []) (t.Word w.Dot ∷ (t.Name c.name ∷ [])) (name-of c.source) (after-of (just w.Dot) (t.Name c.name ∷ []) tt (one w.Dot) (name-of c.name)))

-- ---- levels

-- the form of each level, with parts of that depth
abbrev pub form_at : ℕ → ℕ → Expr
form_at m zero = g.prim (suc m) (expr_at m Whole)
form_at m (suc zero) = g.un (suc m) (expr_at m)
form_at m (suc (suc zero)) = g.mul (suc m) (expr_at m)
form_at m (suc (suc (suc zero))) = g.add (suc m) (expr_at m)
form_at m (suc (suc (suc (suc zero)))) = g.cmp (suc m) (expr_at m)
form_at m (suc (suc (suc (suc (suc zero))))) = g.neg (suc m) (expr_at m)
form_at m (suc (suc (suc (suc (suc (suc zero)))))) = g.conjunction (suc m) (expr_at m)
form_at m (suc (suc (suc (suc (suc (suc (suc l))))))) = g.disjunction (suc m) (expr_at m)

alone : (m : ℕ) (ts : Tokens) (x : DeepExp) → (g.add (suc m) (expr_at m)).spells ts x → (g.cmp (suc m) (expr_at m)).spells ts x
unfolding g.cmp
alone m ts x h = record { part = (x, None); spelled = record { left = ts; right = []; is = sym (append-nil ts); first = h; second = refl }; is = refl }

looser : (m l : ℕ) (ts : Tokens) (x : DeepExp) → (form_at m l).spells ts x → (form_at m (suc l)).spells ts x
unfolding g.un g.mul g.add g.neg g.conjunction g.disjunction
looser m zero ts x h = inr h
looser m (suc zero) ts x h = chain-alone _ _ _ ts x h
looser m (suc (suc zero)) ts x h = chain-alone _ _ _ ts x h
looser m (suc (suc (suc zero))) ts x h = alone m ts x h
looser m (suc (suc (suc (suc zero)))) ts x h = inr h
looser m (suc (suc (suc (suc (suc zero))))) ts x h = chain-alone _ _ _ ts x h
looser m (suc (suc (suc (suc (suc (suc zero)))))) ts x h = chain-alone _ _ _ ts x h
looser m (suc (suc (suc (suc (suc (suc (suc l))))))) ts x h = h

pub moved : (m i j : ℕ) (ts : Tokens) (x : DeepExp) → i ≡ j → (form_at m i).spells ts x → (form_at m j).spells ts x
moved m i j ts x e h = subst (λ k. (form_at m k).spells ts x) e h

pub lift : (m l k : ℕ) (ts : Tokens) (x : DeepExp) → (form_at m l).spells ts x → (form_at m (k + l)).spells ts x
lift m l zero ts x h = moved m l (0 + l) ts x (omega arith) h
lift m l (suc k) ts x h = moved m (suc (k + l)) (suc k + l) ts x (omega arith) (looser m (k + l) ts x (lift m l k ts x h))

pub whole : (k : ℕ) (ts : Tokens) (x : DeepExp) → (form_at k 7).spells ts x → (expr_at (suc k) Whole).spells ts x
unfolding g.inner g.at_place
whole k ts x h = h

pub negated : (k : ℕ) (ts : Tokens) (x : DeepExp) → (form_at k 5).spells ts x → (expr_at (suc k) Negated).spells ts x
unfolding g.inner g.at_place
negated k ts x h = h

pub signed : (k : ℕ) (ts : Tokens) (x : DeepExp) → (form_at k 1).spells ts x → (expr_at (suc k) Signed).spells ts x
unfolding g.inner g.at_place
signed k ts x h = h

-- ---- an expression that is a column, or an aggregate of one

pub column-prim : (n : ℕ) (part : Expr) (ts : Tokens) (c : Column) → g.column.spells ts c → (g.prim n part).spells ts (deep (tree.column c) 1)
unfolding g.prim
column-prim n part ts c h = inr (inl (record { part = c; spelled = h; is = refl }))

pub column-whole : (k : ℕ) (ts : Tokens) (c : Column) → g.column.spells ts c → (expr_at (suc k) Whole).spells ts (deep (tree.column c) 1)
column-whole k ts c h = whole k ts (deep (tree.column c) 1) (lift k 0 7 ts (deep (tree.column c) 1) (column-prim (suc k) (expr_at k Whole) ts c h))
