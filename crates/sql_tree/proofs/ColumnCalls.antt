-- A call with a column begins as an expression may, and the OVER behind it tells that it is a window.
use Rattle.std.proofs.Common.{◌≡◌, ◌⊎◌, ◌≤◌, inl, inr, ◌∙◌, ℕ, suc, Bool, true, false, [], ◌∷◌, ◌++◌, None, Some, refl, subst, arith, nat_eq}
use Rattle.std.specs.Prelude.{if◌then◌else◌}
use Rattle.grammar_forms.specs.Forms.{deep, lookup}
use Rattle.grammar_forms.proofs.Laws.{some_of}
use Rattle.sql_lexer.specs.Places.{place}
use Rattle.sql_lexer.specs.declared.token.TokenKind.{TokenKind}
use Rattle.sql_lexer.specs.declared.token.Word.TheVariants as w
use Rattle.vtl_cell.specs.declared.operator.AggKind.{AggKind}
use Rattle.vtl_cell.specs.declared.operator.AggKind.TheVariants as agg
use Rattle.sql_tree.specs.Classes.{class}
use Rattle.sql_tree.specs.Trees.{Exp}
use Rattle.sql_tree.specs.Trees as tree
use Rattle.sql_tree.specs.Grammar as g
use Rattle.sql_tree.specs.Grammar.{SqlForm, Tokens, DeepExp, Whole, key, of_table, in_brackets, expr_at, aggregates_table, window_aggregates_table, starts_of, more_of}
use Rattle.sql_tree.specs.declared.windows.WindowCall.{WindowCall}
use Rattle.sql_tree.specs.declared.parts.Column.{Column}
use Rattle.sql_tree.proofs.Levels.{limited-ok, lift, whole, column-whole}

-- an aggregate of windows is COUNT or another aggregate
by-tests : (s a c i x d : Bool) (k : AggKind)
    → (if s then Some agg.Sum else (if a then Some agg.Avg else (if c then Some agg.Count else (if i then Some agg.Min else (if x then Some agg.Max else None))))) ≡ Some k
    → (c ≡ true) ⊎ ((if s then Some agg.Sum else (if a then Some agg.Avg else (if i then Some agg.Min else (if x then Some agg.Max else (if d then Some agg.Median else None))))) ≡ Some k)
by-tests true a c i x d k h = inr h
by-tests false true c i x d k h = inr h
by-tests false false true i x d k h = inl refl
by-tests false false false true x d k h = inr h
by-tests false false false false true d k h = inr h
by-tests false false false false false d k h = cc

count-or-other : (n : ℕ) (k : AggKind) → lookup window_aggregates_table n ≡ Some k → (nat_eq (place w.Count) n ≡ true) ⊎ (lookup aggregates_table n ≡ Some k)
count-or-other n k h = by-tests (nat_eq (place w.Sum) n) (nat_eq (place w.Avg) n) (nat_eq (place w.Count) n) (nat_eq (place w.Min) n) (nat_eq (place w.Max) n) (nat_eq (place w.Median) n) k h

module _ (n k : ℕ) (low : 2 ≤ n) where
  bracketed-column : (ts : Tokens) (c : Column) → (in_brackets g.column).spells ts c → (in_brackets (expr_at (suc k) Whole)).spells ts (deep (tree.column c) 1)
  bracketed-column ts c h =
      let outer = h.spelled in
      let inside = outer.second in
      let both = inside.spelled in
      record {
        part = (h.part.0, deep (tree.column c) 1);
        spelled = record { left = outer.left; right = outer.right; is = outer.is; first = outer.first; second = record { part = (deep (tree.column c) 1, inside.part.1); spelled = record { left = both.left; right = both.right; is = both.is; first = column-whole k both.left c (subst (g.column.spells both.left) (some_of inside.part.0 h.part.1 inside.is ∙ some_of h.part.1 c h.is) both.first); second = both.second }; is = refl } };
        is = refl;
      }

  counted-column : (ts : Tokens) (c : Column) → (in_brackets g.column).spells ts c → (in_brackets (g.counted n (expr_at (suc k) Whole))).spells ts (deep (tree.aggregate agg.Count (tree.column c)) 2)
  unfolding g.counted
  counted-column ts c h =
      let outer = h.spelled in
      let inside = outer.second in
      let both = inside.spelled in
      let made = column-whole k both.left c (subst (g.column.spells both.left) (some_of inside.part.0 h.part.1 inside.is ∙ some_of h.part.1 c h.is) both.first) in
      let whole : DeepExp = deep (tree.aggregate agg.Count (tree.column c)) 2 in
      record {
        part = (h.part.0, whole);
        spelled = record {
          left = outer.left;
          right = outer.right;
          is = outer.is;
          first = outer.first;
          second = record { part = (whole, inside.part.1); spelled = record { left = both.left; right = both.right; is = both.is; first = inr (record { part = deep (tree.column c) 1; spelled = made; is = limited-ok n 2 (tree.aggregate agg.Count (tree.column c)) low }); second = both.second }; is = refl };
        };
        is = refl;
      }

  by-kind : (ts left right : Tokens) (f : AggKind) (c : Column) (token : TokenKind) → ts ≡ left ++ right → left ≡ token ∷ [] → (in_brackets g.column).spells right c
      → (nat_eq (place w.Count) (class token) ≡ true) ⊎ (lookup aggregates_table (class token) ≡ Some f) → (e : Exp) × (g.aggr n (expr_at (suc k) Whole)).spells ts (deep e 2)
  unfolding g.aggr
  by-kind ts left right f c token is alone h (inl count) =
      (tree.aggregate agg.Count (tree.column c), inl (record { part = (tt, deep (tree.aggregate agg.Count (tree.column c)) 2); spelled = record { left = left; right = right; is = is; first = record { token = token; is = alone; stands_for = rw count refl }; second = counted-column right c h }; is = refl }))
  by-kind ts left right f c token is alone h (inr other) = (
    tree.aggregate f (tree.column c),
    inr (record {
      part = (f, deep (tree.column c) 1);
      spelled = record { left = left; right = right; is = is; first = record { token = token; is = alone; stands_for = other }; second = bracketed-column right c h };
      is = limited-ok n 2 (tree.aggregate f (tree.column c)) low;
    }),
  )

pub prim-aggr : (n : ℕ) (part : g.Expr) (ts : Tokens) (x : DeepExp) → (g.aggr n part).spells ts x → (g.prim n part).spells ts x
unfolding g.prim
prim-aggr n part ts x h = inr (inr (inr (inr (inl h))))

pub column-call-expr : (ts : Tokens) (c : WindowCall) → g.column_aggregate.spells ts c → (e : Exp) × g.expr.spells ts e
unfolding g.column_aggregate g.expr
column-call-expr ts c h =
    let b = h.spelled in
    let e = by-kind 512 510 (omega arith) ts b.left b.right h.part.0 h.part.1 b.first.token b.is b.first.is b.second (count-or-other (class b.first.token) h.part.0 b.first.stands_for) in
    (e.0, record { part = deep e.0 2; spelled = whole 511 ts (deep e.0 2) (lift 511 0 7 ts (deep e.0 2) (prim-aggr 512 (expr_at 511 Whole) ts (deep e.0 2) e.1)); is = refl })
