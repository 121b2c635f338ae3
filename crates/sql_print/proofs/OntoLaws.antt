-- What is written behind tokens is what is written, behind them.
use Rattle.std.proofs.Common.{◌≡◌, ◌∙◌, Bool, true, false, List, [], ◌∷◌, ◌++◌, map, refl, sym, ap, append_assoc, append-nil, nat_le}
use Rattle.grammar_forms.specs.Written.{behind, between, run}
use Rattle.sql_lexer.specs.declared.token.TokenKind.TheVariants as t
use Rattle.sql_lexer.specs.declared.token.Word.{Word}
use Rattle.sql_lexer.specs.declared.token.Word.TheVariants as w
use Rattle.sql_tree.specs.Grammar.{Tokens}
use Rattle.sql_tree.specs.Printing.{aggregate_word, bracketed, just, left_level, level_of, more_exps, op_word, right_level, unary_level, wrapped, written, written_branches, written_exps}
use Rattle.sql_tree.specs.Trees.{Exp, binary, unary, is_null, in_list, constant, column, call, count_all, aggregate, case_when, exists, Exps, no_exps, exp, Branches, no_branches, branch}
use Rattle.sql_print.specs.Tails.{membership, null_test}
use Rattle.sql_print.specs.Onto.{branches_onto, exps_onto, onto, part_onto, put}

abbrev IsOnto : Exp → Type 0
IsOnto e = (out : Tokens) → onto e out ≡ out ++ written e

within-brackets : (out ts : Tokens) → ((out ++ just w.Open) ++ ts) ++ just w.Close ≡ out ++ bracketed ts
within-brackets out ts = ap (λ us. us ++ just w.Close) (append_assoc out (just w.Open) ts) ∙ append_assoc out (t.Word w.Open ∷ ts) (just w.Close)

part-is : (e : Exp) → IsOnto e → (free : Bool) (out : Tokens) → part_onto e free out ≡ out ++ wrapped free (written e)
part-is e ih true out = ih out
part-is e ih false out = ap (λ us. us ++ just w.Close) (ih (put w.Open out)) ∙ within-brackets out (written e)

-- a part, a word and a part
three : (out a b : Tokens) (x : Word) → ((out ++ a) ++ just x) ++ b ≡ out ++ (a ++ (t.Word x ∷ b))
three out a b x = append_assoc (out ++ a) (just x) b ∙ append_assoc out a (t.Word x ∷ b)

word-then : (out a : Tokens) (x : Word) → (out ++ just x) ++ a ≡ out ++ (t.Word x ∷ a)
word-then out a x = append_assoc out (just x) a

binary-is : (a b : Exp) → IsOnto a → IsOnto b → (x : Word) (i j : Bool) (out : Tokens) → part_onto b j (put x (part_onto a i out)) ≡ out ++ (wrapped i (written a) ++ (t.Word x ∷ wrapped j (written b)))
binary-is a b ia ib x i j out = part-is b ib j (put x (part_onto a i out)) ∙ ap (λ us. put x us ++ wrapped j (written b)) (part-is a ia i out) ∙ three out (wrapped i (written a)) (wrapped j (written b)) x

tail-is : (e : Exp) → IsOnto e → (free : Bool) (ts out : Tokens) → part_onto e free out ++ ts ≡ out ++ (wrapped free (written e) ++ ts)
tail-is e ih free ts out = ap (λ us. us ++ ts) (part-is e ih free out) ∙ append_assoc out (wrapped free (written e)) ts

-- WHEN, a condition, THEN and a value
branch-is : (e v : Exp) → IsOnto e → IsOnto v → (out : Tokens) → onto v (put w.Then (onto e (put w.When out))) ≡ out ++ (t.Word w.When ∷ (written e ++ (t.Word w.Then ∷ written v)))
branch-is e v ie iv out = iv (put w.Then (onto e (put w.When out))) ∙ ap (λ us. put w.Then us ++ written v) (ie (put w.When out)) ∙ three (put w.When out) (written e) (written v) w.Then ∙ word-then out (written e ++ (t.Word w.Then ∷ written v)) w.When

mutual
  pub onto-is : (e : Exp) → IsOnto e
  onto-is (binary a o b) out = binary-is a b (onto-is a) (onto-is b) (op_word o) (nat_le (level_of a) (left_level o)) (nat_le (level_of b) (right_level o)) out
  onto-is (unary o e) out = part-is e (onto-is e) (nat_le (level_of e) (unary_level o)) (put (op_word o) out) ∙ word-then out (wrapped (nat_le (level_of e) (unary_level o)) (written e)) (op_word o)
  onto-is (is_null e negated) out = tail-is e (onto-is e) (nat_le (level_of e) 3) (null_test negated) out
  onto-is (in_list e negated ls) out = tail-is e (onto-is e) (nat_le (level_of e) 3) (membership negated ls) out
  onto-is (constant x) out = refl
  onto-is (column x) out = refl
  onto-is (call f es) out = ap (λ us. us ++ just w.Close) (exps-are es (put w.Open (put (op_word f) out))) ∙ within-brackets (put (op_word f) out) (written_exps es) ∙ word-then out (bracketed (written_exps es)) (op_word f)
  onto-is count_all out = refl
  onto-is (aggregate f e) out = ap (λ us. us ++ just w.Close) (onto-is e (put w.Open (put (aggregate_word f) out))) ∙ within-brackets (put (aggregate_word f) out) (written e) ∙ word-then out (bracketed (written e)) (aggregate_word f)
  onto-is (case_when bs e) out =
      ap (λ us. us ++ just w.End) (onto-is e (put w.Else (branches_onto bs (put w.Case out))) ∙ ap (λ us. put w.Else us ++ written e) (branches-are bs (put w.Case out)))
      ∙ ap (λ us. us ++ just w.End) (three (put w.Case out) (written_branches bs) (written e) w.Else)
      ∙ append_assoc (put w.Case out) (written_branches bs ++ (t.Word w.Else ∷ written e)) (just w.End)
      ∙ ap (λ us. put w.Case out ++ us) (append_assoc (written_branches bs) (t.Word w.Else ∷ written e) (just w.End))
      ∙ word-then out (written_branches bs ++ (t.Word w.Else ∷ (written e ++ just w.End))) w.Case
  onto-is (exists s es) out = refl

  more-are : (es : Exps) (out : Tokens) → exps_onto true es out ≡ out ++ more_exps es
  more-are no_exps out = sym (append-nil out)
  more-are (exp e es) out = more-are es (onto e (put w.Comma out)) ∙ ap (λ us. us ++ more_exps es) (onto-is e (put w.Comma out)) ∙ append_assoc (put w.Comma out) (written e) (more_exps es) ∙ word-then out (written e ++ more_exps es) w.Comma

  exps-are : (es : Exps) (out : Tokens) → exps_onto false es out ≡ out ++ written_exps es
  exps-are no_exps out = sym (append-nil out)
  exps-are (exp e es) out = more-are es (onto e out) ∙ ap (λ us. us ++ more_exps es) (onto-is e out) ∙ append_assoc out (written e) (more_exps es)

  branches-are : (bs : Branches) (out : Tokens) → branches_onto bs out ≡ out ++ written_branches bs
  branches-are no_branches out = sym (append-nil out)
  branches-are (branch e v bs) out =
      let one : Tokens = t.Word w.When ∷ (written e ++ (t.Word w.Then ∷ written v)) in
      branches-are bs (onto v (put w.Then (onto e (put w.When out)))) ∙ ap (λ us. us ++ written_branches bs) (branch-is e v (onto-is e) (onto-is v) out) ∙ append_assoc out one (written_branches bs)

-- ---- lists of the program's parts and of their trees

pub run-map : {A B : Type 0} (view : A → B) (f : B → Tokens) (xs : List A) → run (λ x. f (view x)) xs ≡ run f (map view xs)
run-map view f [] = refl
run-map view f (x ∷ xs) = ap (λ ts. f (view x) ++ ts) (run-map view f xs)

behind-map : {A B : Type 0} (mark : Tokens) (view : A → B) (f : B → Tokens) (xs : List A) → behind mark (λ x. f (view x)) xs ≡ behind mark f (map view xs)
behind-map mark view f [] = refl
behind-map mark view f (x ∷ xs) = ap (λ ts. mark ++ (f (view x) ++ ts)) (behind-map mark view f xs)

pub between-map : {A B : Type 0} (mark : Tokens) (view : A → B) (f : B → Tokens) (xs : List A) → between mark (λ x. f (view x)) xs ≡ between mark f (map view xs)
between-map mark view f [] = refl
between-map mark view f (x ∷ xs) = ap (λ ts. f (view x) ++ ts) (behind-map mark view f xs)
