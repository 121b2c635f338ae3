-- Reading an expression gives one that stands there, may stand at the place and is as deep as the budget says.
use Rattle.std.proofs.Common.{◌≡◌, ◌≤◌, ◌∙◌, ℕ, zero, suc, Bool, Option, None, Some, [], ◌∷◌, arith, length, refl, ap, subst}
use Rattle.std.specs.Prelude.{min, nat_eq, option_map}
use Rattle.vtl_lexer.specs.declared.keyword.Keyword.TheVariants as keyword
use Rattle.vtl_lexer.specs.declared.token.Sign.TheVariants as sign
use Rattle.vtl_lexer.specs.declared.token.TokenKind.{TokenKind}
use Rattle.vtl_lexer.specs.declared.token.TokenKind.TheVariants as token
use Rattle.vtl_syntax.specs.Depth.{exp_depth}
use Rattle.vtl_syntax.specs.Trees as tree
use Rattle.vtl_syntax.specs.Trees.{Exp}
use Rattle.vtl_syntax.specs.declared.word_groups.BinaryOp.{BinaryOp}
use Rattle.vtl_grammar.specs.Fits.{Fits}
use Rattle.vtl_grammar.specs.Grammar.{Tokens, constant_onto, exp_onto, open_bracket}
use Rattle.vtl_grammar.specs.Levels.{Within, level_of, looseness, operator_level, tighter}
use Rattle.vtl_grammar.specs.ReadExpressions.{add_at, and_at, around, bracketed, call, chain, compare_at, choice, choice_or, clause, clause_behind, closed, formed, in_turns, leaf_at, member_behind, membership_at, multiply_at, one_more, operand_behind, operand_step, operator_at, or_at, postfix, postfix_step, prefixed, primary, read, read_level, set_behind, Step, unary_at}
use Rattle.vtl_grammar.specs.ReadParts.{literal_set}
use Rattle.vtl_lists.specs.Options.{given}
use Rattle.vtl_grammar.specs.Reading.{Gets, Got, after_keyword, after_sign, got, word}
use Rattle.vtl_grammar.specs.Words.{binary_op_at, binary_op_token, comp_at, constant_at, form_at, form_token, in_token, unary_op_at, unary_op_token}
use Rattle.vtl_grammar.specs.declared.levels.Level.{Level}
use Rattle.vtl_grammar.specs.declared.levels.Level.TheVariants as level
use Rattle.vtl_grammar.proofs.Places.{level_by_test}
use Rattle.vtl_grammar.proofs.SoundCalls.{call-sound}
use Rattle.vtl_grammar.proofs.SoundForms.{IsExp, clause-sound}
use Rattle.vtl_grammar.proofs.SoundParts.{comp-sound, literal_set-sound}
use Rattle.vtl_grammar.proofs.SoundSteps.{Gives, either, follow, none_gives, some_gives, under_test, weaker}
use Rattle.vtl_grammar.proofs.SoundTables.{binary_op_table, comp_table, constant_table, form_table, in_table, unary_op_table}
use Rattle.vtl_grammar.proofs.SoundTokens.{after_keyword-sound, after_sign-sound, word-sound}

-- what may stand at a place may stand at each looser one
pub looser : (a b : Level) (n : ℕ) (ts : Tokens) (g : Got Exp) → looseness a ≤ looseness b → IsExp a n ts g → IsExp b n ts g
looser a b n ts g le is = record { spelled = is.spelled; within = omega arith; fits = is.fits; deep = is.deep }

-- ---- tokens

-- a name or a constant alone
record IsLeaf (t : TokenKind) (e : Exp) : Type 0 where
  spelled : (us : Tokens) → t ∷ us ≡ exp_onto e us
  tight : level_of e ≡ level.Primary
  fits : Fits e
  deep : exp_depth e ≡ 1

leaf_table : (t : TokenKind) → Gives (IsLeaf t) (leaf_at t)
leaf_table t =
    either (comp_at t) _ _ (comp_table t)
    (λ c e. some_gives (tree.component c) (record { spelled = λ us. ap (λ x. x ∷ us) e; tight = refl; fits = tt; deep = refl }))
    (of_constant (constant_at t) (constant_table t))
  where
    of_constant : (r : Option _) → Gives (λ c. (us : Tokens) → t ∷ us ≡ constant_onto c us) r → Gives (IsLeaf t) (option_map (λ c. tree.constant c) r)
    of_constant None h = none_gives
    of_constant (Some c) h = some_gives (tree.constant c) (record { spelled = h.holds c refl; tight = refl; fits = tt; deep = refl })

-- the operator of a level
record IsOperator (l : Level) (t : TokenKind) (o : BinaryOp) : Type 0 where
  spelled : t ≡ binary_op_token o
  at : operator_level o ≡ l

operator_table : (l : Level) (t : TokenKind) → Gives (IsOperator l t) (operator_at l t)
operator_table l t =
    follow (binary_op_at t) _ (binary_op_table t)
    (λ o e. under_test (nat_eq (looseness (operator_level o)) (looseness l)) (Some o) None
    (λ same. some_gives o (record { spelled = e; at = level_by_test (operator_level o) l same }))
    (λ other. none_gives))

record IsMembership (l : Level) (t : TokenKind) (negated : Bool) : Type 0 where
  spelled : t ≡ in_token negated
  at : l ≡ level.Compare

membership_table : (l : Level) (t : TokenKind) → Gives (IsMembership l t) (membership_at l t)
membership_table level.Compare t = weaker (in_table t) (λ b e. record { spelled = e; at = refl })
membership_table _ t = none_gives

-- what a word's table says of the first token
record IsFirst {A : Type 0} (Is : TokenKind → A → Type 0) (ts : Tokens) (p : A × Tokens) : Type 0 where
  token : TokenKind
  spelled : ts ≡ token ∷ p.1
  is : Is token p.0

first_word : {A : Type 0} (Is : TokenKind → A → Type 0) (at : TokenKind → Option A) → ((t : TokenKind) → Gives (Is t) (at t)) → (ts : Tokens) → Gives (IsFirst Is ts) (word at ts)
first_word Is at table [] = none_gives
first_word {A} Is at table (t ∷ ts) = go (at t) (table t)
  where
    go : (r : Option A) → Gives (Is t) r → Gives (IsFirst Is (t ∷ ts)) (option_map (λ a. (a, ts)) r)
    go None h = none_gives
    go (Some a) h = some_gives (a, ts) (record { token = t; spelled = refl; is = h.holds a refl })

-- what is read within the budget of what is around
around-sound : {A : Type 0} {P : A → Type 0} (n : ℕ) (f : ℕ → Option A) → ((s : ℕ) → n ≡ suc s → Gives P (f s)) → Gives P (around n f)
around-sound zero f h = none_gives
around-sound (suc n) f h = h n refl

-- ---- turns

-- what a turn gives, if it gives one
abbrev Turned : (Got Exp → Type 0) → Option (Got Exp) → Type 0
Turned P None = Unit {0}
Turned P (Some g) = P g

one_more-sound : {P : Got Exp → Type 0} (r : Option (Got Exp)) → Gives P r → Gives (Turned P) (one_more r)
one_more-sound r h = follow r _ h (λ g is. some_gives (Some g) is)

-- what holds before each turn and after it, holds after all
in_turns-sound : (P : Got Exp → Type 0) (step : Step) → ((g : Got Exp) → P g → Gives (Turned P) (step g)) → (k : ℕ) (g : Got Exp) → P g → Gives P (in_turns step k g)
in_turns-sound P step h zero g is = some_gives g is
in_turns-sound P step h (suc k) g is = follow (step g) _ (h g is) (λ o io. on (in_turns-sound P step h k) o io)
  where
    on : ((x : Got Exp) → P x → Gives P (in_turns step k x)) → (o : Option (Got Exp)) → Turned P o → Gives P (given o (in_turns step k) (Some g))
    on again None io = some_gives g is
    on again (Some x) io = again x io

-- ---- operands

module _ (n : ℕ) (part : Gets Exp) (h : (ts : Tokens) → Gives (IsExp level.Expression n ts) (part ts)) where
  bracketed-sound : (ts : Tokens) → Gives (IsExp level.Primary (suc n) (open_bracket ∷ ts)) (bracketed part ts)
  unfolding bracketed closed
  bracketed-sound ts =
      follow (part ts) _ (h ts)
      (λ g is. follow (after_sign sign.CloseBracket g.rest) _ (after_sign-sound sign.CloseBracket g.rest)
      (λ rest e. some_gives (got (tree.brackets g.tree) g.spare rest) (record { spelled = cc; within = omega arith; fits = is.fits; deep = omega arith })))

  formed-sound : (ts : Tokens) → Gives (IsExp level.Primary (suc n) ts) (formed n part ts)
  unfolding formed closed
  formed-sound ts =
      follow (word form_at ts) _ (word-sound form_token form_at form_table ts)
      (λ f ef. follow (after_sign sign.OpenBracket f.1) _ (after_sign-sound sign.OpenBracket f.1)
      (λ inner ei. follow (call n part f.0 inner) _ (call-sound n part h f.0 inner)
      (λ g is. follow (after_sign sign.CloseBracket g.rest) _ (after_sign-sound sign.CloseBracket g.rest)
      (λ rest er.
      let all = is.spelled rest er in
      some_gives (got g.tree g.spare rest) (record { spelled = cc; within = rw is.tight (omega arith); fits = is.fits; deep = is.deep })))))

  primary-sound : (ts : Tokens) → Gives (IsExp level.Primary (suc n) ts) (primary n part ts)
  unfolding primary
  primary-sound ts =
      either (word leaf_at ts) _ _ (first_word IsLeaf leaf_at leaf_table ts)
      (λ p f. some_gives (got p.0 n p.1) (record { spelled = f.spelled ∙ f.is.spelled p.1; within = rw f.is.tight (omega arith); fits = f.is.fits; deep = rw f.is.deep (omega arith) }))
      (either (after_sign sign.OpenBracket ts) _ _ (after_sign-sound sign.OpenBracket ts)
      (λ after e. weaker (bracketed-sound after) (λ g is. record { spelled = e ∙ is.spelled; within = is.within; fits = is.fits; deep = is.deep }))
      (formed-sound ts))

  postfix_step-sound : (us : Tokens) (g : Got Exp) → IsExp level.Postfix (suc n) us g → Gives (Turned (IsExp level.Postfix (suc n) us)) (postfix_step n part g)
  unfolding postfix_step clause_behind member_behind
  postfix_step-sound us g is =
      either (after_sign sign.OpenSquare g.rest) _ _ (after_sign-sound sign.OpenSquare g.rest)
      (λ after ea. one_more-sound _ (around-sound g.spare _
      (λ s es. follow (clause n part after) _ (clause-sound n part h after)
      (λ c ic. follow (after_sign sign.CloseSquare c.rest) _ (after_sign-sound sign.CloseSquare c.rest)
      (λ rest er. some_gives (got (tree.with_clause g.tree c.tree) (min s c.spare) rest)
      (record { spelled = cc; within = omega arith; fits = (is.within, is.fits, ic.fits); deep = omega arith }))))))
      (either (after_sign sign.Hash g.rest) _ _ (after_sign-sound sign.Hash g.rest)
      (λ after ea. one_more-sound _ (around-sound g.spare _
      (λ s es. follow (word comp_at after) _ (comp-sound after)
      (λ c ec. some_gives (got (tree.member g.tree c.0) s c.1)
      (record { spelled = cc; within = omega arith; fits = (is.within, is.fits); deep = omega arith })))))
      (some_gives None tt))

  postfix-sound : (ts : Tokens) → Gives (IsExp level.Postfix (suc n) ts) (postfix n part ts)
  unfolding postfix
  postfix-sound ts =
      follow (primary n part ts) _ (primary-sound ts)
      (λ g is. in_turns-sound (IsExp level.Postfix (suc n) ts) (postfix_step n part) (postfix_step-sound ts) (length g.rest) g (looser level.Primary level.Postfix (suc n) ts g (omega arith) is))

  prefixed-sound : (again : Gets Exp) → ((ts : Tokens) → Gives (IsExp level.Unary n ts) (again ts)) → (ts : Tokens) → Gives (IsExp level.Unary (suc n) ts) (prefixed n part again ts)
  unfolding prefixed
  prefixed-sound again ha ts =
      either (word unary_op_at ts) _ _ (word-sound unary_op_token unary_op_at unary_op_table ts)
      (λ o eo. follow (again o.1) _ (ha o.1)
      (λ g is. some_gives (got (tree.unary o.0 g.tree) g.spare g.rest) (record { spelled = cc; within = omega arith; fits = (is.within, is.fits); deep = omega arith })))
      (weaker (postfix-sound ts) (λ g is. looser level.Postfix level.Unary (suc n) ts g (omega arith) is))

-- ---- chains of operators

module _ (n : ℕ) (l : Level) (right : Gets Exp) (hr : (ts : Tokens) → Gives (IsExp (tighter l) n ts) (right ts)) where
  operand_step-sound : (us : Tokens) (g : Got Exp) → IsExp l (suc n) us g → Gives (Turned (IsExp l (suc n) us)) (operand_step l right g)
  unfolding operand_step operand_behind set_behind
  operand_step-sound us g is =
      either (word (operator_at l) g.rest) _ _ (first_word (IsOperator l) (operator_at l) (operator_table l) g.rest)
      (λ o io. one_more-sound _ (around-sound g.spare _
      (λ s es. follow (right o.1) _ (hr o.1)
      (λ r ir. some_gives (got (tree.binary g.tree o.0 r.tree) (min s r.spare) r.rest)
      (record {
        spelled = let first = io.spelled in let sign = io.is.spelled in cc;
        within = rw io.is.at (omega arith);
        fits = rw io.is.at (is.within, is.fits, ir.within, ir.fits);
        deep = omega arith;
      })))))
      (either (word (membership_at l) g.rest) _ _ (first_word (IsMembership l) (membership_at l) (membership_table l) g.rest)
      (λ i ii. one_more-sound _ (around-sound g.spare _
      (λ s es. follow (literal_set i.1) _ (literal_set-sound i.1)
      (λ ls il. some_gives (got (tree.in_set g.tree i.0 ls.0) s ls.1)
      (record {
        spelled = let first = ii.spelled in let sign = ii.is.spelled in cc;
        within = rw ii.is.at (omega arith);
        fits = (subst (λ x. Within x g.tree) ii.is.at is.within, is.fits, il.fits);
        deep = omega arith;
      })))))
      (some_gives None tt))

  chain-sound : (first : Gets Exp) → ((ts : Tokens) → Gives (IsExp (tighter l) (suc n) ts) (first ts)) → looseness (tighter l) ≤ looseness l → (ts : Tokens) → Gives (IsExp l (suc n) ts) (chain l first right ts)
  unfolding chain
  chain-sound first hf le ts =
      follow (first ts) _ (hf ts)
      (λ g is. in_turns-sound (IsExp l (suc n) ts) (operand_step l right) (operand_step-sound ts) (length g.rest) g (looser (tighter l) l (suc n) ts g le is))

-- "if" expr "then" expr "else" expr
module _ (n : ℕ) (part : Gets Exp) (h : (ts : Tokens) → Gives (IsExp level.Expression n ts) (part ts)) where
  choice-sound : (ts : Tokens) → Gives (IsExp level.Expression (suc n) (token.Keyword keyword.If ∷ ts)) (choice part ts)
  unfolding choice
  choice-sound ts =
      follow (part ts) _ (h ts)
      (λ c ic. follow (after_keyword keyword.Then c.rest) _ (after_keyword-sound keyword.Then c.rest)
      (λ x ex. follow (part x) _ (h x)
      (λ a ia. follow (after_keyword keyword.Else a.rest) _ (after_keyword-sound keyword.Else a.rest)
      (λ y ey. follow (part y) _ (h y)
      (λ b ib. some_gives (got (tree.if_then c.tree a.tree b.tree) (min c.spare (min a.spare b.spare)) b.rest)
      (record { spelled = cc; within = omega arith; fits = (ic.fits, ia.fits, ib.fits); deep = omega arith }))))))

  choice_or-sound : (otherwise : Gets Exp) → ((ts : Tokens) → Gives (IsExp level.Or (suc n) ts) (otherwise ts)) → (ts : Tokens) → Gives (IsExp level.Expression (suc n) ts) (choice_or part otherwise ts)
  unfolding choice_or
  choice_or-sound otherwise ho ts =
      either (after_keyword keyword.If ts) _ _ (after_keyword-sound keyword.If ts)
      (λ after e. weaker (choice-sound after) (λ g is. record { spelled = e ∙ is.spelled; within = is.within; fits = is.fits; deep = is.deep }))
      (weaker (ho ts) (λ g is. looser level.Or level.Expression (suc n) ts g (omega arith) is))

-- ---- levels

-- what a reading at each level gives within a budget
abbrev pub LevelsSound : ℕ → (Level → Gets Exp) → Type 0
LevelsSound n reads = (l : Level) (ts : Tokens) → Gives (IsExp l n ts) (reads l ts)

module _ (n : ℕ) (inner : Level → Gets Exp) (h : LevelsSound n inner) where
  unary_at-sound : (ts : Tokens) → Gives (IsExp level.Unary (suc n) ts) (unary_at n inner ts)
  unfolding unary_at
  unary_at-sound ts = prefixed-sound n (inner level.Expression) (h level.Expression) (inner level.Unary) (h level.Unary) ts

  multiply_at-sound : (ts : Tokens) → Gives (IsExp level.Multiply (suc n) ts) (multiply_at n inner ts)
  unfolding multiply_at
  multiply_at-sound ts = chain-sound n level.Multiply (inner level.Unary) (h level.Unary) (unary_at n inner) unary_at-sound (omega arith) ts

  add_at-sound : (ts : Tokens) → Gives (IsExp level.Add (suc n) ts) (add_at n inner ts)
  unfolding add_at
  add_at-sound ts = chain-sound n level.Add (inner level.Multiply) (h level.Multiply) (multiply_at n inner) multiply_at-sound (omega arith) ts

  compare_at-sound : (ts : Tokens) → Gives (IsExp level.Compare (suc n) ts) (compare_at n inner ts)
  unfolding compare_at
  compare_at-sound ts = chain-sound n level.Compare (inner level.Add) (h level.Add) (add_at n inner) add_at-sound (omega arith) ts

  and_at-sound : (ts : Tokens) → Gives (IsExp level.And (suc n) ts) (and_at n inner ts)
  unfolding and_at
  and_at-sound ts = chain-sound n level.And (inner level.Compare) (h level.Compare) (compare_at n inner) compare_at-sound (omega arith) ts

  or_at-sound : (ts : Tokens) → Gives (IsExp level.Or (suc n) ts) (or_at n inner ts)
  unfolding or_at
  or_at-sound ts = chain-sound n level.Or (inner level.And) (h level.And) (and_at n inner) and_at-sound (omega arith) ts

  read_level-sound : LevelsSound (suc n) (read_level n inner)
  unfolding read_level
  read_level-sound level.Primary ts = primary-sound n (inner level.Expression) (h level.Expression) ts
  read_level-sound level.Postfix ts = postfix-sound n (inner level.Expression) (h level.Expression) ts
  read_level-sound level.Unary ts = unary_at-sound ts
  read_level-sound level.Multiply ts = multiply_at-sound ts
  read_level-sound level.Add ts = add_at-sound ts
  read_level-sound level.Compare ts = compare_at-sound ts
  read_level-sound level.And ts = and_at-sound ts
  read_level-sound level.Or ts = or_at-sound ts
  read_level-sound level.Expression ts = choice_or-sound n (inner level.Expression) (h level.Expression) (or_at n inner) or_at-sound ts

-- what is read at the front of some tokens stands there
pub read-sound : (n : ℕ) → LevelsSound n (read n)
unfolding read
read-sound zero l ts = none_gives
read-sound (suc n) l ts = read_level-sound n (read n) (read-sound n) l ts
