-- Clauses, members, signs and operators are read: what is read of a left operand goes on at the tokens behind it.
use Rattle.std.proofs.Common.{◌≡◌, ◌∙◌, ◌⊎◌, ℕ, zero, suc, ◌≤◌, ◌<◌, ◌-◌, max, min, Bool, List, ◌∷◌, length, Some, None, refl, arith, inl, inr}
use Rattle.std.specs.Prelude.{nat_le}
use Rattle.std.proofs.lemmas.Bool.{cases_Bool, leb-false, leb-true}
use Rattle.vtl_lexer.specs.declared.token.Sign.TheVariants as sign
use Rattle.vtl_lexer.specs.declared.token.TokenKind.TheVariants as token
use Rattle.vtl_syntax.specs.Depth.{exp_depth, clause_depth}
use Rattle.vtl_syntax.specs.Trees as tree
use Rattle.vtl_syntax.specs.Trees.{Exp, ClauseTree}
use Rattle.vtl_syntax.specs.declared.parts.Comp.{Comp}
use Rattle.vtl_syntax.specs.declared.parts.Literal.{Literal}
use Rattle.vtl_syntax.specs.declared.word_groups.BinaryOp.{BinaryOp}
use Rattle.vtl_grammar.specs.Fits.{Fits}
use Rattle.vtl_grammar.specs.Grammar.{Tokens, set_onto, clause_onto, exp_onto}
use Rattle.vtl_grammar.specs.Levels.{looseness, tighter, operator_level, level_of, Within}
use Rattle.vtl_grammar.specs.Reading.{Gets, got, is_sign, after_sign, word}
use Rattle.vtl_grammar.specs.ReadExpressions.{chain, clause_behind, in_turns, member_behind, operand_behind, operand_step, postfix, postfix_step, prefixed, set_behind}
use Rattle.vtl_grammar.specs.Words.{binary_op_token, unary_op_at, comp_token, in_token}
use Rattle.vtl_grammar.specs.declared.levels.Level.{Level}
use Rattle.vtl_grammar.specs.declared.levels.Level.TheVariants as level
use Rattle.vtl_grammar.proofs.AppendExpressions.{exp-append, clause-append}
use Rattle.vtl_grammar.proofs.AppendParts.{grows, set-append}
use Rattle.vtl_grammar.proofs.CompleteBase.{Lacks, in_table, lacks_word, lacks_sign, CompleteGets}
use Rattle.vtl_grammar.proofs.CompleteForms.{clause_complete}
use Rattle.vtl_grammar.proofs.CompleteLevels.{goes_on, tighter_is, stops_within, operator_loose, operator_stops, in_stops, operator_read, operator_none, membership_none, membership_read, in_operator_none, postfix_stops, starts, unary_start}
use Rattle.vtl_grammar.proofs.CompleteParts.{comp_read, literal_set_complete}
use Rattle.vtl_grammar.proofs.CompletePrimary.{primary_complete}
use Rattle.vtl_grammar.proofs.CompleteTables.{unary_op_read}

-- what reads each expression of a level, where what follows does not go on with it
abbrev pub CompleteAt : ℕ → Level → Gets Exp → Type 0
CompleteAt n l reader = (e : Exp) (rest : Tokens) → Within l e → Fits e → exp_depth e ≤ n → Lacks (goes_on l) rest → reader (exp_onto e rest) ≡ Some (got e (n - exp_depth e) rest)

-- the budget around parts
deeper : (n d : ℕ) → d ≤ n → suc n - d ≡ suc (n - d)
deeper n d h = omega arith

-- ---- clauses and members

record PostfixGoing (n : ℕ) (part : Gets Exp) (e : Exp) (rest : Tokens) : Type 0 where
  turns : ℕ
  enough : length rest ≤ turns
  is : postfix n part (exp_onto e rest) ≡ in_turns (postfix_step n part) turns (got e (suc n - exp_depth e) rest)

postfix_stop : (n : ℕ) (part : Gets Exp) (turns : ℕ) (e : Exp) (spare : ℕ) (rest : Tokens) → Lacks (is_sign sign.OpenSquare) rest → Lacks (is_sign sign.Hash) rest → in_turns (postfix_step n part) turns (got e spare rest) ≡ Some (got e spare rest)
unfolding postfix_step
postfix_stop n part zero e spare rest no_square no_hash = refl
postfix_stop n part (suc turns) e spare rest no_square no_hash = rw (lacks_sign sign.OpenSquare rest no_square, lacks_sign sign.Hash rest no_hash) refl

module _ (n : ℕ) (part : Gets Exp) (reads : CompleteGets n part exp_onto Fits exp_depth (goes_on level.Expression)) where
  clause_step : (e : Exp) (c : ClauseTree) (rest : Tokens) → Fits (tree.with_clause e c) → exp_depth (tree.with_clause e c) ≤ suc n
      → (turns : ℕ) → suc (length (clause_onto c (token.Sign sign.CloseSquare ∷ rest))) ≤ turns
      → postfix n part (exp_onto (tree.with_clause e c) rest) ≡ in_turns (postfix_step n part) turns (got e (suc n - exp_depth e) (token.Sign sign.OpenSquare ∷ clause_onto c (token.Sign sign.CloseSquare ∷ rest)))
      → PostfixGoing n part (tree.with_clause e c) rest
  unfolding postfix_step clause_behind after_sign
  clause_step e c rest fits shallow zero enough is = absurd (omega arith)
  clause_step e c rest fits shallow (suc turns) enough is =
      let own : exp_depth e ≤ n = omega arith in
      let s : min (n - exp_depth e) (n - clause_depth c) ≡ suc n - suc (max (exp_depth e) (clause_depth c)) = omega arith in
      record {
        turns = turns;
        enough = omega (arith, grows clause_onto clause-append c (token.Sign sign.CloseSquare ∷ rest));
        is = is ∙ rw (deeper n (exp_depth e) own, clause_complete n part reads c rest fits.2 (omega arith), s) refl;
      }

  member_step : (e : Exp) (c : Comp) (rest : Tokens) → exp_depth (tree.member e c) ≤ suc n
      → (turns : ℕ) → suc (suc (length rest)) ≤ turns
      → postfix n part (exp_onto (tree.member e c) rest) ≡ in_turns (postfix_step n part) turns (got e (suc n - exp_depth e) (token.Sign sign.Hash ∷ comp_token c ∷ rest))
      → PostfixGoing n part (tree.member e c) rest
  unfolding postfix_step member_behind after_sign
  member_step e c rest shallow zero enough is = absurd (omega arith)
  member_step e c rest shallow (suc turns) enough is =
      let own : exp_depth e ≤ n = omega arith in
      let s : n - exp_depth e ≡ suc n - suc (exp_depth e) = omega arith in
      record { turns = turns; enough = omega arith; is = is ∙ rw (deeper n (exp_depth e) own, comp_read c, s) refl }

  primary_going : (e : Exp) (rest : Tokens) → Within level.Primary e → Fits e → exp_depth e ≤ suc n → PostfixGoing n part e rest
  unfolding postfix
  primary_going e rest within fits shallow = record { turns = length rest; enough = omega arith; is = rw (primary_complete n part reads e rest within fits shallow) refl }

  postfix_going : (e : Exp) (rest : Tokens) → Within level.Postfix e → Fits e → exp_depth e ≤ suc n → PostfixGoing n part e rest
  postfix_going (tree.with_clause e c) rest within fits shallow =
      let g : PostfixGoing n part e (token.Sign sign.OpenSquare ∷ clause_onto c (token.Sign sign.CloseSquare ∷ rest)) = postfix_going e (token.Sign sign.OpenSquare ∷ clause_onto c (token.Sign sign.CloseSquare ∷ rest)) fits.0 fits.1 (omega arith) in
      clause_step e c rest fits shallow g.turns g.enough g.is
  postfix_going (tree.member e c) rest within fits shallow =
      let g : PostfixGoing n part e (token.Sign sign.Hash ∷ comp_token c ∷ rest) = postfix_going e (token.Sign sign.Hash ∷ comp_token c ∷ rest) fits.0 fits.1 (omega arith) in
      member_step e c rest shallow g.turns g.enough g.is
  postfix_going (tree.binary l o r) rest within fits shallow = absurd (omega (arith, operator_loose o))
  postfix_going e rest within fits shallow = primary_going e rest (omega arith) fits shallow

  pub postfix_complete : CompleteAt (suc n) level.Postfix (postfix n part)
  postfix_complete e rest within fits shallow stops =
      let g : PostfixGoing n part e rest = postfix_going e rest within fits shallow in
      let ends = postfix_stops level.Postfix rest (omega arith) stops in
      g.is ∙ postfix_stop n part g.turns e (suc n - exp_depth e) rest ends.0 ends.1

  -- ---- signs

  no_prefix : (again : Gets Exp) (ts : Tokens) → word unary_op_at ts ≡ None → prefixed n part again ts ≡ postfix n part ts
  unfolding prefixed
  no_prefix again ts h = rw h refl

  pub prefixed_complete : (again : Gets Exp) → CompleteAt n level.Unary again → CompleteAt (suc n) level.Unary (prefixed n part again)
  unfolding prefixed
  prefixed_complete again inner (tree.unary o e) rest within fits shallow stops =
      let s : suc n - suc (exp_depth e) ≡ n - exp_depth e = omega arith in
      rw (unary_op_read o, inner e rest fits.0 fits.1 (omega arith) stops, s) refl
  prefixed_complete again inner (tree.binary l o r) rest within fits shallow stops = absurd (omega (arith, operator_loose o))
  prefixed_complete again inner e rest within fits shallow stops =
      no_prefix again (exp_onto e rest) (lacks_word unary_op_at (exp_onto e rest) (starts level.Postfix (in_table unary_op_at) unary_start e (omega arith) fits rest))
      ∙ (postfix_complete e rest (omega arith) fits shallow (stops_within level.Unary level.Postfix (omega arith) rest stops))

-- ---- operators of a level

record Going (n : ℕ) (l : Level) (first right : Gets Exp) (e : Exp) (rest : Tokens) : Type 0 where
  turns : ℕ
  enough : length rest ≤ turns
  is : chain l first right (exp_onto e rest) ≡ in_turns (operand_step l right) turns (got e (suc n - exp_depth e) rest)

operands_stop : (l : Level) (right : Gets Exp) (turns : ℕ) (e : Exp) (spare : ℕ) (rest : Tokens) → Lacks (goes_on l) rest → in_turns (operand_step l right) turns (got e spare rest) ≡ Some (got e spare rest)
unfolding operand_step
operands_stop l right zero e spare rest stops = refl
operands_stop l right (suc turns) e spare rest stops = rw (operator_none l rest stops, membership_none l rest stops) refl

-- an expression of a level stands at a tighter one, or its operator is of the level
tight_or_own : (x l : ℕ) → 3 ≤ l → x ≤ l → (x ≤ l - 1) ⊎ (x ≡ l)
tight_or_own x l low h =
    elim (cases_Bool (nat_le x (l - 1))) [
      | inl below ↦ inl (leb-true x (l - 1) below)
      | inr above ↦ inr (let far : l - 1 < x = leb-false x (l - 1) above in omega arith)
    ]

module _ (n : ℕ) (l : Level) (low : 3 ≤ looseness l) (high : looseness l ≤ 7) (first right : Gets Exp) (reads_first : CompleteAt (suc n) (tighter l) first) (reads_right : CompleteAt n (tighter l) right) where
  tight_going : (e : Exp) (rest : Tokens) → looseness (level_of e) ≤ looseness l - 1 → Fits e → exp_depth e ≤ suc n → Lacks (goes_on (tighter l)) rest → Going n l first right e rest
  unfolding chain
  tight_going e rest within fits shallow stops =
      let inside : Within (tighter l) e = omega (arith, tighter_is l) in
      record { turns = length rest; enough = omega arith; is = rw (reads_first e rest inside fits shallow stops) refl }

  binary_step : (a : Exp) (o : BinaryOp) (b : Exp) (rest : Tokens) → looseness (operator_level o) ≡ looseness l → Fits (tree.binary a o b) → exp_depth (tree.binary a o b) ≤ suc n → Lacks (goes_on (tighter l)) rest
      → (turns : ℕ) → suc (length (exp_onto b rest)) ≤ turns
      → chain l first right (exp_onto (tree.binary a o b) rest) ≡ in_turns (operand_step l right) turns (got a (suc n - exp_depth a) (binary_op_token o ∷ exp_onto b rest))
      → Going n l first right (tree.binary a o b) rest
  unfolding operand_step operand_behind
  binary_step a o b rest same fits shallow stops zero enough is = absurd (omega arith)
  binary_step a o b rest same fits shallow stops (suc turns) enough is =
      let own : exp_depth a ≤ n = omega arith in
      let fits_right : Within (tighter (operator_level o)) b = fits.2 in
      let inside : Within (tighter l) b = omega (arith, tighter_is l, tighter_is (operator_level o)) in
      let s : min (n - exp_depth a) (n - exp_depth b) ≡ suc n - suc (max (exp_depth a) (exp_depth b)) = omega arith in
      record {
        turns = turns;
        enough = omega (arith, grows exp_onto exp-append b rest);
        is = is ∙ rw (operator_read o l same, deeper n (exp_depth a) own, reads_right b rest inside fits.3 (omega arith) stops, s) refl;
      }

  in_step : (e : Exp) (negated : Bool) (ls : List Literal) (rest : Tokens) → looseness l ≡ 5 → Fits (tree.in_set e negated ls) → exp_depth (tree.in_set e negated ls) ≤ suc n
      → (turns : ℕ) → suc (length (set_onto ls rest)) ≤ turns
      → chain l first right (exp_onto (tree.in_set e negated ls) rest) ≡ in_turns (operand_step l right) turns (got e (suc n - exp_depth e) (in_token negated ∷ set_onto ls rest))
      → Going n l first right (tree.in_set e negated ls) rest
  unfolding operand_step set_behind
  in_step e negated ls rest same fits shallow zero enough is = absurd (omega arith)
  in_step e negated ls rest same fits shallow (suc turns) enough is =
      let own : exp_depth e ≤ n = omega arith in
      let s : n - exp_depth e ≡ suc n - suc (exp_depth e) = omega arith in
      record {
        turns = turns;
        enough = omega (arith, grows set_onto set-append ls rest);
        is = is ∙ rw (in_operator_none negated l, membership_read negated l same, deeper n (exp_depth e) own, literal_set_complete ls rest fits.2, s) refl;
      }

  going : (e : Exp) (rest : Tokens) → Within l e → Fits e → exp_depth e ≤ suc n → Lacks (goes_on (tighter l)) rest → Going n l first right e rest
  going (tree.binary a o b) rest within fits shallow stops =
      let within_left : Within (operator_level o) a = fits.0 in
      elim (tight_or_own (looseness (operator_level o)) (looseness l) low within) [
        | inl tight ↦ tight_going (tree.binary a o b) rest tight fits shallow stops
        | inr same ↦
            (let g : Going n l first right a (binary_op_token o ∷ exp_onto b rest) = going a (binary_op_token o ∷ exp_onto b rest) (omega arith) fits.1 (omega arith) (operator_stops o (tighter l) (omega (arith, tighter_is l))) in
            binary_step a o b rest same fits shallow stops g.turns g.enough g.is)
      ]
  going (tree.in_set e negated ls) rest within fits shallow stops =
      let within_left : Within level.Compare e = fits.0 in
      elim (tight_or_own 5 (looseness l) low within) [
        | inl tight ↦ tight_going (tree.in_set e negated ls) rest tight fits shallow stops
        | inr same ↦
            (let g : Going n l first right e (in_token negated ∷ set_onto ls rest) = going e (in_token negated ∷ set_onto ls rest) (omega arith) fits.1 (omega arith) (in_stops negated (tighter l) (omega (arith, tighter_is l))) in
            in_step e negated ls rest (omega arith) fits shallow g.turns g.enough g.is)
      ]
  going e rest within fits shallow stops = tight_going e rest (omega arith) fits shallow stops

  pub chain_complete : CompleteAt (suc n) l (chain l first right)
  chain_complete e rest within fits shallow stops =
      let g : Going n l first right e rest = going e rest within fits shallow (stops_within l (tighter l) (omega (arith, tighter_is l)) rest stops) in
      g.is ∙ operands_stop l right g.turns e (suc n - exp_depth e) rest stops
