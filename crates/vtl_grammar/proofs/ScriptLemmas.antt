-- What reading a script gives, and what it says of the tokens of a text.
use Rattle.std.proofs.Common.{◌≡◌, ◌⊎◌, inl, inr, ◌≤◌, ◌++◌, ◌∙◌, ℕ, zero, suc, Option, None, Some, List, [], ◌∷◌, append_assoc, append-nil, arith, length, refl, sym, ap, subst}
use Rattle.std.specs.List.{AllByRecursion}
use Rattle.std.proofs.lemmas.List.{append_cancel_right, map-append}
use Rattle.vtl_lexer.specs.declared.token.Token.{Token}
use Rattle.vtl_syntax.specs.Trees.{ScriptTree, StatementTree}
use Rattle.vtl_grammar.specs.Faults.{SyntaxFault, WholeScript, byte_of, kinds}
use Rattle.vtl_grammar.specs.Fits.{InGrammar, SpellsScript}
use Rattle.vtl_grammar.specs.Grammar.{Tokens, script_onto, statement_onto, tokens_of}
use Rattle.vtl_grammar.specs.ReadStatements.{script_read, statement_read, statements_read}
use Rattle.vtl_lists.specs.Options.{given}
use Rattle.vtl_grammar.proofs.AppendExpressions.{script-append}
use Rattle.vtl_grammar.proofs.CompleteStatements.{nothing_read, statement_some, statements_stop}
use Rattle.vtl_grammar.proofs.SoundStatements.{statement_read-sound}
use Rattle.vtl_grammar.proofs.UniqueLemmas.{greatest_read}

-- ---- reading statement after statement

statements_read-some : (turns : ℕ) (script : ScriptTree) (ts : Tokens) (s : StatementTree) (rest : Tokens) → statement_read ts ≡ Some (s, rest) → statements_read (suc turns) script ts ≡ statements_read turns (script ++ s ∷ []) rest
unfolding statements_read
statements_read-some n script ts s rest e = ap (λ r. given r (λ s. statements_read n (script ++ s.0 ∷ []) s.1) (script, ts)) e

-- the statements so far, and some more that stand there, after which none stands
pub record IsScript (script : ScriptTree) (ts : Tokens) (p : ScriptTree × Tokens) : Type 0 where
  pub others : ScriptTree
  pub all : p.0 ≡ script ++ others
  pub spelled : ts ≡ script_onto others p.1
  pub each : AllByRecursion InGrammar others
  pub longest : statement_read p.1 ≡ None

none_read : (script : ScriptTree) (ts : Tokens) → statement_read ts ≡ None → IsScript script ts (script, ts)
none_read script ts e = record { others = []; all = sym (append-nil script); spelled = refl; each = tt; longest = e }

one_more : (n : ℕ) (script : ScriptTree) (ts : Tokens) → length ts ≤ suc n → ((front : ScriptTree) (us : Tokens) → length us ≤ n → IsScript front us (statements_read n front us)) → (r : Option (StatementTree × Tokens)) → statement_read ts ≡ r → IsScript script ts (statements_read (suc n) script ts)
one_more n script ts h ih None e = subst (IsScript script ts) (sym (statements_stop (suc n) script ts e)) (none_read script ts e)
one_more n script ts h ih (Some p) e =
    let is = (statement_read-sound ts).holds p e in
    let long = statement_some p.0 p.1 in
    let same = ap length is.spelled in
    let more = ih (script ++ p.0 ∷ []) p.1 (omega arith) in
    let rest : IsScript script ts (statements_read n (script ++ p.0 ∷ []) p.1) = record { others = p.0 ∷ more.others; all = more.all ∙ append_assoc script (p.0 ∷ []) more.others; spelled = is.spelled ∙ ap (statement_onto p.0) more.spelled; each = (is.fits, more.each); longest = more.longest } in
    subst (IsScript script ts) (sym (statements_read-some n script ts p.0 p.1 e)) rest

statements_read-sound : (turns : ℕ) (script : ScriptTree) (ts : Tokens) → length ts ≤ turns → IsScript script ts (statements_read turns script ts)
unfolding statements_read
statements_read-sound zero script [] h = none_read script [] nothing_read
statements_read-sound zero script (t ∷ ts) h = absurd (omega arith)
statements_read-sound (suc n) script ts h = one_more n script ts h (statements_read-sound n) (statement_read ts) refl

-- what reading gives
pub script_read-sound : (ts : Tokens) → IsScript [] ts (script_read ts)
unfolding script_read
script_read-sound ts = statements_read-sound (length ts) [] ts (omega arith)

-- ---- what a script that was read says of its tokens

is_script : (ts : Tokens) (p : ScriptTree × Tokens) → script_read ts ≡ p → IsScript [] ts p
is_script ts p e = subst (IsScript [] ts) e (script_read-sound ts)

pub script_read-spells : (ts : Tokens) (script : ScriptTree) → script_read ts ≡ (script, []) → SpellsScript ts script
script_read-spells ts script e =
    let is = is_script ts (script, []) e in
    record { is = rw is.all is.spelled; each = rw is.all is.each }

-- the tokens in front of what is left
front_kinds : (ts front rest : List Token) (script : ScriptTree) → ts ≡ front ++ rest → kinds ts ≡ script_onto script (kinds rest) → kinds front ≡ tokens_of script
unfolding kinds
front_kinds ts front rest script split spelled =
    append_cancel_right (kinds front) (tokens_of script) (kinds rest)
    (sym (map-append (λ t. t.kind) front rest) ∙ sym (ap kinds split) ∙ spelled ∙ script-append script [] (kinds rest))

-- what is wrong with a text, where not all of its tokens are read, or not all of it is tokens
pub script_read-fault : (ts front rest : List Token) (bad : Option ℕ) (script : ScriptTree) (byte : ℕ) → script_read (kinds ts) ≡ (script, kinds rest) → ts ≡ front ++ rest → byte_of rest bad ≡ Some byte → SyntaxFault ts bad (length script) byte
script_read-fault ts front rest bad script byte e split at =
    let is = is_script (kinds ts) (script, kinds rest) e in
    let spelled : kinds ts ≡ script_onto script (kinds rest) = rw is.all is.spelled in
    record {
      front = front;
      rest = rest;
      split = split;
      script = script;
      spelled = record { is = front_kinds ts front rest script split spelled; each = rw is.all is.each };
      counts = refl;
      greatest = λ f r s cut spells. subst (λ p. length s ≤ length p.0) e (greatest_read ts f r s cut spells);
      at = at;
    }

-- ---- each text is a script or has a fault

same_tail : {A : Type 0} (x y : A) (xs ys : List A) → x ∷ xs ≡ y ∷ ys → xs ≡ ys
same_tail x y xs ys e = cc

-- tokens cut where their kinds are
cut : (ts : List Token) (a b : Tokens) → kinds ts ≡ a ++ b → (front : List Token) × (rest : List Token) × (ts ≡ front ++ rest) × (kinds rest ≡ b)
unfolding kinds
cut ts [] b e = ([], ts, refl, e)
cut [] (x ∷ a) b e = absurd (omega (arith, ap length e))
cut (t ∷ ts) (x ∷ a) b e = let more = cut ts a b (same_tail t.kind x (kinds ts) (a ++ b) e) in (t ∷ more.0, more.1, ap (λ us. t ∷ us) more.2, more.3)

pub whole_or_fault : (ts : List Token) (bad : Option ℕ) → ((script : ScriptTree) × WholeScript ts bad script) ⊎ ((done : ℕ) × (byte : ℕ) × SyntaxFault ts bad done byte)
unfolding kinds
whole_or_fault ts bad =
    let is = script_read-sound (kinds ts) in
    let read = script_read (kinds ts) in
    let split = cut ts (tokens_of is.others) read.1 (is.spelled ∙ script-append is.others [] read.1) in
    by_rest read.0 split.0 split.1 split.2 (ap (λ us. (read.0, us)) (sym split.3)) bad
  where
    by_rest : (script : ScriptTree) (front rest : List Token) → ts ≡ front ++ rest → script_read (kinds ts) ≡ (script, kinds rest) → (b : Option ℕ) → ((s : ScriptTree) × WholeScript ts b s) ⊎ ((done : ℕ) × (byte : ℕ) × SyntaxFault ts b done byte)
    by_rest script front [] e read None = inl (script, record { whole = refl; spelled = script_read-spells (kinds ts) script read })
    by_rest script front [] e read (Some b) = inr (length script, b, script_read-fault ts front [] (Some b) script b read e refl)
    by_rest script front (t ∷ rest) e read b = inr (length script, t.start, script_read-fault ts front (t ∷ rest) b script t.start read e refl)
