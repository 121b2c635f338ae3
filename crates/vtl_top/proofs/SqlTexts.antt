-- No text is without tokens of SQL, and so none is neither a script nor faulty.
use Rattle.std.proofs.Common.{◌≡◌, ◌⊎◌, inl, inr, ◌≤◌, ◌<◌, ◌+◌, ◌-◌, ℕ, zero, suc, Bool, true, false, List, [], ◌∷◌, ◌++◌, Option, Some, None, length, map, refl, sym, ap, ◌∙◌, arith, append_assoc, length-append, length-drop}
use Rattle.std.specs.Prelude.{chars}
use Rattle.grammar_forms.specs.Scripts.{SyntaxFault, WholeScript, script_reads}
use Rattle.grammar_forms.proofs.Scripts.{left-fits, told-fault, told-script}
use Rattle.sql_lexer.specs.Lexed.{IsToken, Lexes, Starts, at_end, at_fault, behind_space, behind_token, is_white_space}
use Rattle.sql_lexer.specs.Spelling.{size, spelled}
use Rattle.sql_lexer.specs.declared.token.Token.{Token}
use Rattle.sql_lexer.specs.declared.token.TokenKind.{TokenKind}
use Rattle.sql_lexer.proofs.FrontParts.{spelled-some}
use Rattle.sql_tree.specs.Classes.{class}
use Rattle.sql_tree.specs.Grammar.{Tokens, statement_at}
use Rattle.sql_tree.specs.Texts.{IsFaulty, IsScript, kind, start}
use Rattle.sql_tree.specs.Trees.{ScriptTree, StatementTree}
use Rattle.sql_tree.proofs.ScriptLaws.{statement-closed}
use Rattle.vtl_top.proofs.TextsRead.{either_way, then_too, there_is}

-- ---- tokens
record Lexed (at : ℕ) (text : List ℕ) : Type 0 where
  tokens : List Token
  bad : Option ℕ
  lexes : Lexes at text tokens bad

record Begins (text : List ℕ) : Type 0 where
  kind : TokenKind
  rest : List ℕ
  starts : Starts text kind rest

record BeginsLonger (text left : List ℕ) : Type 0 where
  begins : Begins text
  longer : length begins.rest < length left

record Longest (text : List ℕ) : Type 0 where
  kind : TokenKind
  rest : List ℕ
  token : IsToken text kind rest

not_less : (a b : ℕ) → ¬ (a < b) → b ≤ a
not_less a zero f = omega arith
not_less zero (suc b) f = absurd (f (omega arith))
not_less (suc a) (suc b) f = let ih = not_less a b (λ h. f (omega (arith, h))) in omega (arith, ih)

none_longer : (text : List ℕ) (b : Begins text) → ¬ BeginsLonger text b.rest → Longest text
none_longer text b none = record {
  kind = b.kind;
  rest = b.rest;
  token = record {
    starts = b.starts;
    longest = λ other behind s. not_less (length behind) (length b.rest) (λ h. none (record { begins = record { kind = other; rest = behind; starts = s }; longer = h }));
  };
}

-- of the tokens that start a text, none of which is longer than the text, one is the longest
longest : (m : ℕ) (text : List ℕ) (b : Begins text) → length b.rest ≤ m → ¬ ¬ Longest text
longest zero text b le = there_is (none_longer text b (λ l. absurd (omega (arith, le, l.longer))))
longest (suc m) text b le = either_way {X = BeginsLonger text b.rest} (λ l. longest m text l.begins (omega (arith, le, l.longer))) (λ none. there_is (none_longer text b none))

some_token : (text : List ℕ) (b : Begins text) → length b.rest < length text
some_token text b = omega (arith, spelled-some b.kind b.starts.formed, ap length b.starts.split, length-append (spelled b.kind) b.rest)

-- the text from here on, where each shorter one has tokens
module _ (n at c : ℕ) (rest : List ℕ) (le : length (c ∷ rest) ≤ suc n) (next : (at : ℕ) (left : List ℕ) → length left ≤ n → ¬ ¬ Lexed at left) where
  behind : Longest (c ∷ rest) → ¬ ¬ Lexed at (c ∷ rest)
  behind t =
      let token : Token = record { kind = t.kind; start = at; end = at + size (spelled t.kind) } in
      let short = some_token (c ∷ rest) (record { kind = t.kind; rest = t.rest; starts = t.token.starts }) in
      then_too (next (at + size (spelled t.kind)) t.rest (omega (arith, le, short)))
      (λ l. there_is (record { tokens = token ∷ l.tokens; bad = l.bad; lexes = behind_token at (c ∷ rest) t.rest token l.tokens l.bad t.token refl refl l.lexes }))

  one_more : (b : Bool) → is_white_space c ≡ b → ¬ ¬ Lexed at (c ∷ rest)
  one_more true white = then_too (next (at + 1) rest (omega (arith, le))) (λ l. there_is (record { tokens = l.tokens; bad = l.bad; lexes = behind_space at c rest l.tokens l.bad white l.lexes }))
  one_more false dark =
      either_way {X = Begins (c ∷ rest)} (λ b. then_too (longest (length b.rest) (c ∷ rest) b (omega arith)) behind)
      (λ none. there_is (record { tokens = []; bad = Some at; lexes = at_fault at c rest dark (λ kind left s. none (record { kind = kind; rest = left; starts = s })) }))

lexed : (n at : ℕ) (text : List ℕ) → length text ≤ n → ¬ ¬ Lexed at text
lexed n at [] le = there_is (record { tokens = []; bad = None; lexes = at_end at })
lexed zero at (c ∷ rest) le = absurd (omega (arith, le))
lexed (suc n) at (c ∷ rest) le = one_more n at c rest le (lexed n) (is_white_space c) refl

-- ---- and what the tokens are
record IsEnd (ts left : Tokens) : Type 0 where
  front : Tokens
  is : ts ≡ front ++ left

after_one : (n i : ℕ) (ts : Tokens) → ((us : Tokens) → IsEnd us (script_reads statement_at n (suc i) us).1) → (o : Option (StatementTree × Tokens)) → (statement_at i).reads ts ≡ o → IsEnd ts (script_reads statement_at (suc n) i ts).1
after_one n i ts next None e = rw e (record { front = []; is = refl })
after_one n i ts next (Some p) e =
    let r = (statement-closed i).law.sound ts p.0 p.1 e in
    let more = next p.1 in
    rw e (record { front = r.front ++ more.front; is = r.is ∙ ap (λ x. r.front ++ x) more.is ∙ sym (append_assoc r.front more.front (script_reads statement_at n (suc i) p.1).1) })

end_behind : (n i : ℕ) (ts : Tokens) → IsEnd ts (script_reads statement_at n i ts).1
end_behind zero i ts = record { front = []; is = refl }
end_behind (suc n) i ts = after_one n i ts (λ us. end_behind n (suc i) us) ((statement_at i).reads ts) refl

record Left (ts : List Token) (left : Tokens) : Type 0 where
  rest : List Token
  kinds : map kind rest ≡ left

left_of : (ts : List Token) (front left : Tokens) → map kind ts ≡ front ++ left → Left ts left
left_of ts [] left e = record { rest = ts; kinds = e }
left_of [] (x ∷ front) left e = absurd (cc e)
left_of (t ∷ ts) (x ∷ front) left e = let tails : map kind ts ≡ front ++ left = cc e in let l = left_of ts front left tails in record { rest = l.rest; kinds = l.kinds }

abbrev Spelled : List Token → Option ℕ → ℕ → Type 0
Spelled ts bad end = ((script : ScriptTree) × WholeScript kind statement_at 1 ts bad script) ⊎ ((done : ℕ) × (byte : ℕ) × SyntaxFault kind start statement_at 1 ts bad end done byte)

whole_or_fault : (ts : List Token) (bad : Option ℕ) (end : ℕ) → Spelled ts bad end
whole_or_fault ts bad end =
    let all = script_reads statement_at (length (map kind ts)) 0 (map kind ts) in
    let ended = end_behind (length (map kind ts)) 0 (map kind ts) in
    let l = left_of ts ended.front all.1 ended.is in
    by l.rest bad all.0 (ap (λ us. (all.0, us)) (sym l.kinds))
  where
    by : (rest : List Token) (bad : Option ℕ) (script : ScriptTree) → script_reads statement_at (length (map kind ts)) 0 (map kind ts) ≡ (script, map kind rest) → Spelled ts bad end
    by [] None (s ∷ ss) e = inl (s ∷ ss, told-script kind start class statement_at statement-closed 1 ts [] None (s ∷ ss) e refl refl (omega arith))
    by [] None [] e = inr (0, _, told-fault kind start class statement_at statement-closed 1 ts [] None end [] e (λ none whole. omega arith))
    by [] (Some b) script e = inr (length script, _, told-fault kind start class statement_at statement-closed 1 ts [] (Some b) end script e (λ none whole. absurd (cc whole)))
    by (t ∷ rest) bad script e =
        inr (
          length script,
          _,
          told-fault kind start class statement_at statement-closed 1 ts (t ∷ rest) bad end script e
              (λ none whole. absurd (omega (arith, left-fits kind start class statement_at statement-closed ts (t ∷ rest) script e, ap length none, length-drop (length ts - length (t ∷ rest)) ts))),
        )

pub sql_read_somehow : (text : List ℕ) → ¬ ¬ (((script : ScriptTree) × IsScript text script) ⊎ ((done : ℕ) × (byte : ℕ) × IsFaulty text done byte))
sql_read_somehow text = then_too (lexed (length (chars text)) 0 (chars text) (omega arith)) (λ l. there_is (by_tokens l (whole_or_fault l.tokens l.bad (length text))))
  where
    by_tokens : (l : Lexed 0 (chars text)) → Spelled l.tokens l.bad (length text) → ((script : ScriptTree) × IsScript text script) ⊎ ((done : ℕ) × (byte : ℕ) × IsFaulty text done byte)
    by_tokens l (inl (script, w)) = inl (script, record { tokens = l.tokens; bad = l.bad; lexed = l.lexes; whole = w })
    by_tokens l (inr (done, byte, f)) = inr (done, byte, record { tokens = l.tokens; bad = l.bad; lexed = l.lexes; fault = f })
