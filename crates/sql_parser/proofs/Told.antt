-- The statements of a script, one by one, and what the tokens of a text are told to be.
use Rattle.std.proofs.Common.{◌≡◌, ◌∙◌, ℕ, zero, suc, ◌≤◌, ◌-◌, List, [], ◌∷◌, Option, None, Some, length, length-drop, take, drop, ap, arith, subst, sym, refl}
use Rattle.std.specs.Prelude.{unwrap_or}
use Rattle.std.proofs.lemmas.List.{take_rest}
use Rattle.grammar_forms.specs.Scripts.{SyntaxFault, WholeScript, byte_of, script_reads}
use Rattle.grammar_forms.proofs.Scripts.{left-fits, told-fault, told-script}
use Rattle.sql_lexer.specs.declared.token.Token.{Token}
use Rattle.sql_tree.specs.Classes.{class}
use Rattle.sql_tree.specs.Grammar.{Tokens, setting, statement, statement_at}
use Rattle.sql_tree.specs.Texts.{kind, start}
use Rattle.sql_tree.specs.Trees.{ScriptTree, StatementTree}
use Rattle.sql_tree.proofs.ScriptLaws.{statement-closed}
use Rattle.sql_parser_parts.specs.Answers.{kinds}
use Rattle.sql_parser.specs.Parsed.{next_byte_of}

pub statement-behind : (i : ℕ) (ts : Tokens) → (statement_at (suc i)).reads ts ≡ statement.reads ts
unfolding statement_at
statement-behind i ts = refl

setting-first : (ts : Tokens) → (statement_at 0).reads ts ≡ setting.reads ts
unfolding statement_at
setting-first ts = refl

setting-of-nothing : setting.reads [] ≡ None
unfolding setting
setting-of-nothing = refl

no-kinds : (ts : Tokens) → length ts ≡ 0 → ts ≡ []
no-kinds [] e = refl
no-kinds (t ∷ ts) e = absurd (omega (arith, e))

-- SET, and the statements that were read behind it
pub script-read : (n m : ℕ) (ts us : Tokens) (s : StatementTree) (more : ScriptTree) (rest : Tokens) → m ≡ n - 1 → n ≡ length ts → setting.reads ts ≡ Some (s, us)
    → ◌≡◌ {A = Option (ScriptTree × Tokens)} (Some (script_reads statement_at m 1 us)) (Some (more, rest)) → script_reads statement_at n 0 ts ≡ (s ∷ more, rest)
script-read zero m ts us s more rest is size e f = let none : setting.reads ts ≡ None = ap (λ xs. setting.reads xs) (no-kinds ts (sym size)) ∙ setting-of-nothing in let clash = sym none ∙ e in cc
script-read (suc n) m ts us s more rest is size e f =
    let same : m ≡ n = omega (arith, is) in
    let read : script_reads statement_at n 1 us ≡ (more, rest) = subst (λ k. script_reads statement_at k 1 us ≡ (more, rest)) same (some-is (script_reads statement_at m 1 us) (more, rest) f) in
    rw (setting-first ts ∙ e, read) refl
  where
    some-is : (p q : ScriptTree × Tokens) → ◌≡◌ {A = Option (ScriptTree × Tokens)} (Some p) (Some q) → p ≡ q
    some-is p q h = cc

-- no SET
pub no_script : (n : ℕ) (ts : Tokens) → setting.reads ts ≡ None → script_reads statement_at n 0 ts ≡ ([], ts)
no_script zero ts e = refl
no_script (suc n) ts e = rw (setting-first ts ∙ e) refl

-- ---- what follows the statements

byte-is : (ts : List Token) (bad : Option ℕ) (end byte : ℕ) → next_byte_of ts bad ≡ Some byte → byte_of start ts bad end ≡ byte
byte-is [] None end byte e = cc
byte-is [] (Some b) end byte e = cc
byte-is (t ∷ ts) bad end byte e = cc

pub byte-or-end : (ts : List Token) (bad : Option ℕ) (end : ℕ) → byte_of start ts bad end ≡ unwrap_or (next_byte_of ts bad) end
byte-or-end [] None end = refl
byte-or-end [] (Some b) end = refl
byte-or-end (t ∷ ts) bad end = refl

none-left : (ts : List Token) (bad : Option ℕ) → next_byte_of ts bad ≡ None → (ts ≡ []) × (bad ≡ None)
none-left [] bad e = (refl, e)
none-left (t ∷ ts) bad e = cc

-- ---- what the tokens are told to be; `rest` are those that are left, which stand last

abbrev IsRead : List Token → List Token → ScriptTree → Type 0
IsRead ts rest script = script_reads statement_at (length (kinds ts)) 0 (kinds ts) ≡ (script, kinds rest)

pub rest-fits : (ts rest : List Token) (script : ScriptTree) → IsRead ts rest script → length rest ≤ length ts
unfolding kinds
rest-fits ts rest script e = left-fits kind start class statement_at statement-closed ts rest script e

pub told-fault-of : (ts rest left : List Token) (bad : Option ℕ) (end byte done : ℕ) (script : ScriptTree) → IsRead ts rest script → left ≡ take (length ts - (length ts - length rest)) (drop (length ts - length rest) ts) → length script ≡ done
    → next_byte_of left bad ≡ Some byte → SyntaxFault kind start statement_at 1 ts bad end done byte
unfolding kinds
told-fault-of ts rest left bad end byte done script e slice count at =
    let n : ℕ = length ts - length rest in
    let same : left ≡ drop n ts = slice ∙ take_rest ts n in
    let next : next_byte_of (drop n ts) bad ≡ Some byte = subst (λ us. next_byte_of us bad ≡ Some byte) same at in
    let f = told-fault kind start class statement_at statement-closed 1 ts rest bad end script e (λ none whole. absurd (no-byte (drop n ts) bad byte none whole next)) in
    subst (λ d. SyntaxFault kind start statement_at 1 ts bad end d byte) count (subst (λ b. SyntaxFault kind start statement_at 1 ts bad end (length script) b) (byte-is (drop n ts) bad end byte next) f)
  where
    no-byte : (us : List Token) (bad : Option ℕ) (byte : ℕ) → us ≡ [] → bad ≡ None → next_byte_of us bad ≡ Some byte → ⊥
    no-byte [] None byte none whole h = cc
    no-byte [] (Some b) byte none whole h = cc
    no-byte (u ∷ us) bad byte none whole h = cc

pub told-script-of : (ts rest left : List Token) (bad : Option ℕ) (script : ScriptTree) → IsRead ts rest script → left ≡ take (length ts - (length ts - length rest)) (drop (length ts - length rest) ts) → 1 ≤ length script
    → next_byte_of left bad ≡ None → WholeScript kind statement_at 1 ts bad script
unfolding kinds
told-script-of ts rest left bad script e slice enough at =
    let n : ℕ = length ts - length rest in
    let same : left ≡ drop n ts = slice ∙ take_rest ts n in
    let none = none-left left bad at in
    let bare : drop n ts ≡ [] = sym same ∙ none.0 in
    let fits = rest-fits ts rest script e in
    told-script kind start class statement_at statement-closed 1 ts rest bad script e (omega (arith, fits, ap length bare, length-drop n ts)) none.1 enough

pub told-no-set : (ts : List Token) (bad : Option ℕ) (end byte : ℕ) → script_reads statement_at (length (kinds ts)) 0 (kinds ts) ≡ ([], kinds ts) → unwrap_or (next_byte_of ts bad) end ≡ byte → SyntaxFault kind start statement_at 1 ts bad end 0 byte
unfolding kinds
told-no-set ts bad end byte e at =
    let zero_left : length ts - length ts ≡ 0 = omega arith in
    let all : drop (length ts - length ts) ts ≡ ts = ap (λ n. drop n ts) zero_left in
    let f = told-fault kind start class statement_at statement-closed 1 ts ts bad end [] e (λ none whole. omega arith) in
    subst (λ b. SyntaxFault kind start statement_at 1 ts bad end 0 b) (ap (λ us. byte_of start us bad end) all ∙ byte-or-end ts bad end ∙ at) f
