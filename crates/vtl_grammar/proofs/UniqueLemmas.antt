-- Tokens spell one script at most, no statement's tokens begin another's, and a text has one fault at most.
use Rattle.std.proofs.Common.{◌≡◌, ◌∙◌, ℕ, ◌≤◌, List, [], ◌∷◌, ◌++◌, length, Option, Some, None, refl, sym, ap, arith, length-append}
use Rattle.std.specs.List.{AllByRecursion}
use Rattle.std.proofs.lemmas.List.{append-nil, length-map, map-append}
use Rattle.vtl_lexer.specs.declared.token.Token.{Token}
use Rattle.vtl_syntax.specs.Trees.{StatementTree, ScriptTree}
use Rattle.vtl_grammar.specs.Faults.{kinds, byte_of, SyntaxFault, WholeScript}
use Rattle.vtl_grammar.specs.Fits.{InGrammar, SpellsScript}
use Rattle.vtl_grammar.specs.Grammar.{Tokens, statement_onto, script_onto}
use Rattle.vtl_grammar.specs.ReadStatements.{statement_read, script_read}
use Rattle.vtl_grammar.proofs.AppendExpressions.{statement-append, script-append}
use Rattle.vtl_grammar.proofs.CompleteStatements.{statement_complete, script_complete, script_greatest, script_grows, nothing_read}

-- what two statements at the front of the same tokens leave
same_front : (a b : StatementTree) (us vs : Tokens) → InGrammar a → InGrammar b → statement_onto a us ≡ statement_onto b vs → (a ≡ b) × (us ≡ vs)
same_front a b us vs in_a in_b e =
    let read_a = statement_complete a us in_a in
    let read_b = statement_complete b vs in_b in
    let both : ◌≡◌ {A = Option (StatementTree × Tokens)} (Some (a, us)) (Some (b, vs)) = sym read_a ∙ ap statement_read e ∙ read_b in
    let x : StatementTree × Tokens = (a, us) in
    let y : StatementTree × Tokens = (b, vs) in
    let p : x ≡ y = cc in
    (ap (λ q. q.0) p, ap (λ q. q.1) p)

-- no statement's tokens begin another's
pub statement_alone : (a b : StatementTree) (us : Tokens) → InGrammar a → InGrammar b → statement_onto a [] ++ us ≡ statement_onto b [] → (a ≡ b) × (us ≡ [])
statement_alone a b us in_a in_b e = same_front a b us [] in_a in_b (statement-append a [] us ∙ e)

-- a script that the tokens spell is what is read of them
pub spelled_read : (ts : Tokens) (script : ScriptTree) → SpellsScript ts script → script_read ts ≡ (script, [])
spelled_read ts script spells = ap script_read spells.is ∙ script_complete script [] spells.each nothing_read

-- tokens spell one script at most
pub spells_unique : (ts : Tokens) (a b : ScriptTree) → SpellsScript ts a → SpellsScript ts b → a ≡ b
spells_unique ts a b spells_a spells_b = ap (λ q. q.0) (sym (spelled_read ts a spells_a) ∙ spelled_read ts b spells_b)

-- of two scripts at the front of the same tokens, the longer goes on where the shorter ends
pub record GoesOn (a b : ScriptTree) (us vs : Tokens) : Type 0 where
  pub more : ScriptTree
  pub is : b ≡ a ++ more
  pub left : us ≡ script_onto more vs

pub longer_script : (a b : ScriptTree) (us vs : Tokens) → AllByRecursion InGrammar a → AllByRecursion InGrammar b → length a ≤ length b → script_onto a us ≡ script_onto b vs → GoesOn a b us vs
longer_script [] b us vs all_a all_b h e = record { more = b; is = refl; left = e }
longer_script (x ∷ a) [] us vs all_a all_b h e = absurd (omega arith)
longer_script (x ∷ a) (y ∷ b) us vs all_a all_b h e =
    let front = same_front x y (script_onto a us) (script_onto b vs) all_a.0 all_b.0 e in
    let g : GoesOn a b us vs = longer_script a b us vs all_a.1 all_b.1 (omega arith) front.1 in
    let head : x ≡ y = front.0 in
    let tail : b ≡ a ++ g.more = g.is in
    record { more = g.more; is = cc; left = g.left }

-- ---- over tokens with places

kinds-append : (a b : List Token) → kinds (a ++ b) ≡ kinds a ++ kinds b
unfolding kinds
kinds-append a b = map-append (λ t. t.kind) a b

pub kinds-length : (a : List Token) → length (kinds a) ≡ length a
unfolding kinds
kinds-length a = length-map a (λ t. t.kind)

-- a script at the front of the tokens, and the kinds of the others
pub front_script : (ts front rest : List Token) (script : ScriptTree) → ts ≡ front ++ rest → SpellsScript (kinds front) script → kinds ts ≡ script_onto script (kinds rest)
front_script ts front rest script split spells =
    ap kinds split ∙ kinds-append front rest ∙ ap (λ k. k ++ kinds rest) spells.is ∙ sym (script-append script [] (kinds rest))

-- no front spells a longer script than what is read
pub greatest_read : (ts front rest : List Token) (script : ScriptTree) → ts ≡ front ++ rest → SpellsScript (kinds front) script → length script ≤ length (script_read (kinds ts)).0
greatest_read ts front rest script split spells = rw (front_script ts front rest script split spells) (script_greatest script (kinds rest) spells.each)

-- lists that end in lists of one length end in the same list
same_end : (a b c d : List Token) → a ++ b ≡ c ++ d → length b ≡ length d → b ≡ d
same_end [] b [] d e h = e
same_end [] b (y ∷ c) d e h = absurd (omega (arith, ap length e, length-append c d))
same_end (x ∷ a) b [] d e h = absurd (omega (arith, ap length e, length-append a b))
same_end (x ∷ a) b (y ∷ c) d e h = let tails : a ++ b ≡ c ++ d = cc in same_end a b c d tails h

no_more : (more : ScriptTree) (us vs : Tokens) → length more ≡ 0 → us ≡ script_onto more vs → us ≡ vs
no_more [] us vs none e = e
no_more (s ∷ more) us vs none e = absurd (omega arith)

-- a fault's count and byte follow from the tokens
pub fault_determined : (ts : List Token) (bad : Option ℕ) (d d' byte byte' : ℕ) → SyntaxFault ts bad d byte → SyntaxFault ts bad d' byte' → (d ≡ d') × (byte ≡ byte')
fault_determined ts bad d d' byte byte' f g =
    let below : length f.script ≤ d' = g.greatest f.front f.rest f.script f.split f.spelled in
    let above : length g.script ≤ d = f.greatest g.front g.rest g.script g.split g.spelled in
    let count_f : length f.script ≡ d = f.counts in
    let count_g : length g.script ≡ d' = g.counts in
    let ef = front_script ts f.front f.rest f.script f.split f.spelled in
    let eg = front_script ts g.front g.rest g.script g.split g.spelled in
    let on : GoesOn f.script g.script (kinds f.rest) (kinds g.rest) = longer_script f.script g.script (kinds f.rest) (kinds g.rest) f.spelled.each g.spelled.each (omega arith) (sym ef ∙ eg) in
    let none : length on.more ≡ 0 = omega (arith, ap length on.is, length-append f.script on.more) in
    let left : kinds f.rest ≡ kinds g.rest = no_more on.more (kinds f.rest) (kinds g.rest) none on.left in
    let size : length f.rest ≡ length g.rest = sym (kinds-length f.rest) ∙ ap length left ∙ kinds-length g.rest in
    let rests : f.rest ≡ g.rest = same_end f.front f.rest g.front g.rest (sym f.split ∙ g.split) size in
    let bytes : ◌≡◌ {A = Option ℕ} (Some byte) (Some byte') = sym f.at ∙ ap (λ r. byte_of r bad) rests ∙ g.at in
    (omega arith, cc bytes)

-- a byte is told where a token is left
rest_some : (rest : List Token) (bad : Option ℕ) (byte : ℕ) → bad ≡ None → byte_of rest bad ≡ Some byte → 1 ≤ length rest
rest_some [] bad byte none e = cc
rest_some (t ∷ rest) bad byte none e = omega arith

-- a text that spells a script has no fault
pub whole_no_fault : (ts : List Token) (bad : Option ℕ) (script : ScriptTree) (d byte : ℕ) → WholeScript ts bad script → SyntaxFault ts bad d byte → ⊥
whole_no_fault ts bad script d byte whole f =
    let most : length script ≤ d = f.greatest ts [] script (sym (append-nil ts)) whole.spelled in
    let count : length f.script ≡ d = f.counts in
    let e = front_script ts f.front f.rest f.script f.split f.spelled in
    let on : GoesOn script f.script [] (kinds f.rest) = longer_script script f.script [] (kinds f.rest) whole.spelled.each f.spelled.each (omega arith) (sym whole.spelled.is ∙ e) in
    let some : 1 ≤ length f.rest = rest_some f.rest bad byte whole.whole f.at in
    absurd (omega (arith, ap length on.left, script_grows on.more (kinds f.rest), kinds-length f.rest))
