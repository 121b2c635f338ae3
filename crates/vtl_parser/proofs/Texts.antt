-- What a text is, is determined.
use Rattle.std.proofs.Common.{◌≡◌, ◌∙◌, ℕ, ◌≤◌, ◌-◌, List, [], ◌∷◌, ◌++◌, Option, None, Some, length, length-append, take, drop, ap, arith, refl, subst, sym}
use Rattle.std.proofs.Math.Seq.{drop-append_seam}
use Rattle.std.proofs.lemmas.List.{drop-map, take-append-drop, take_rest}
use Rattle.vtl_grammar.proofs.AppendExpressions.{script-append}
use Rattle.vtl_grammar.proofs.ScriptLemmas.{script_read-fault, script_read-sound, script_read-spells}
use Rattle.vtl_grammar.proofs.UniqueLemmas.{fault_determined, spells_unique, whole_no_fault, kinds-length}
use Rattle.vtl_grammar.specs.Faults.{SyntaxFault, WholeScript, byte_of, kinds}
use Rattle.vtl_grammar.specs.Grammar.{Tokens, tokens_of}
use Rattle.vtl_grammar.specs.ReadStatements.{script_read}
use Rattle.vtl_lexer.proofs.LexedLemmas.{lexed-once}
use Rattle.vtl_lexer.specs.declared.token.Token.{Token}
use Rattle.vtl_parser.specs.Parsed.{IsFaulty, IsScript}
use Rattle.vtl_syntax.specs.Trees.{ScriptTree}

-- a script by other tokens of the text, and a fault
whole_by : (tokens others : List Token) (bad worse : Option ℕ) (script : ScriptTree) → (tokens ≡ others) × (bad ≡ worse) → WholeScript tokens bad script → WholeScript others worse script
whole_by tokens others bad worse script e w = subst (λ b. WholeScript others b script) e.1 (subst (λ ts. WholeScript ts bad script) e.0 w)

fault_by : (tokens others : List Token) (bad worse : Option ℕ) (done byte : ℕ) → (tokens ≡ others) × (bad ≡ worse) → SyntaxFault tokens bad done byte → SyntaxFault others worse done byte
fault_by tokens others bad worse done byte e f = subst (λ b. SyntaxFault others b done byte) e.1 (subst (λ ts. SyntaxFault ts bad done byte) e.0 f)

pub one_script : (text : List ℕ) (a b : ScriptTree) → IsScript text a → IsScript text b → a ≡ b
one_script text a b s t =
    let same = lexed-once text s.tokens t.tokens s.bad t.bad s.lexed t.lexed in
    let whole = whole_by s.tokens t.tokens s.bad t.bad a same s.whole in
    spells_unique (kinds t.tokens) a b whole.spelled t.whole.spelled

pub not_both : (text : List ℕ) (script : ScriptTree) (done byte : ℕ) → IsScript text script → IsFaulty text done byte → ⊥
not_both text script done byte s f =
    let same = lexed-once text s.tokens f.tokens s.bad f.bad s.lexed f.lexed in
    whole_no_fault f.tokens f.bad script done byte (whole_by s.tokens f.tokens s.bad f.bad script same s.whole) f.fault

pub one_fault : (text : List ℕ) (done byte other at : ℕ) → IsFaulty text done byte → IsFaulty text other at → (done ≡ other) × (byte ≡ at)
one_fault text done byte other at f g =
    let same = lexed-once text f.tokens g.tokens f.bad g.bad f.lexed g.lexed in
    fault_determined g.tokens g.bad done other byte at (fault_by f.tokens g.tokens f.bad g.bad done byte same f.fault) g.fault

-- ---- the tokens that reading leaves are the last ones

-- as many tokens are left as the others make of them
all_spelled : (ts rest : List Token) (script : ScriptTree) → script_read (kinds ts) ≡ (script, kinds rest) → (front : Tokens) × (kinds ts ≡ front ++ kinds rest)
all_spelled ts rest script e =
    let is = script_read-sound (kinds ts) in
    let whole : kinds ts ≡ tokens_of is.others ++ (script_read (kinds ts)).1 = is.spelled ∙ script-append is.others [] (script_read (kinds ts)).1 in
    (tokens_of is.others, whole ∙ ap (λ p. tokens_of is.others ++ p.1) e)

pub left_fits : (ts rest : List Token) (script : ScriptTree) → script_read (kinds ts) ≡ (script, kinds rest) → length rest ≤ length ts
left_fits ts rest script e =
    let whole = all_spelled ts rest script e in
    omega (arith, ap length whole.1, length-append whole.0 (kinds rest), kinds-length ts, kinds-length rest)

-- what follows a list's front
behind : (a b : Tokens) (n : ℕ) → n ≡ length a → drop n (a ++ b) ≡ b
behind a b n e = rw e (drop-append_seam a b)

pub left_read : (ts rest : List Token) (script : ScriptTree) (n : ℕ) → n ≡ length ts - length rest → script_read (kinds ts) ≡ (script, kinds rest) → script_read (kinds ts) ≡ (script, kinds (drop n ts))
unfolding kinds
left_read ts rest script n is e =
    let whole = all_spelled ts rest script e in
    let size : n ≡ length whole.0 = omega (arith, is, ap length whole.1, length-append whole.0 (kinds rest), kinds-length ts, kinds-length rest) in
    let left : kinds (drop n ts) ≡ kinds rest = sym (drop-map (λ t. t.kind) n ts) ∙ ap (drop n) whole.1 ∙ behind whole.0 (kinds rest) n size in
    e ∙ ap (λ us. (script, us)) (sym left)

-- ---- the answer for tokens

nothing_left : (left : List Token) (bad : Option ℕ) → byte_of left bad ≡ None → (left ≡ []) × (bad ≡ None)
nothing_left [] bad e = (refl, e)
nothing_left (t ∷ left) bad e = cc

pub whole_script : (ts left : List Token) (bad : Option ℕ) (script : ScriptTree) → script_read (kinds ts) ≡ (script, kinds left) → byte_of left bad ≡ None → WholeScript ts bad script
unfolding kinds
whole_script ts left bad script e none =
    let both = nothing_left left bad none in
    record { whole = both.1; spelled = script_read-spells (kinds ts) script (e ∙ ap (λ us. (script, kinds us)) both.0) }

pub faulty : (ts : List Token) (n : ℕ) (bad : Option ℕ) (script : ScriptTree) (byte : ℕ) → script_read (kinds ts) ≡ (script, kinds (drop n ts)) → byte_of (drop n ts) bad ≡ Some byte → SyntaxFault ts bad (length script) byte
faulty ts n bad script byte e at = script_read-fault ts (take n ts) (drop n ts) bad script byte e (sym (take-append-drop n ts)) at

read_is : (p q : ScriptTree × Tokens) → ◌≡◌ {A = Option (ScriptTree × Tokens)} (Some p) (Some q) → p ≡ q
read_is p q e = cc

pub slice_fits : (ts rest : List Token) (script : ScriptTree) → ◌≡◌ {A = Option (ScriptTree × Tokens)} (Some (script_read (kinds ts))) (Some (script, kinds rest)) → length rest ≤ length ts
slice_fits ts rest script e = left_fits ts rest script (read_is (script_read (kinds ts)) (script, kinds rest) e)

pub told_script : (ts rest : List Token) (bad : Option ℕ) (script : ScriptTree) → ◌≡◌ {A = Option (ScriptTree × Tokens)} (Some (script_read (kinds ts))) (Some (script, kinds rest))
    → (let n = length ts - length rest in byte_of (take (length ts - n) (drop n ts)) bad ≡ None) → WholeScript ts bad script
told_script ts rest bad script e none =
    let n : ℕ = length ts - length rest in
    whole_script ts (drop n ts) bad script (left_read ts rest script n refl (read_is (script_read (kinds ts)) (script, kinds rest) e)) (ap (λ us. byte_of us bad) (sym (take_rest ts n)) ∙ none)

pub told_fault : (ts rest : List Token) (bad : Option ℕ) (script : ScriptTree) (byte : ℕ) → ◌≡◌ {A = Option (ScriptTree × Tokens)} (Some (script_read (kinds ts))) (Some (script, kinds rest))
    → (let n = length ts - length rest in byte_of (take (length ts - n) (drop n ts)) bad ≡ Some byte) → SyntaxFault ts bad (length script) byte
told_fault ts rest bad script byte e at =
    let n : ℕ = length ts - length rest in
    faulty ts n bad script byte (left_read ts rest script n refl (read_is (script_read (kinds ts)) (script, kinds rest) e)) (ap (λ us. byte_of us bad) (sym (take_rest ts n)) ∙ at)
