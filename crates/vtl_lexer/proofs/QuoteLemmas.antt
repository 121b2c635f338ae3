-- The quoted name and the string at the front of a text.
use Rattle.std.proofs.Common.{◌≡◌, ◌≤◌, ◌<◌, ◌+◌, ◌-◌, ◌∷◌, ◌++◌, ◌∙◌, ◌==◌, [], ℕ, List, true, false, not, length, take, drop, chars, sym, ap, subst, refl, arith, append_assoc, length-append, IsUtf8}
use Rattle.std.specs.Str.{IsCharBoundary}
use Rattle.std.proofs.Math.Seq.{take-append_seam}
use Rattle.std.proofs.lemmas.Bool.{false≢true}
use Rattle.std.proofs.lemmas.List.{length-take-le}
use Rattle.vtl_text.specs.Words.{is_component_name, quoted}
use Rattle.vtl_lexer.specs.Found.{IsTokenOf}
use Rattle.vtl_lexer.specs.Leads.{lead_of}
use Rattle.vtl_lexer.specs.Searches.{StandsFirst}
use Rattle.vtl_lexer.specs.Spelling.{Lacks, Spells, doubled}
use Rattle.vtl_lexer.specs.Strings.{EndsAt, EndsNowhere, IsLongestEnd}
use Rattle.vtl_lexer.specs.Tokens.{IsToken, NoToken}
use Rattle.vtl_lexer.specs.declared.lead.Lead.TheVariants.{Quote, DoubleQuote}
use Rattle.vtl_lexer.specs.declared.token.TokenKind.{TokenKind}
use Rattle.vtl_lexer.specs.declared.token.TokenKind.TheVariants as k
use Rattle.vtl_lexer.proofs.CutLemmas.{cut-after, cut-before}
use Rattle.vtl_lexer.proofs.LeadLemmas.{double-first, quote-first}
use Rattle.vtl_lists.proofs.Runs.{run-same}
use Rattle.vtl_lexer.proofs.NumberLemmas.{never, token-of}
use Rattle.vtl_lexer.proofs.SpellingLemmas.{front-lead, lead_kind}
use Rattle.vtl_lexer.proofs.StringLemmas.{lacks-split}

-- a text may be cut behind its quote
pub cut-first : (text rest : List ℕ) (byte : ℕ) → IsUtf8 text → text ≡ byte ∷ rest → byte < 128 → IsCharBoundary text 1
cut-first text rest byte u e ascii = cut-after text [] rest byte u e ascii

pub cut-place : (byte : ℕ) (text : List ℕ) (place : ℕ) → StandsFirst byte text place → byte < 128 → IsCharBoundary text place
cut-place byte text place found ascii =
    subst (IsCharBoundary text) (length-take-le place text (omega (arith, found.within))) (cut-before text (take place text) (drop (place + 1) text) byte found.split ascii)

-- what a quoted name that starts here spells
record Quoted (text : List ℕ) (kind : TokenKind) (bytes rest : List ℕ) : Type 0 where
  name : List ℕ
  inner : List ℕ
  is : kind ≡ k.QuotedName name
  spells : bytes ≡ quoted inner
  lacks : Lacks 39 inner
  named : name ≡ chars inner
  fits : is_component_name name ≡ true
  split : drop 1 text ≡ inner ++ 39 ∷ rest

quote-kind : (kind : TokenKind) (text bytes rest : List ℕ) → lead_kind kind ≡ Quote → text ≡ bytes ++ rest → Spells kind bytes → Quoted text kind bytes rest
quote-kind (k.QuotedName name) text bytes rest lead e spelled =
    let (inner, spells, lacks, named, fits) = spelled in
    record {
      name = name;
      inner = inner;
      is = refl;
      spells = spells;
      lacks = lacks;
      named = named;
      fits = fits;
      split = ap (drop 1) (e ∙ ap (λ l. l ++ rest) spells) ∙ append_assoc inner (39 ∷ []) rest;
    }
quote-kind kind text bytes rest lead e spelled = absurd (cc lead)

quote-of : (kind : TokenKind) (text bytes rest : List ℕ) → lead_of text ≡ Quote → text ≡ bytes ++ rest → Spells kind bytes → Quoted text kind bytes rest
quote-of kind text bytes rest lead e spelled = quote-kind kind text bytes rest (sym (front-lead kind text bytes rest e spelled) ∙ lead) e spelled

-- it ends at the first quote
quote-inner : (text : List ℕ) (size : ℕ) (kind : TokenKind) (bytes rest : List ℕ) → StandsFirst 39 (drop 1 text) size → (q : Quoted text kind bytes rest) → take size (drop 1 text) ≡ q.inner
quote-inner text size kind bytes rest found q =
    (run-same (λ other. not (other == 39)) (take size (drop 1 text)) (39 ∷ drop (size + 1) (drop 1 text)) q.inner (39 ∷ rest) (sym found.split ∙ q.split) found.lacks refl q.lacks refl).0

pub quote-unclosed : (text : List ℕ) → lead_of text ≡ Quote → Lacks 39 (drop 1 text) → NoToken text
quote-unclosed text lead lacks kind bytes rest e token =
    let q = quote-of kind text bytes rest lead e token.spelled in
    lacks-split 39 q.inner rest (subst (Lacks 39) q.split lacks)

pub quote-unfit : (text : List ℕ) (size : ℕ) → lead_of text ≡ Quote → StandsFirst 39 (drop 1 text) size → is_component_name (chars (take size (drop 1 text))) ≡ false → NoToken text
quote-unfit text size lead found unfit kind bytes rest e token =
    let q = quote-of kind text bytes rest lead e token.spelled in
    let is = quote-inner text size kind bytes rest found q in
    false≢true (sym unfit ∙ ap is_component_name (ap chars is ∙ sym q.named) ∙ q.fits)

pub quote-token : (text name : List ℕ) (size : ℕ) → lead_of text ≡ Quote → StandsFirst 39 (drop 1 text) size → is_component_name (chars (take size (drop 1 text))) ≡ true
    → name ≡ chars (take size (drop 1 text)) → IsTokenOf text (record { kind = k.QuotedName name; size = size + 2 })
quote-token text name size lead found fits named =
    let inner = take size (drop 1 text) in
    let rest = drop (size + 1) (drop 1 text) in
    let split : text ≡ quoted inner ++ rest = quote-first text lead ∙ ap (λ l. 39 ∷ l) (found.split ∙ sym (append_assoc inner (39 ∷ []) rest)) in
    let sizes : length (quoted inner) ≡ size + 2 = omega (arith, length-append inner (39 ∷ []), length-take-le size (drop 1 text) (omega (arith, found.within))) in
    let token : IsToken (k.QuotedName name) (quoted inner) rest = record {
      spelled = (inner, refl, found.lacks, named, ap is_component_name named ∙ fits);
      ends = never rest;
      longest = λ other more behind e spelled.
          let q = quote-of other text more behind lead (split ∙ e) spelled in
          let is = quote-inner text size other more behind found q in
          omega (arith, ap length q.spells, ap (λ l. length (quoted l)) is);
    } in
    subst (λ n. IsTokenOf text (record { kind = k.QuotedName name; size = n })) sizes (token-of (k.QuotedName name) text (quoted inner) rest split token)

-- what a string that starts here spells
record Strung (text : List ℕ) (kind : TokenKind) (bytes rest : List ℕ) : Type 0 where
  held : List ℕ
  is : kind ≡ k.String held
  ends : EndsAt (drop 1 text) (length bytes - 2)
  some : 2 ≤ length bytes

string-kind : (kind : TokenKind) (text bytes rest : List ℕ) → lead_kind kind ≡ DoubleQuote → text ≡ bytes ++ rest → Spells kind bytes → Strung text kind bytes rest
string-kind (k.String held) text bytes rest lead e spelled =
    let (inner, spells, named) = spelled in
    let sizes : length bytes ≡ length (doubled inner) + 2 = omega (arith, ap length spells, length-append (doubled inner) (34 ∷ [])) in
    record {
      held = held;
      is = refl;
      ends = record {
        inner = inner;
        rest = rest;
        split = ap (drop 1) (e ∙ ap (λ l. l ++ rest) spells) ∙ append_assoc (doubled inner) (34 ∷ []) rest;
        is = omega (arith, sizes);
      };
      some = omega (arith, sizes);
    }
string-kind kind text bytes rest lead e spelled = absurd (cc lead)

string-of : (kind : TokenKind) (text bytes rest : List ℕ) → lead_of text ≡ DoubleQuote → text ≡ bytes ++ rest → Spells kind bytes → Strung text kind bytes rest
string-of kind text bytes rest lead e spelled = string-kind kind text bytes rest (sym (front-lead kind text bytes rest e spelled) ∙ lead) e spelled

pub string-unclosed : (text : List ℕ) → lead_of text ≡ DoubleQuote → EndsNowhere (drop 1 text) → NoToken text
string-unclosed text lead none kind bytes rest e token =
    let q = string-of kind text bytes rest lead e token.spelled in
    none (length bytes - 2) q.ends

pub string-token : (text held : List ℕ) (size : ℕ) → lead_of text ≡ DoubleQuote → (found : IsLongestEnd (drop 1 text) size) → held ≡ chars found.ends.inner
    → IsTokenOf text (record { kind = k.String held; size = size + 2 })
string-token text held size lead found named =
    let inner = found.ends.inner in
    let rest = found.ends.rest in
    let bytes = 34 ∷ (doubled inner ++ 34 ∷ []) in
    let split : text ≡ bytes ++ rest = double-first text lead ∙ ap (λ l. 34 ∷ l) (found.ends.split ∙ sym (append_assoc (doubled inner) (34 ∷ []) rest)) in
    let sizes : length bytes ≡ size + 2 = omega (arith, length-append (doubled inner) (34 ∷ []), found.ends.is) in
    let token : IsToken (k.String held) bytes rest = record {
      spelled = (inner, refl, named);
      ends = never rest;
      longest = λ other more behind e spelled.
          let q = string-of other text more behind lead (split ∙ e) spelled in
          omega (arith, found.longest (length more - 2) q.ends, q.some, sizes);
    } in
    subst (λ n. IsTokenOf text (record { kind = k.String held; size = n })) sizes (token-of (k.String held) text bytes rest split token)

-- the place of its last quote
pub end-cut : (text : List ℕ) (place : ℕ) → EndsAt text place → IsCharBoundary text place
end-cut text place ends = subst (IsCharBoundary text) (sym ends.is) (cut-before text (doubled ends.inner) ends.rest 34 ends.split (omega arith))

pub end-front : (text : List ℕ) (place : ℕ) → (ends : EndsAt text place) → take place text ≡ doubled ends.inner
end-front text place ends = ap (λ n. take n text) ends.is ∙ ap (take (length (doubled ends.inner))) ends.split ∙ take-append_seam (doubled ends.inner) (34 ∷ ends.rest)
