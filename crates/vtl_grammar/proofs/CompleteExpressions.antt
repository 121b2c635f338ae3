-- Each expression that may stand at a level is read there at a budget of its depth, where what follows does not go on with it.
use Rattle.std.proofs.Common.{◌≡◌, ◌∙◌, ℕ, zero, suc, ◌≤◌, ◌-◌, max, min, ◌∷◌, Some, None, refl, arith}
use Rattle.vtl_lexer.specs.declared.keyword.Keyword.TheVariants as keyword
use Rattle.vtl_lexer.specs.declared.token.TokenKind.TheVariants as token
use Rattle.vtl_syntax.specs.Depth.{exp_depth}
use Rattle.vtl_syntax.specs.Trees as tree
use Rattle.vtl_syntax.specs.Trees.{Exp}
use Rattle.vtl_syntax.proofs.DepthLemmas.{some_depth}
use Rattle.vtl_grammar.specs.Fits.{Fits}
use Rattle.vtl_grammar.specs.Grammar.{Tokens, exp_onto}
use Rattle.vtl_grammar.specs.Levels.{Within}
use Rattle.vtl_grammar.specs.Reading.{Gets, got, is_keyword, after_keyword}
use Rattle.vtl_grammar.specs.ReadExpressions.{choice, choice_or, unary_at, multiply_at, add_at, compare_at, and_at, or_at, read_level, read}
use Rattle.vtl_grammar.specs.declared.levels.Level.{Level}
use Rattle.vtl_grammar.specs.declared.levels.Level.TheVariants as level
use Rattle.vtl_grammar.proofs.CompleteBase.{Lacks, lacks_keyword, CompleteGets}
use Rattle.vtl_grammar.proofs.CompleteChains.{CompleteAt, postfix_complete, prefixed_complete, chain_complete}
use Rattle.vtl_grammar.proofs.CompleteLevels.{goes_on, within_all, stops_within, operator_tight, starts, if_start}
use Rattle.vtl_grammar.proofs.CompletePrimary.{primary_complete}

abbrev pub AllComplete : ℕ → (Level → Gets Exp) → Type 0
AllComplete n inner = (l : Level) → CompleteAt n l (inner l)

module _ (n : ℕ) (inner : Level → Gets Exp) (reads : AllComplete n inner) where
  part_complete : CompleteGets n (inner level.Expression) exp_onto Fits exp_depth (goes_on level.Expression)
  part_complete e rest fits shallow stops = reads level.Expression e rest (within_all e) fits shallow stops

  unary_complete : CompleteAt (suc n) level.Unary (unary_at n inner)
  unfolding unary_at
  unary_complete = prefixed_complete n (inner level.Expression) part_complete (inner level.Unary) (reads level.Unary)

  multiply_complete : CompleteAt (suc n) level.Multiply (multiply_at n inner)
  unfolding multiply_at
  multiply_complete = chain_complete n level.Multiply (omega arith) (omega arith) (unary_at n inner) (inner level.Unary) unary_complete (reads level.Unary)

  add_complete : CompleteAt (suc n) level.Add (add_at n inner)
  unfolding add_at
  add_complete = chain_complete n level.Add (omega arith) (omega arith) (multiply_at n inner) (inner level.Multiply) multiply_complete (reads level.Multiply)

  compare_complete : CompleteAt (suc n) level.Compare (compare_at n inner)
  unfolding compare_at
  compare_complete = chain_complete n level.Compare (omega arith) (omega arith) (add_at n inner) (inner level.Add) add_complete (reads level.Add)

  and_complete : CompleteAt (suc n) level.And (and_at n inner)
  unfolding and_at
  and_complete = chain_complete n level.And (omega arith) (omega arith) (compare_at n inner) (inner level.Compare) compare_complete (reads level.Compare)

  or_complete : CompleteAt (suc n) level.Or (or_at n inner)
  unfolding or_at
  or_complete = chain_complete n level.Or (omega arith) (omega arith) (and_at n inner) (inner level.And) and_complete (reads level.And)

  no_choice : (ts : Tokens) → after_keyword keyword.If ts ≡ None → choice_or (inner level.Expression) (or_at n inner) ts ≡ or_at n inner ts
  unfolding choice_or
  no_choice ts h = rw h refl

  otherwise_complete : (e : Exp) (rest : Tokens) → Within level.Or e → Fits e → exp_depth e ≤ suc n → Lacks (goes_on level.Expression) rest
      → choice_or (inner level.Expression) (or_at n inner) (exp_onto e rest) ≡ Some (got e (suc n - exp_depth e) rest)
  otherwise_complete e rest within fits shallow stops =
      no_choice (exp_onto e rest) (lacks_keyword keyword.If (exp_onto e rest) (starts level.Or (is_keyword keyword.If) if_start e within fits rest))
      ∙ or_complete e rest within fits shallow (stops_within level.Expression level.Or (omega arith) rest stops)

  choice_complete : CompleteAt (suc n) level.Expression (choice_or (inner level.Expression) (or_at n inner))
  unfolding choice_or choice after_keyword
  choice_complete (tree.if_then c a b) rest within fits shallow stops =
      let s : min (n - exp_depth c) (min (n - exp_depth a) (n - exp_depth b)) ≡ suc n - suc (max (exp_depth c) (max (exp_depth a) (exp_depth b))) = omega arith in
      let other = token.Keyword keyword.Else ∷ exp_onto b rest in
      rw (part_complete c (token.Keyword keyword.Then ∷ exp_onto a other) fits.0 (omega arith) refl, part_complete a other fits.1 (omega arith) refl, part_complete b rest fits.2 (omega arith) stops, s) refl
  choice_complete (tree.binary l o r) rest within fits shallow stops = otherwise_complete (tree.binary l o r) rest (operator_tight o) fits shallow stops
  choice_complete e rest within fits shallow stops = otherwise_complete e rest (omega arith) fits shallow stops

  level_complete : AllComplete (suc n) (read_level n inner)
  unfolding read_level
  level_complete level.Primary e rest within fits shallow stops = primary_complete n (inner level.Expression) part_complete e rest within fits shallow
  level_complete level.Postfix e rest within fits shallow stops = postfix_complete n (inner level.Expression) part_complete e rest within fits shallow stops
  level_complete level.Unary e rest within fits shallow stops = unary_complete e rest within fits shallow stops
  level_complete level.Multiply e rest within fits shallow stops = multiply_complete e rest within fits shallow stops
  level_complete level.Add e rest within fits shallow stops = add_complete e rest within fits shallow stops
  level_complete level.Compare e rest within fits shallow stops = compare_complete e rest within fits shallow stops
  level_complete level.And e rest within fits shallow stops = and_complete e rest within fits shallow stops
  level_complete level.Or e rest within fits shallow stops = or_complete e rest within fits shallow stops
  level_complete level.Expression e rest within fits shallow stops = choice_complete e rest within fits shallow stops

-- ---- every expression is read
pub read_complete : (n : ℕ) → AllComplete n (read n)
unfolding read
read_complete zero l e rest within fits shallow stops = absurd (omega (arith, some_depth e))
read_complete (suc n) l e rest within fits shallow stops = level_complete n (read n) (read_complete n) l e rest within fits shallow stops
