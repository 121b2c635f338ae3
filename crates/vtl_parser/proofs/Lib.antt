pub mod ParsedLemmas
pub mod RuleTurns
pub mod SignedTurns
pub mod SpelledParts
pub mod SpelledTrees
pub mod StatementTurns
pub mod Texts
pub mod WrittenLemmas
