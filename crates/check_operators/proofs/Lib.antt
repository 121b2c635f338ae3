pub mod OperatorLemmas
