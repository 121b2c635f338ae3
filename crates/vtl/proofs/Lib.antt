pub mod FallingRows
