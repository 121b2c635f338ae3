pub mod LineLemmas
mod NumberText
