pub mod AsciiLemmas
pub mod NumberLemmas
pub mod TypeTexts
