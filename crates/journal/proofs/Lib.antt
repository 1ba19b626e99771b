pub mod Texts
pub mod Parsing
pub mod ReadsBack
pub mod LineOrder
pub mod LineWords
pub mod VerbWords
