pub mod Answers
pub mod Calls
pub mod Entries
pub mod Piles
pub mod Prices
pub mod Runs
pub mod Sheets
