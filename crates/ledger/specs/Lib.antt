pub mod Constants
pub mod Entries
pub mod Ledgers
pub mod Texts
