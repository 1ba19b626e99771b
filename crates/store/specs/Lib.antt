pub mod Constants
pub mod Facts
pub mod Months
pub mod Posts
pub mod Records
pub mod Rows
pub mod Stores
