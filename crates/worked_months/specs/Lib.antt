pub mod Months
