pub mod Fronts
pub mod KindSums
pub mod Sums
pub mod Texts
pub mod Turns
pub mod Written
