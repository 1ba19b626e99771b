pub mod Cents
pub mod ChargeBounds
pub mod DraftFigures
pub mod FromFn
pub mod Nearest
pub mod Products
pub mod Sums
