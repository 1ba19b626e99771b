pub mod Credit
pub mod Energy
pub mod Percent
pub mod Riders
pub mod Bounds
