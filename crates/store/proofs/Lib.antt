pub mod Alterations
pub mod Kept
pub mod Parts
pub mod Peaks
pub mod Places
pub mod Stretches
pub mod Views
pub mod Windows
