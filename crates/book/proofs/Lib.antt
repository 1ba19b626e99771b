pub mod Exits
pub mod Left
pub mod Posted
pub mod Priced
pub mod Unbilled
pub mod Written
