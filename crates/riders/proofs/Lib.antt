pub mod Numbers
pub mod Parts
pub mod Running
pub mod Rounded
