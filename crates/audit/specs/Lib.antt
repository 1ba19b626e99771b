pub mod Audits
pub mod Histories
pub mod LastPosts
pub mod Laws
pub mod Runs
pub mod States
