pub mod Rates
pub mod Riders
pub mod Piles
pub mod RateLaws
pub mod RiderLaws
pub mod PileLaws
