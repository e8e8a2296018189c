pub mod Terms
pub mod Agreeing
pub mod Shaping
pub mod Giving
pub mod Same
