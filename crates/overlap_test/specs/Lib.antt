pub mod Ways
pub mod Room
pub mod Verdict
pub mod Inconsistent
pub mod Commuting
pub mod Laws
