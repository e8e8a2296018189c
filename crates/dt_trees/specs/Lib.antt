pub mod Ways
pub mod Known
pub mod Polynomials
pub mod Overflowing
