pub mod Included
pub mod Telling
