mod Bases
mod BaseValues
mod AskedSoFar
mod Reaching
mod Alike
mod Outcomes
mod Passages
mod Descending
