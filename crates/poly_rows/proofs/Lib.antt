mod Halves
mod Covering
mod Singles
