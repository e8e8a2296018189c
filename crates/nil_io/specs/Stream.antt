-- Bytes in memory that are given in pieces.
--   Stream   the bytes that are left, the greatest piece, and how many bytes were given
use Rattle.std.specs.Prelude.{ℕ, List}

pub record Stream : Type 0 where
  pub left : List ℕ
  pub piece : ℕ
  pub given : ℕ
