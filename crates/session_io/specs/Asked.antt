-- What a session is asked for, and what it sees of the outside.
--   texts words        the bytes of each word
--   Asked, asked ..    the words, and what the shelf shows before a session and after it
--   Fed, fed ..        what the source shows before it and after it
--   IsUntouched f      the source is as it was, and so are its counts
-- a what is asked for · f what is fed; a prime marks what is shown afterwards
use Rattle.std.specs.Prelude.{◌≡◌, ℕ, List, map, String, Vec, string_bytes, Option}
use Rattle.std.specs.declared.alloc.Global.{Global}

abbrev pub texts : Vec (String Global) Global → List (List ℕ)
texts words = map string_bytes words.items

pub record Asked : Type 0 where
  pub words : List (List ℕ)
  pub contents : List ℕ → Option (List ℕ)
  pub faults : List ℕ → ℕ
  pub faults' : List ℕ → ℕ
  pub longs : List ℕ → ℕ → ℕ
  pub longs' : List ℕ → ℕ → ℕ

pub record Fed : Type 0 where
  pub left : Option (List ℕ)
  pub left' : Option (List ℕ)
  pub faults : ℕ
  pub faults' : ℕ
  pub given : ℕ
  pub given' : ℕ

abbrev pub asked : List (List ℕ) → (List ℕ → Option (List ℕ)) → (List ℕ → ℕ) → (List ℕ → ℕ)
    → (List ℕ → ℕ → ℕ) → (List ℕ → ℕ → ℕ) → Asked
asked words contents faults faults' longs longs' = record {
  words = words;
  contents = contents;
  faults = faults;
  faults' = faults';
  longs = longs;
  longs' = longs';
}

abbrev pub fed : Option (List ℕ) → Option (List ℕ) → ℕ → ℕ → ℕ → ℕ → Fed
fed left left' faults faults' given given' = record {
  left = left;
  left' = left';
  faults = faults;
  faults' = faults';
  given = given;
  given' = given';
}

pub record IsUntouched (f : Fed) : Type 0 where
  pub left : f.left' ≡ f.left
  pub faults : f.faults' ≡ f.faults
  pub given : f.given' ≡ f.given
