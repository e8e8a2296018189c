-- A text has a byte for each leaf, and its length fits.
use Rattle.std.proofs.Common.{length, ap, arith}
use Rattle.dt_letters.specs.Arena.{letter_in}
use Rattle.dt_letters.proofs.Listings.{leaf_count-text_of}
use Rattle.dt_letters.proofs.letters.Letters.row.Goals as goal

pub leaf_count-leaves-requires-clause-small : goal.leaf_count-leaves-requires-clause-small
leaf_count-leaves-requires-clause-small c =
    omega (
      arith,
      leaf_count-text_of (letter_in c.args.self.now c.args.tree),
      ap length c.in_ok-text.ensures,
      ap length c.as_str-bytes.ensures.value,
    )
