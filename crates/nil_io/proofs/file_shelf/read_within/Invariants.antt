use Rattle.std.proofs.Common.{◌+◌, ◌-◌, vec_len}
use Rattle.nil_io.proofs.file_shelf.read_within.Given as goal

abbrev pub decreases-reading : goal.decreases-reading
decreases-reading g l = (l.fn.limit + 1) - vec_len l.bytes
