use Rattle.std.proofs.Common.{◌≡◌, drop}
use Rattle.nil_io.specs.Files.{contents_of, views}
use Rattle.nil_io.proofs.files.named.Given as goal

abbrev pub invariant-loop-file : goal.invariant-loop-file
invariant-loop-file l = contents_of (views l.fn.files) l.fn.name ≡ contents_of (views (drop l.file-index l.files)) l.fn.name
