use Rattle.std.proofs.Common.{◌≡◌, length}
use Rattle.std.specs.Str.{IsAscii}
use Rattle.pres_text.specs.Lines.{words}
use Rattle.pres_text.specs.FirstFault.{names_fault}
use Rattle.pres_text.specs.Reading.{named}
use Rattle.pres_text.proofs.generators.add_words.Given as goal

abbrev pub invariant-names : goal.invariant-names
invariant-names l = record {
  fault : names_fault l.fn.builder.names (words l.fn.names) ≡ names_fault l.builder.names (words l.rest);
  draft : named l.fn.builder (words l.fn.names) ≡ named l.builder (words l.rest);
  ascii : IsAscii l.rest;
}

abbrev pub decreases-names : goal.decreases-names
decreases-names l = length l.rest
