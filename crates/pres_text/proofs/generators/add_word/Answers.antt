use Rattle.std.proofs.Common.{◌≡◌, ◌∙◌, ap, ℕ, List, option_map, IfSome, IfNone, subst, sym}
use Rattle.std.proofs.lemmas.Str.{IsUtf8-from_ascii}
use Rattle.nil_pres.specs.Presented.{Draft, name_fault_of}
use Rattle.pres_text.specs.declared.pres_fault.PresFault.{PresFault}
use Rattle.pres_text.specs.declared.pres_fault.PresFault.TheVariants.{File, Memory}
use Rattle.pres_text.specs.FirstFault.{name_fault}
use Rattle.pres_text.specs.Reading.{name_fault_at}
use Rattle.pres_text.proofs.Faults.{failed, name_fault-builder, handed_fault, handed_fine}
use Rattle.pres_text.proofs.generators.add_word.Goals as goal

same : (n : ℕ) (d : Draft) (w name : List ℕ) → name ≡ w → option_map (λ k. File n k) (name_fault d.names w) ≡ option_map (name_fault_at n) (name_fault_of d name)
same n d w name e = name_fault-builder n d.names w ∙ ap (λ v. option_map (name_fault_at n) (name_fault_of d v)) (sym e)

pub unreachable-requires : goal.unreachable-requires
unreachable-requires c = c.in_default.ensures.cases.0 (IsUtf8-from_ascii c.args.word.now c.requires)

pub returns-in-Err-clause-fault : goal.returns-in-Err-clause-fault
returns-in-Err-clause-fault c =
    subst (λ (f : PresFault). IfSome (name_fault c.args.builder.now.names c.args.word.now) (λ k. failed f ≡ failed (File c.args.line k))) (sym c.name_fault_at.ensures)
    (handed_fault c.args.line (name_fault c.args.builder.now.names c.args.word.now) (name_fault_of c.args.builder.now c.in-Ok.name.now) c.add_name.result c.in-Err.fault (same c.args.line c.args.builder.now c.args.word.now c.in-Ok.name.now c.in-Ok.ensures.cases.0) c.in-Err.is c.add_name.ensures.refused)

pub returns-in-Err-clause-fine : goal.returns-in-Err-clause-fine
returns-in-Err-clause-fine c =
    subst (λ (f : PresFault). IfNone (name_fault c.args.builder.now.names c.args.word.now) (f ≡ Memory)) (sym c.name_fault_at.ensures)
    (handed_fine c.args.line (name_fault c.args.builder.now.names c.args.word.now) (name_fault_of c.args.builder.now c.in-Ok.name.now) c.add_name.result c.in-Err.fault (same c.args.line c.args.builder.now c.args.word.now c.in-Ok.name.now c.in-Ok.ensures.cases.0) c.in-Err.is c.add_name.ensures.taken)
