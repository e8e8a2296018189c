use Rattle.std.proofs.Common.{◌≡◌, ◌∷◌, ◌++◌, [], Option, IfSome, IfNone, subst, sym, ap, ◌∙◌}
use Rattle.std.proofs.lemmas.Result.{err_from_is_err_and}
use Rattle.pres_text.specs.declared.file_kind.FileKind.{FileKind}
use Rattle.pres_text.specs.declared.pres_fault.PresFault.TheVariants.{File, Memory}
use Rattle.pres_text.specs.Lines.{words}
use Rattle.pres_text.specs.FirstFault.{name_fault, names_fault}
use Rattle.pres_text.proofs.Faults.{GivesOnly, failed, first_failed, first_failed_fine}
use Rattle.pres_text.proofs.generators.add_words.Goals as goal

pub returns-in_err-add_word-clause-fault : goal.returns-in_err-add_word-clause-fault
returns-in_err-add_word-clause-fault c =
    let p = err_from_is_err_and c.from_residual.result c.from_residual.ensures.1 in
    rw (p.1, p.2)
    (subst (λ (o : Option FileKind). IfSome o (λ k. GivesOnly (failed c.in_err-add_word.field-0.0) (failed (File c.args.line k)))) (sym (c.names.invariant.fault ∙ ap (names_fault c.names.builder.names) c.in-Some.ensures.word))
    (first_failed c.args.line (name_fault c.names.builder.names c.in-Some.word.now) (names_fault (c.names.builder.names ++ c.in-Some.word.now ∷ []) (words c.in-Some.more.now)) c.in_err-add_word.field-0.0 c.in_err-add_word.ensures.fault c.in_err-add_word.ensures.fine))

pub returns-in_err-add_word-clause-fine : goal.returns-in_err-add_word-clause-fine
returns-in_err-add_word-clause-fine c =
    let p = err_from_is_err_and c.from_residual.result c.from_residual.ensures.1 in
    rw (p.1, p.2)
    (subst (λ (o : Option FileKind). IfNone o (c.in_err-add_word.field-0.0 ≡ Memory)) (sym (c.names.invariant.fault ∙ ap (names_fault c.names.builder.names) c.in-Some.ensures.word))
    (first_failed_fine (name_fault c.names.builder.names c.in-Some.word.now) (names_fault (c.names.builder.names ++ c.in-Some.word.now ∷ []) (words c.in-Some.more.now)) c.in_err-add_word.field-0.0 c.in_err-add_word.ensures.fine))
