use Rattle.std.proofs.Common.{◌≡◌, ℕ, ◌+◌, ◌≤◌, List, [], length, Option, None, IfSome, Ok, Err, ap, sym, subst, ◌∙◌, arith}
use Rattle.std.proofs.lemmas.Result.{err_from_is_err_and}
use Rattle.nil_pres.specs.Presented.{Draft, Presented, finished}
use Rattle.pres_text.specs.declared.pres_fault.PresFault.{PresFault}
use Rattle.pres_text.specs.Lines.{lines, content}
use Rattle.pres_text.specs.FirstFault.{first_fault}
use Rattle.pres_text.specs.File.{IsFile}
use Rattle.pres_text.specs.Reading.{all_drafted_fault, all_drafted}
use Rattle.pres_text.proofs.Faults.{GivesOnly, failed_in, gives_in, memory_gives, only_memory, memory_or_first, none_failed}
use Rattle.pres_text.proofs.Whole.{all_agrees}
use Rattle.pres_text.proofs.Lawful.{file_of}
use Rattle.pres_text.proofs.Presented.{some_names, reads}
use Rattle.pres_text.proofs.reading.read.Goals as goal

-- the fault that the reader finds is the first one
same : (file : List ℕ) → all_drafted_fault (length (lines file) + 1) (content file) ≡ first_fault file
same file = all_agrees (length (lines file) + 1) (content file)

pub returns-in_err-builder-clause-only : goal.returns-in_err-builder-clause-only
returns-in_err-builder-clause-only c =
    let p = err_from_is_err_and c.from_residual.result c.from_residual.ensures.1 in
    let f = c.in_err-builder.field-0.0 in
    rw (p.1, p.2) (λ q says.
    memory_gives f (Ok q) (only_memory _ (first_fault c.args.bytes.now) f (same c.args.bytes.now)
    c.in_err-builder.ensures.fine (reads q c.args.bytes.now says).fine))

pub returns-in_err-builder-clause-fault : goal.returns-in_err-builder-clause-fault
returns-in_err-builder-clause-fault c =
    let p = err_from_is_err_and c.from_residual.result c.from_residual.ensures.1 in
    let f = c.in_err-builder.field-0.0 in
    rw (p.1, p.2) (memory_or_first _ (first_fault c.args.bytes.now) f (same c.args.bytes.now)
    c.in_err-builder.ensures.fine (gives_in Draft (Unit {0}) _ f c.in_err-builder.ensures.fault))

pub returns-in_err-builder-clause-only_fault : goal.returns-in_err-builder-clause-only_fault
returns-in_err-builder-clause-only_fault c =
    let p = err_from_is_err_and c.from_residual.result c.from_residual.ensures.1 in
    let f = c.in_err-builder.field-0.0 in
    rw (p.1, p.2)
    (subst (λ (o : Option PresFault). IfSome o (λ g. GivesOnly (failed_in Presented f) (failed_in Presented g)))
    (same c.args.bytes.now)
    (gives_in Draft Presented
    (all_drafted_fault (length (lines c.args.bytes.now) + 1) (content c.args.bytes.now)) f
    c.in_err-builder.ensures.fault))

-- what was read has no fault
fine : (file : List ℕ) (b : Draft) → IfSome (all_drafted_fault (length (lines file) + 1) (content file)) (λ f. GivesOnly (Ok b) (Err f)) → first_fault file ≡ None
fine file b h = sym (same file) ∙ none_failed _ b h

pub unreachable-requires : goal.unreachable-requires
unreachable-requires c =
    let some : 1 ≤ length (all_drafted (content c.args.bytes.now)).names = some_names c.args.bytes.now (fine c.args.bytes.now c.in_ok-builder.builder c.in_ok-builder.ensures.fault) in
    let names : c.in_ok-builder.builder.names ≡ [] = c.in-None.ensures.presented in
    let same_names : c.in_ok-builder.builder.names ≡ (all_drafted (content c.args.bytes.now)).names = ap (λ (d : Draft). d.names) c.in_ok-builder.ensures.ok in
    omega (arith, ap length names, ap length same_names)

pub returns-clause-read : goal.returns-clause-read
returns-clause-read c =
    let p_is : c.in-Some.presentation ≡ finished (all_drafted (content c.args.bytes.now)) =
    c.in-Some.ensures.presented ∙ ap finished c.in_ok-builder.ensures.ok in
    subst (λ (p : Presented). IsFile p c.args.bytes.now) (sym p_is)
    (file_of c.args.bytes.now (fine c.args.bytes.now c.in_ok-builder.builder c.in_ok-builder.ensures.fault))

pub returns-clause-only : goal.returns-clause-only
returns-clause-only c = λ p says.
    ap Ok (c.in-Some.ensures.presented ∙ ap finished c.in_ok-builder.ensures.ok ∙ (reads p c.args.bytes.now says).same)

pub returns-clause-only_fault : goal.returns-clause-only_fault
returns-clause-only_fault c =
    subst (λ (o : Option PresFault). IfSome o (λ g. GivesOnly (Ok c.in-Some.presentation) (failed_in Presented g))) (sym (fine c.args.bytes.now c.in_ok-builder.builder c.in_ok-builder.ensures.fault)) tt
