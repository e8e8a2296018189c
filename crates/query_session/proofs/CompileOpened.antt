-- What a compile gives to a command, or why it is refused.
use Rattle.std.proofs.Common.{◌≡◌, ℕ, ◌⊎◌, inl, inr, List, [], ◌∷◌, ◌++◌, All, Some, None, Result, Ok, Err, IfOk, IfErr, refl, sym, subst}
use Rattle.nil_pres.specs.Presented.{Presented, IsPresented}
use Rattle.nil_pres.specs.Relations.{between}
use Rattle.pres_text.specs.File.{IsFile}
use Rattle.pres_text.specs.FirstFault.{first_fault}
use Rattle.hall_table.specs.Tabled.{Tabled, IsTabled, last_of}
use Rattle.hall_table.specs.Multiplies.{Paired, IsChecked}
use Rattle.identity_check.specs.Events.Event.{tries}
use Rattle.overlap_test.specs.declared.overlap.Overlap.{Overlap}
use Rattle.overlap_test.specs.declared.level_result.LevelResult.{LevelResult}
use Rattle.overlap_test.specs.declared.level_result.LevelResult.TheVariants as says
use Rattle.overlap_test.specs.Verdict.{IsVerdict}
use Rattle.sum_compiler.specs.declared.sum_place.SumPlace.{SumPlace}
use Rattle.sum_compiler.specs.Calls.{Overflows, NoneOverflows}
use Rattle.sum_compiler.specs.Plan.{plan}
use Rattle.hall_compile.specs.declared.asked.Asked as entry
use Rattle.hall_compile.specs.declared.compiled.Compiled.{Compiled}
use Rattle.hall_compile.specs.declared.outcome.Outcome.{Outcome}
use Rattle.hall_compile.specs.declared.outcome.Outcome.TheVariants as outcome
use Rattle.hall_compile.specs.declared.reason.Reason.{Reason}
use Rattle.hall_compile.specs.declared.reason.Reason.TheVariants as why
use Rattle.hall_compile.specs.declared.wide_place.WidePlace.{WidePlace}
use Rattle.hall_compile.specs.declared.wide_place.WidePlace.TheVariants as place
use Rattle.hall_compile.specs.Choices.{SumOverflows}
use Rattle.hall_compile.specs.Deciding.{Decides}
use Rattle.hall_compile.specs.Levels.{paired}
use Rattle.hall_compile.specs.Outcomes.{IsInconsistent, IsWide, IsOutcome}
use Rattle.hall_compile.specs.Proposals.{Proposal, proposal, IsAccepted, IsOf, IsReason, AreAsked}
use Rattle.session_io.specs.Asked.{Asked}
use Rattle.session_io.specs.Files.{Got, AreGot}
use Rattle.session_io.specs.Lines.{as_line, as_lines}
use Rattle.compile_text.specs.Lines.{compiled_lines}
use Rattle.table_json.specs.Format.{table_text}
use Rattle.table_json.specs.Saying.{IsTableText}
use Rattle.query_session.specs.declared.refusal.Refusal.{Refusal}
use Rattle.query_session.specs.declared.status.Status.{Status}
use Rattle.query_session.specs.declared.status.Status.TheVariants as s
use Rattle.query_session.specs.Refusals.{plain, Says}
use Rattle.query_replies.specs.Replies.{reply}
use Rattle.query_replies.specs.Right.{IsReply}
use Rattle.query_session.specs.Opening.{HasOpened, HasRefused, HasRefusal}
use Rattle.query_session.specs.Presentations.{presentation, HasPresentation, IsFileRefused}
use Rattle.query_session.specs.Compiling.{IsCompiledBy, IsCompiledOf, IsUncompiled, inconsistent, wide, IsRefused, in_file, uncompiled, HasAccepted, GoesOn, Compiles, IsSmoothCompile}
use Rattle.query_session.specs.Run.{IsOpened}
use Rattle.query_session.specs.Check as of_check
use Rattle.query_session.specs.Compile.{IsTableOf}
use Rattle.query_session.proofs.Plain.{IsPlain, file_plain, file_unnamed}
use Rattle.query_session.proofs.Files.{HasRefusal-plain, HasRefusal-weaker}
use Rattle.query_session.proofs.Completing.{file_not_refused, same_presentation}
use Rattle.query_session.proofs.TableOpened.{All-at, none_stops}

-- refusals are no write faults, nor want of memory
pub uncompiled_plain : (os : ℕ → List Proposal) (p : Presented) (status : Status)
    → IsUncompiled os p status → IsPlain status
uncompiled_plain os p status (inconsistent o h k) = ((λ h. cc), λ h. cc)
uncompiled_plain os p status (wide at h) = ((λ h. cc), λ h. cc)

-- what the compile says otherwise
pub IsUncompiled-inconsistent : (os : ℕ → List Proposal) (p : Presented) (r : Outcome) (o : Overlap)
    → r ≡ outcome.Inconsistent o → IsOutcome p os r → Decides p r
    → IsUncompiled os p (s.Inconsistent o)
IsUncompiled-inconsistent os p r o e h k =
    inconsistent o (subst (IsOutcome p os) e h) (subst (Decides p) e k)

pub IsUncompiled-wide : (os : ℕ → List Proposal) (p : Presented) (r : Outcome) (at : WidePlace)
    → r ≡ outcome.Wide at → IsOutcome p os r → IsUncompiled os p (s.Wide at)
IsUncompiled-wide os p r at e h = wide at (subst (IsOutcome p os) e h)

module _ (os : Presented → ℕ → List Proposal) (pres : List ℕ) (a : Asked) where
  pub compile_plain : (files : List Got) (names : List (List ℕ)) (status : Status)
      → IsRefused os pres a files names status → IsPlain status
  compile_plain files names status (in_file fs ns t h) = file_plain pres a fs ns t h
  compile_plain files names status (uncompiled file p t is h) = uncompiled_plain (os p) p t h

  compile_file : (b : Asked) (files : List Got) (names : List (List ℕ)) (status : Status)
      → IsFileRefused pres b files names status → IsRefused os pres b files names status
  compile_file b files names status h = in_file files names status h

  pub HasRefusal-compile_file : (status : Status) → HasRefused (IsFileRefused pres) a status
      → HasRefusal (IsRefused os pres) a (plain status)
  HasRefusal-compile_file status h =
      let k : HasRefusal (IsFileRefused pres) a (plain status) =
      HasRefusal-plain (IsFileRefused pres) a (file_unnamed pres a) status h in
      HasRefusal-weaker (IsFileRefused pres) (IsRefused os pres) compile_file a (plain status) k

  module _ (p : Presented) (h : HasPresentation pres a p) where
    opened : (c : Compiled) → c.checked.pres ≡ p → IsCompiledBy (os p) p c
        → HasOpened Compiled (IsCompiledOf os pres) a c
    opened c same compiled =
        let P : Presented → Type 0 = λ x. IsFile x h.file in
        let Q : Presented → Type 0 = λ x. IsCompiledBy (os x) x c in
        record {
          files = presentation pres h.file ∷ [];
          got = (h.got, tt);
          is = record {
            file = h.file;
            got = refl;
            is_file = subst P (sym same) h.is_file;
            compiled = subst Q (sym same) compiled;
          };
        }

    pub HasOpened-compiled : (r : Result Compiled Refusal) → IfOk r (IsCompiledBy (os p) p)
        → IfOk r (HasOpened Compiled (IsCompiledOf os pres) a)
    HasOpened-compiled (Err d) compiled = tt
    HasOpened-compiled (Ok c) compiled = opened c compiled.outcome.pres compiled

    pub HasRefusal-uncompiled : (r : Result Compiled Refusal)
        → IfErr r (λ d. (d.status ≡ s.Memory)
        ⊎ (IsUncompiled (os p) p d.status × Says p.names d))
        → IfErr r (HasRefusal (IsRefused os pres) a)
    HasRefusal-uncompiled (Ok c) k = tt
    HasRefusal-uncompiled (Err d) (inl m) = record { files = []; got = tt; cause = inl m }
    HasRefusal-uncompiled (Err d) (inr (k, says)) = record {
      files = presentation pres h.file ∷ [];
      got = (h.got, tt);
      cause = inr (p.names, uncompiled h.file p d.status h.is_file k, says);
    }

-- the calculator of what was compiled
pub HasOpened-run : (os : Presented → ℕ → List Proposal) (pres : List ℕ) (a : Asked) (c : Compiled)
    (d : Paired) → d ≡ c.checked → HasOpened Compiled (IsCompiledOf os pres) a c
    → HasOpened Paired (IsOpened os pres) a d
HasOpened-run os pres a c d same h = record {
  files = h.files;
  got = h.got;
  is = record { compiled = c; is = h.is; checked = sym same };
}

-- its replies are the right ones
pub IsReply-opened : ((c : Paired) (line : List ℕ) → IsPresented c.pres → IsTabled c.table
    → IsChecked c → c.table.level ≡ 1 → IsReply c line (reply c line))
    → (os : Presented → ℕ → List Proposal) (pres : List ℕ) (a : Asked) (d : Paired)
    → HasOpened Paired (IsOpened os pres) a d → (line : List ℕ) → IsReply d line (reply d line)
IsReply-opened right os pres a d h line =
    let P : Paired → Type 0 = λ x. IsReply x line (reply x line) in
    let k : IsCompiledOf os pres h.files h.is.compiled = h.is.is in
    subst P h.is.checked (right h.is.compiled.checked line k.is_file.lawful k.compiled.form
    k.compiled.multiplies k.compiled.outcome.level)

-- a proposal that is accepted isn't asked in vain
not_reason : (p : Presented) (i : ℕ) (t : Tabled) → IsAccepted p i t → (r : Reason)
    → IsReason p i (Some t) r → ⊥
not_reason p i t accepted why.NoTable h = cc
not_reason p i t accepted why.WrongLevel (u, same, other) =
    let e : t ≡ u = cc in
    other (subst (IsOf p i) e accepted.place)
not_reason p i t accepted (why.Refused f) (u, same, of, v) =
    let e : t ≡ u = cc in
    none_stops p t u (tries f.identity) e accepted.sides v.first
not_reason p i t accepted (why.Wide id) (u, same, of, v) =
    let e : t ≡ u = cc in
    none_stops p t u v.event e accepted.sides v.first

not_asked : (p : Presented) (i : ℕ) (before : List Proposal) (label : ℕ) (t : Tabled)
    (after : List Proposal) (list : List entry.Asked)
    → AreAsked p i (before ++ proposal label (Some t) ∷ after) list → IsAccepted p i t → ⊥
not_asked p i [] label t after [] h accepted = h
not_asked p i [] label t after (a ∷ list) h accepted = not_reason p i t accepted a.reason h.0.reason
not_asked p i (o ∷ before) label t after [] h accepted = h
not_asked p i (o ∷ before) label t after (a ∷ list) h accepted =
    not_asked p i before label t after list h.1 accepted

module _ (p : Presented) (os : ℕ → List Proposal) (i : ℕ) (above : Tabled)
    (on : GoesOn p os i above) where
  agrees : (r : LevelResult) → IsVerdict (paired p above) i r → r ≡ says.Agree
  agrees r v = v.agree.1 on.agree

  fits : (at : SumPlace) → SumOverflows (paired p above) i (os i) at → ⊥
  fits at h = either on.table
    where
      either : NoneOverflows (plan above (between p i) i) ⊎ HasAccepted p i (os i) → ⊥
      either (inl none) =
          All-at (λ c. ¬ Overflows c) h.first.before h.first.call h.first.after
          (subst (All (λ c. ¬ Overflows c)) h.first.listed none) h.first.overflows
      either (inr k) =
          not_asked p i k.before k.label k.t k.after h.list
          (subst (λ (xs : List Proposal). AreAsked p i xs h.list) k.listed h.asked) k.accepted

module _ (p : Presented) (os : ℕ → List Proposal) (compiles : Compiles p os) where
  not_inconsistent : (o : Overlap) → IsInconsistent p os o → ⊥
  not_inconsistent o h =
      let on : GoesOn p os o.i h.above =
      compiles o.i h.above h.by h.list h.reached h.least h.level in
      let e : says.Differ o ≡ says.Agree = agrees p os o.i h.above on (says.Differ o) h.holds in
      cc

  not_wide : (at : WidePlace) → IsWide p os at → ⊥
  not_wide (place.Overlap i j k) h =
      let on : GoesOn p os i h.above = compiles i h.above h.by h.list h.reached h.least h.level in
      let e : says.Wide j k ≡ says.Agree = agrees p os i h.above on (says.Wide j k) h.holds in
      cc
  not_wide (place.Sum i at) h =
      fits p os i h.above (compiles i h.above h.by h.list h.reached h.least h.level) at h.holds.1
  not_wide (place.Trees k) h = h

  pub not_uncompiled : (status : Status) → IsUncompiled os p status → ⊥
  not_uncompiled status (inconsistent o h k) = not_inconsistent o h
  not_uncompiled status (wide at h) = not_wide at h

-- a known presentation that compiles is not refused
module _
    (one : (file : List ℕ) (p q : Presented) → IsFile p file → IsFile q file → p ≡ q)
    (none : (file : List ℕ) (p : Presented) → IsFile p file → first_fault file ≡ None)
    (os : Presented → ℕ → List Proposal) (pres : List ℕ) (a : Asked) (p : Presented)
    (smooth : IsSmoothCompile os pres a p) where
  pub compile_not_refused : (files : List Got) (names : List (List ℕ)) (status : Status)
      → AreGot a files → IsRefused os pres a files names status → ⊥
  compile_not_refused files names status are (in_file fs ns t h) =
      file_not_refused none a pres smooth.file p smooth.known smooth.is_file fs ns t are h
  compile_not_refused files names status are (uncompiled file q t is h) =
      let same : p ≡ q =
      same_presentation one a pres smooth.file p smooth.known smooth.is_file file q are.0 is in
      let P : Presented → Type 0 = λ x. IsUncompiled (os x) x t in
      not_uncompiled p (os p) smooth.compiles t (subst P (sym same) h)

-- what is written of what was compiled
pub HasOpened-verdict : (os : Presented → ℕ → List Proposal) (pres : List ℕ) (a : Asked)
    (c : Compiled) (out : List ℕ) → out ≡ as_lines (compiled_lines c)
    → HasOpened Compiled (IsCompiledOf os pres) a c → HasOpened (List ℕ) (of_check.IsVerdict os pres) a out
HasOpened-verdict os pres a c out lines h = record {
  files = h.files;
  got = h.got;
  is = record { compiled = c; is = h.is; lines = lines };
}

pub HasOpened-table_text : (os : Presented → ℕ → List Proposal) (pres : List ℕ) (a : Asked)
    (c : Compiled) (out : List ℕ) (t : Tabled) → t ≡ c.checked.table
    → out ≡ as_line (table_text t) → IsTableText (last_of t) (table_text t) t
    → HasOpened Compiled (IsCompiledOf os pres) a c → HasOpened (List ℕ) (IsTableOf os pres) a out
HasOpened-table_text os pres a c out t same text says h = record {
  files = h.files;
  got = h.got;
  is = record {
    compiled = c;
    is = h.is;
    says =
        subst (λ (n : ℕ). IsTableText n (table_text c.checked.table) c.checked.table)
        h.is.compiled.multiplies.last
        (subst (λ (x : Tabled). IsTableText (last_of x) (table_text x) x) same says);
    text = subst (λ (x : Tabled). out ≡ as_line (table_text x)) same text;
  };
}
