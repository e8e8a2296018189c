-- The command `run PRES TABLE`: what was opened, or refused.
use Rattle.std.proofs.Common.{◌≡◌, ◌≢◌, ℕ, ◌≤◌, ◌⊎◌, inl, inr, List, [], ◌∷◌, ◌++◌, length, All, None, Result, Ok, Err, IfOk, IfErr, refl, sym, subst}
use Rattle.std.proofs.lemmas.List.Elements.{All-head, All-tail}
use Rattle.nil_word.specs.Congruence.{IsConsistent}
use Rattle.nil_pres.specs.Presented.{Presented}
use Rattle.nil_pres.specs.Relations.{relations_of}
use Rattle.pres_text.specs.File.{IsFile}
use Rattle.pres_text.specs.FirstFault.{first_fault}
use Rattle.hall_table.specs.Tabled.{Tabled, last_of}
use Rattle.hall_table.specs.Multiplies.{Paired}
use Rattle.table_json.specs.declared.table_fault.TableFault.{TableFault}
use Rattle.table_json.specs.declared.table_fault.TableFault.TheVariants as fault
use Rattle.table_json.specs.Saying.{IsTableText}
use Rattle.table_json.specs.Refusing.{IsFirstRefusal}
use Rattle.identity_check.specs.declared.identity.Identity.{Identity}
use Rattle.identity_check.specs.declared.failure.Failure.{Failure}
use Rattle.identity_check.specs.declared.verdict.Verdict.{Verdict}
use Rattle.identity_check.specs.declared.verdict.Verdict.TheVariants as verdict
use Rattle.identity_check.specs.Verdicts.{IsVerdict, HasEvidence}
use Rattle.identity_check.specs.Events.{Event, Stops, IsFirst, HaveEqualSides, events}
use Rattle.identity_check.specs.Events.Event.{tries}
use Rattle.nil_io.specs.declared.shelf_fault.ShelfFault.{ShelfFault}
use Rattle.session_io.specs.Asked.{Asked}
use Rattle.session_io.specs.Files.{Got, IsGot, AreGot, IsUnread}
use Rattle.query_session.specs.declared.status.Status.{Status}
use Rattle.query_session.specs.declared.status.Status.TheVariants as s
use Rattle.query_session.specs.declared.table_refusal.TableRefusal.TheVariants as r
use Rattle.query_session.specs.Limits.{table_limit}
use Rattle.query_session.specs.Statuses.{file_status, table_status}
use Rattle.query_session.specs.Opening.{HasOpened, HasRefused}
use Rattle.query_session.specs.Presentations.{presentation, HasPresentation, IsFileRefused}
use Rattle.query_session.specs.RunTable.{table_file, IsAccepted, IsTableRefused, form, identity, wide, IsRefused, in_file, unread, in_table, IsOpened, IsSmoothRunTable}
use Rattle.query_session.proofs.Plain.{IsPlain, IsUnnamed, file_plain, unread_plain, file_unnamed, unread_unnamed}
use Rattle.query_session.proofs.Files.{HasRefused-weaker}
use Rattle.query_session.proofs.Completing.{known_not_unread, got_is_known, file_not_refused, same_presentation}

-- refusals are no write faults, nor want of memory
table_plain : (p : Presented) (text : List ℕ) (status : Status) → IsTableRefused p text status
    → IsPlain status
table_plain p text status (form f m h) = ((λ h. cc), λ h. cc)
table_plain p text status (identity t f says v e) = ((λ h. cc), λ h. cc)
table_plain p text status (wide t id says v) = ((λ h. cc), λ h. cc)

pub run_table_plain : (pres table : List ℕ) (a : Asked) (files : List Got)
    (names : List (List ℕ)) (status : Status) → IsRefused pres table a files names status
    → IsPlain status
run_table_plain pres table a files names status (in_file fs ns t h) = file_plain pres a fs ns t h
run_table_plain pres table a files names status (unread file p e is u) =
    unread_plain a table table_limit e u
run_table_plain pres table a files names status (in_table file text p t is h) =
    table_plain p text t h

-- their texts name no generator
table_unnamed : (p : Presented) (text : List ℕ) (status : Status) → IsTableRefused p text status
    → IsUnnamed status
table_unnamed p text status (form f m h) = λ names. refl
table_unnamed p text status (identity t f says v e) = λ names. refl
table_unnamed p text status (wide t id says v) = λ names. refl

pub run_table_unnamed : (pres table : List ℕ) (a : Asked) (files : List Got)
    (names : List (List ℕ)) (status : Status) → IsRefused pres table a files names status
    → IsUnnamed status
run_table_unnamed pres table a files names status (in_file fs ns t h) =
    file_unnamed pres a fs ns t h
run_table_unnamed pres table a files names status (unread file p e is u) = unread_unnamed e
run_table_unnamed pres table a files names status (in_table file text p t is h) =
    table_unnamed p text t h

-- the first fault of a table's text
pub IsTableRefused-fault : (p : Presented) (text : List ℕ) (n : ℕ) (f : TableFault)
    → n ≡ length p.names → (f ≡ fault.Memory) ⊎ IsFirstRefusal n text f
    → (table_status f ≡ s.Memory) ⊎ IsTableRefused p text (table_status f)
IsTableRefused-fault p text n f same h = at f (inside h)
  where
    inside : (f ≡ fault.Memory) ⊎ IsFirstRefusal n text f
        → (f ≡ fault.Memory) ⊎ IsFirstRefusal (length p.names) text f
    inside (inl m) = inl m
    inside (inr k) = inr (subst (λ (count : ℕ). IsFirstRefusal count text f) same k)

    named : (g : TableFault) → g ≢ fault.Memory
        → (g ≡ fault.Memory) ⊎ IsFirstRefusal (length p.names) text g
        → IsTableRefused p text (s.TableRefused (r.Form g))
    named g other (inl m) = absurd (other m)
    named g other (inr k) = form g other k

    at : (g : TableFault) → (g ≡ fault.Memory) ⊎ IsFirstRefusal (length p.names) text g
        → (table_status g ≡ s.Memory) ⊎ IsTableRefused p text (table_status g)
    at fault.Memory k = inl refl
    at fault.Json k = inr (named fault.Json (λ m. cc) k)
    at (fault.Field key) k = inr (named (fault.Field key) (λ m. cc) k)
    at fault.Number k = inr (named fault.Number (λ m. cc) k)
    at fault.Order k = inr (named fault.Order (λ m. cc) k)
    at (fault.Shape j) k = inr (named (fault.Shape j) (λ m. cc) k)

-- what the check says
module _ (p : Presented) (text : List ℕ) (n : ℕ) (t : Tabled) (same : n ≡ length p.names)
    (says : IsTableText n text t) (v : Verdict) where
  text_says : IsTableText (length p.names) text t
  text_says = subst (λ (count : ℕ). IsTableText count text t) same says

  pub IsTableRefused-identity : (f : Failure) → v ≡ verdict.Refused f → IsVerdict p t v
      → HasEvidence p t v → IsTableRefused p text (s.TableRefused (r.Identity f))
  IsTableRefused-identity f e h k =
      identity t f text_says (subst (IsVerdict p t) e h) (subst (HasEvidence p t) e k)

  pub IsTableRefused-wide : (id : Identity) → v ≡ verdict.Wide id → IsVerdict p t v
      → IsTableRefused p text (s.TableRefused (r.Wide id))
  IsTableRefused-wide id e h = wide t id text_says (subst (IsVerdict p t) e h)

module _ (pres table : List ℕ) (a : Asked) where
  pub HasRefused-table_file : (status : Status) → HasRefused (IsFileRefused pres) a status
      → HasRefused (IsRefused pres table) a status
  HasRefused-table_file =
      HasRefused-weaker (IsFileRefused pres) (IsRefused pres table)
      (λ b files names status. in_file files names status) a

  module _ (p : Presented) (h : HasPresentation pres a p) where
    pub HasRefused-table_unread : (e : ShelfFault)
        → (file_status e ≡ s.Memory) ⊎ IsUnread a table table_limit e
        → HasRefused (IsRefused pres table) a (file_status e)
    HasRefused-table_unread e (inl m) = record { files = []; got = tt; cause = inl m }
    HasRefused-table_unread e (inr u) = record {
      files = presentation pres h.file ∷ [];
      got = (h.got, tt);
      cause = inr (p.names, unread h.file p e h.is_file u);
    }

    module _ (text : List ℕ) (got : IsGot a (table_file table text)) where
      opened : (q : Presented) (t : Tabled) → q ≡ p → IsAccepted p text t
          → IsConsistent (relations_of p) 1
          → HasOpened Paired (IsOpened pres table) a (record { pres = q; table = t })
      opened q t same accepted consistent =
          let P : Presented → Type 0 =
          λ x. HasOpened Paired (IsOpened pres table) a (record { pres = x; table = t }) in
          subst P (sym same) (record {
            files = presentation pres h.file ∷ table_file table text ∷ [];
            got = (h.got, (got, tt));
            is = record {
              file = h.file;
              text = text;
              got = refl;
              is_file = h.is_file;
              accepted = accepted;
              consistent = consistent;
            };
          })

      pub HasOpened-table : (found : Result Paired Status) → IfOk found (λ c. c.pres ≡ p)
          → IfOk found (λ c. IsAccepted p text c.table)
          → IfOk found (λ c. IsConsistent (relations_of p) 1)
          → IfOk found (HasOpened Paired (IsOpened pres table) a)
      HasOpened-table (Err status) same accepted consistent = tt
      HasOpened-table (Ok c) same accepted consistent =
          opened c.pres c.table same accepted consistent

      HasRefused-either : (status : Status) → (status ≡ s.Memory) ⊎ IsTableRefused p text status
          → HasRefused (IsRefused pres table) a status
      HasRefused-either status (inl m) = record { files = []; got = tt; cause = inl m }
      HasRefused-either status (inr k) = record {
        files = presentation pres h.file ∷ table_file table text ∷ [];
        got = (h.got, (got, tt));
        cause = inr (p.names, in_table h.file text p status h.is_file k);
      }

      pub HasRefused-table : (found : Result Paired Status)
          → IfErr found (λ status. (status ≡ s.Memory) ⊎ IsTableRefused p text status)
          → IfErr found (HasRefused (IsRefused pres table) a)
      HasRefused-table (Ok c) k = tt
      HasRefused-table (Err status) k = HasRefused-either status k

-- a known table that is accepted is not refused
pub All-at : {X : Type 0} (P : X → Type 0) (before : List X) (e : X) (after : List X)
    → All P (before ++ e ∷ after) → P e
All-at P [] e after h = All-head P e after h
All-at P (d ∷ before) e after h =
    All-at P before e after (All-tail P d (before ++ e ∷ after) h)

pub none_stops : (p : Presented) (t u : Tabled) (e : Event) → t ≡ u → HaveEqualSides (relations_of p) t
    → IsFirst (Stops (relations_of p) u) (events u.level (last_of u)) e → ⊥
none_stops p t u e same holds first =
    let equal : HaveEqualSides (relations_of p) u =
    subst (HaveEqualSides (relations_of p)) same holds in
    let all : All (λ d. Stops (relations_of p) u d → ⊥) (first.before ++ e ∷ first.after) =
    subst (All (λ d. Stops (relations_of p) u d → ⊥)) first.listed equal in
    All-at (λ d. Stops (relations_of p) u d → ⊥) first.before e first.after all first.holds

module _
    (one : (file : List ℕ) (p q : Presented) → IsFile p file → IsFile q file → p ≡ q)
    (none : (file : List ℕ) (p : Presented) → IsFile p file → first_fault file ≡ None)
    (one_table : (n : ℕ) (text : List ℕ) (t u : Tabled) → n ≤ 48 → IsTableText n text t
    → IsTableText n text u → t ≡ u)
    (no_fault : (n : ℕ) (text : List ℕ) (t : Tabled) (f : TableFault) → n ≤ 48
    → IsTableText n text t → IsFirstRefusal n text f → ⊥)
    (pres table : List ℕ) (a : Asked) (p : Presented) (smooth : IsSmoothRunTable pres table a p)
  where
    few : length p.names ≤ 48
    few = smooth.is_file.lawful.names.few

    not_refused_for : (status : Status) → IsTableRefused p smooth.text status → ⊥
    not_refused_for status (form f m h) =
        no_fault (length p.names) smooth.text smooth.t f few smooth.says h
    not_refused_for status (identity t f says v e) =
        none_stops p smooth.t t (tries f.identity)
        (one_table (length p.names) smooth.text smooth.t t few smooth.says says) smooth.holds
        v.first
    not_refused_for status (wide t id says v) =
        none_stops p smooth.t t v.event
        (one_table (length p.names) smooth.text smooth.t t few smooth.says says) smooth.holds
        v.first

    pub run_table_not_refused : (files : List Got) (names : List (List ℕ)) (status : Status)
        → AreGot a files → IsRefused pres table a files names status → ⊥
    run_table_not_refused files names status are (in_file fs ns t h) =
        file_not_refused none a pres smooth.file p smooth.known_file smooth.is_file fs ns t are h
    run_table_not_refused files names status are (unread file q e is u) =
        known_not_unread a (table_file table smooth.text) smooth.known_table e u
    run_table_not_refused files names status are (in_table file text q t is h) =
        let same : p ≡ q =
        same_presentation one a pres smooth.file p smooth.known_file smooth.is_file file q are.0
        is in
        let read : text ≡ smooth.text =
        got_is_known a table table_limit smooth.text text smooth.known_table are.1.0 in
        not_refused_for t (subst (λ (x : List ℕ). IsTableRefused p x t) read
        (subst (λ (x : Presented). IsTableRefused x text t) (sym same) h))
