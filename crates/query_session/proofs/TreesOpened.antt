-- The command `trees PRES NAME`: what is written, or refused.
use Rattle.std.proofs.Common.{◌≡◌, ◌⊎◌, inl, inr, ℕ, List, [], ◌∷◌, Some, None, Result, Ok, Err, IfOk, IfErr, String, string_bytes, refl, sym, subst}
use Rattle.std.specs.declared.alloc.Global.{Global}
use Rattle.nil_pres.specs.Presented.{Presented}
use Rattle.pres_text.specs.File.{IsFile}
use Rattle.pres_text.specs.FirstFault.{first_fault}
use Rattle.hall_compile.specs.declared.wide_place.WidePlace.TheVariants as place
use Rattle.tree_text.specs.Lines.{PolyOverflows, IsTreesText}
use Rattle.session_io.specs.Asked.{Asked}
use Rattle.session_io.specs.Files.{Got, AreGot}
use Rattle.query_session.specs.declared.usage_kind.UsageKind.TheVariants as reason
use Rattle.query_session.specs.declared.refusal.Refusal.{Refusal}
use Rattle.query_session.specs.declared.status.Status.{Status}
use Rattle.query_session.specs.declared.status.Status.TheVariants as s
use Rattle.query_session.specs.Refusals.{plain, Says}
use Rattle.query_session.specs.Opening.{HasOpened, HasRefused, HasRefusal}
use Rattle.query_session.specs.Presentations.{presentation, HasPresentation, IsFileRefused}
use Rattle.query_session.specs.Trees.{number_in, AreTrees, IsRefused, in_file, no_generator, wide, IsSmoothTrees}
use Rattle.query_session.proofs.Plain.{IsPlain, file_plain, file_unnamed}
use Rattle.query_session.proofs.Files.{HasRefusal-plain, HasRefusal-weaker}
use Rattle.query_session.proofs.Completing.{file_not_refused, same_presentation}

-- why there are no trees of a presentation
abbrev pub IsUnlisted : Presented → List ℕ → Refusal → Type 0
IsUnlisted p name r =
    (r.status ≡ s.Memory)
    ⊎ ((number_in p name ≡ None) × (r.status ≡ s.Usage reason.NoGenerator) × Says p.names r)
    ⊎ ((k : ℕ) × (number_in p name ≡ Some k) × PolyOverflows p k
    × (r.status ≡ s.Wide (place.Trees k)) × Says p.names r)

module _ (pres name : List ℕ) (a : Asked) where
  pub trees_plain : (files : List Got) (names : List (List ℕ)) (status : Status)
      → IsRefused pres name a files names status → IsPlain status
  trees_plain files names status (in_file fs ns t h) = file_plain pres a fs ns t h
  trees_plain files names status (no_generator file p is e) = ((λ h. cc), λ h. cc)
  trees_plain files names status (wide file p k is e h) = ((λ h. cc), λ h. cc)

  of_file : (b : Asked) (files : List Got) (names : List (List ℕ)) (status : Status)
      → IsFileRefused pres b files names status → IsRefused pres name b files names status
  of_file b files names status h = in_file files names status h

  pub HasRefusal-trees_file : (status : Status) → HasRefused (IsFileRefused pres) a status
      → HasRefusal (IsRefused pres name) a (plain status)
  HasRefusal-trees_file status h =
      let k : HasRefusal (IsFileRefused pres) a (plain status) =
      HasRefusal-plain (IsFileRefused pres) a (file_unnamed pres a) status h in
      HasRefusal-weaker (IsFileRefused pres) (IsRefused pres name) of_file a (plain status) k

  module _ (p : Presented) (h : HasPresentation pres a p) where
    pub HasOpened-trees : (r : Result (String Global) Refusal)
        → IfOk r (λ t. (k : ℕ) × (number_in p name ≡ Some k) × IsTreesText p k (string_bytes t))
        → IfOk r (λ t. HasOpened (List ℕ) (AreTrees pres name) a (string_bytes t))
    HasOpened-trees (Err d) k = tt
    HasOpened-trees (Ok t) (k, named, text) = record {
      files = presentation pres h.file ∷ [];
      got = (h.got, tt);
      is = record {
        file = h.file;
        p = p;
        k = k;
        got = refl;
        is_file = h.is_file;
        named = named;
        text = text;
      };
    }

    unlisted : (d : Refusal) → IsUnlisted p name d → HasRefusal (IsRefused pres name) a d
    unlisted d (inl m) = record { files = []; got = tt; cause = inl m }
    unlisted d (inr (inl (none, same, says))) =
        let P : Status → Type 0 =
        IsRefused pres name a (presentation pres h.file ∷ []) p.names in
        record {
          files = presentation pres h.file ∷ [];
          got = (h.got, tt);
          cause = inr (p.names, subst P (sym same) (no_generator h.file p h.is_file none), says);
        }
    unlisted d (inr (inr (k, named, over, same, says))) =
        let P : Status → Type 0 =
        IsRefused pres name a (presentation pres h.file ∷ []) p.names in
        record {
          files = presentation pres h.file ∷ [];
          got = (h.got, tt);
          cause = inr (p.names, subst P (sym same) (wide h.file p k h.is_file named over), says);
        }

    pub HasRefusal-trees : (r : Result (String Global) Refusal) → IfErr r (IsUnlisted p name)
        → IfErr r (HasRefusal (IsRefused pres name) a)
    HasRefusal-trees (Ok t) k = tt
    HasRefusal-trees (Err d) k = unlisted d k

-- a known presentation with the generator, whose polynomial doesn't overflow, is not refused
module _
    (one : (file : List ℕ) (p q : Presented) → IsFile p file → IsFile q file → p ≡ q)
    (none : (file : List ℕ) (p : Presented) → IsFile p file → first_fault file ≡ None)
    (pres name : List ℕ) (a : Asked) (p : Presented) (smooth : IsSmoothTrees pres name a p) where
  pub trees_not_refused : (files : List Got) (names : List (List ℕ)) (status : Status)
      → AreGot a files → IsRefused pres name a files names status → ⊥
  trees_not_refused files names status are (in_file fs ns t h) =
      file_not_refused none a pres smooth.file p smooth.known smooth.is_file fs ns t are h
  trees_not_refused files names status are (no_generator file q is e) =
      let same : p ≡ q =
      same_presentation one a pres smooth.file p smooth.known smooth.is_file file q are.0 is in
      let named : number_in p name ≡ Some smooth.k = smooth.named in
      cc
  trees_not_refused files names status are (wide file q k is e over) =
      let same : p ≡ q =
      same_presentation one a pres smooth.file p smooth.known smooth.is_file file q are.0 is in
      let named : number_in p name ≡ Some smooth.k = smooth.named in
      let one_k : k ≡ smooth.k = cc in
      smooth.fits (subst (λ (x : Presented). PolyOverflows x smooth.k) (sym same)
      (subst (PolyOverflows q) one_k over))
