-- The entries of a cache of texts, as pairs of lines and replies.
use Rattle.std.proofs.Common.{◌≡◌, ℕ, ◌+◌, ◌-◌, ◌≤◌, Bool, true, false, cond, List, [], ◌∷◌, length, take, bytes_eq, string_bytes, string_eq, String, Option, Some, None, is_some, option_map, refl, sym, ap, arith, ◌∙◌}
use Rattle.std.specs.List.{take-map}
use Rattle.std.specs.Option.{option_map_or}
use Rattle.std.specs.Map.{lookup, lookup_entry, remove_entry}
use Rattle.std.proofs.lemmas.List.{length-map, take_all}
use Rattle.std.proofs.lemmas.Slice.Eq.{bytes_eq-Decides}
use Rattle.lru.specs.LruCache.{LruCache, promoted, put_entries}
use Rattle.lru.proofs.CallerLemmas.{Contains-lookup_entry}
use Rattle.reply_memo.specs.Room.{room}
use Rattle.reply_memo.specs.Kept.{Kept, kept, kept_for, of_line, without, in_front, AreApart}
use Rattle.reply_memo.specs.Memo.{after_keeping, IsMemo}
use Rattle.reply_memo.specs.Entries.{Entry, kept_of, pairs_of}
use Rattle.reply_memo.proofs.Lines.{AreApart-tail, NoneOf-after, of_line-none, without-none}

module _ {A : Type 0} where
  module _ (line : List ℕ) where
    -- whether a key is the line
    abbrev pub is_line : String A → Bool
    is_line key = bytes_eq line (string_bytes key)

    pub kept_for-pairs_of : (es : List (Entry A))
        → kept_for line (pairs_of es) ≡ option_map string_bytes (lookup is_line es)
    kept_for-pairs_of [] = refl
    kept_for-pairs_of (e ∷ es) =
        elim (is_line e.0) as (λ b. cond b (Some (string_bytes e.1)) (kept_for line (pairs_of es))
        ≡ option_map string_bytes (cond b (Some e.1) (lookup is_line es))) [
          | true ↦ refl
          | false ↦ kept_for-pairs_of es
        ]

    is_some-option_map : (o : Option (String A)) → is_some (option_map string_bytes o) ≡ is_some o
    is_some-option_map None = refl
    is_some-option_map (Some reply) = refl

    pub is_some-kept_for : (es : List (Entry A))
        → is_some (kept_for line (pairs_of es)) ≡ is_some (lookup is_line es)
    is_some-kept_for es =
        ap is_some (kept_for-pairs_of es) ∙ is_some-option_map (lookup is_line es)

    -- the pairs of the line are the entry that is found, and the others those that are left
    pub record IsParted (es : List (Entry A)) : Type 0 where
      pub found : of_line line (pairs_of es)
          ≡ option_map_or (λ e. kept_of e ∷ []) (lookup_entry is_line es) []
      pub left : without line (pairs_of es) ≡ pairs_of (remove_entry is_line es)

    pub parted : (es : List (Entry A)) → AreApart (pairs_of es) → IsParted es
    parted [] apart = record { found = refl; left = refl }
    parted (e ∷ es) apart =
        let cons : List Kept → List Kept = λ pairs. kept_of e ∷ pairs in
        (elim (is_line e.0) as (λ b. is_line e.0 ≡ b → IsParted (e ∷ es)) [
          | true ↦ λ same.
              let none = NoneOf-after line (kept_of e) (pairs_of es) same apart in
              record {
                found = rw same (ap cons (of_line-none line (pairs_of es) none));
                left = rw same (without-none line (pairs_of es) none);
              }
          | false ↦ λ other.
              let more = parted es (AreApart-tail (kept_of e) (pairs_of es) apart) in
              record { found = rw other more.found; left = rw other (ap cons more.left) }
        ]) refl

    pub remove_entry-none : (es : List (Entry A)) → lookup_entry is_line es ≡ None
        → remove_entry is_line es ≡ es
    remove_entry-none [] none = refl
    remove_entry-none (e ∷ es) none =
        (elim (is_line e.0) as (λ b. is_line e.0 ≡ b → remove_entry is_line (e ∷ es) ≡ e ∷ es) [
          | true ↦ λ same. let found = rw same at none in cc
          | false ↦ λ other. rw other (ap (λ l. e ∷ l) (remove_entry-none es (rw other at none)))
        ]) refl

    pub length-remove_entry : (es : List (Entry A)) (f : Entry A) → lookup_entry is_line es ≡ Some f
        → length (remove_entry is_line es) + 1 ≡ length es
    length-remove_entry [] f some = cc
    length-remove_entry (e ∷ es) f some =
        (elim (is_line e.0) as (λ b. is_line e.0 ≡ b
        → length (remove_entry is_line (e ∷ es)) + 1 ≡ length (e ∷ es)) [
          | true ↦ λ same. rw same (omega arith)
          | false ↦ λ other.
              let more = length-remove_entry es f (rw other at some) in rw other (omega arith)
        ]) refl

    -- an entry that is found for the line has it as its key
    pub string_bytes-lookup_entry : (es : List (Entry A)) (e : Entry A)
        → lookup_entry is_line es ≡ Some e → string_bytes e.0 ≡ line
    string_bytes-lookup_entry es e some =
        let same = (Contains-lookup_entry is_line es e some).1 in
        sym ((bytes_eq-Decides line (string_bytes e.0)).0 same)

    promoted_cases : (es : List (Entry A)) (o : Option (Entry A))
        → lookup_entry is_line es ≡ o → IsParted es
        → pairs_of (option_map_or (λ e. e ∷ remove_entry is_line es) o es)
        ≡ in_front line (pairs_of es)
    promoted_cases es None none by = rw (by.found, by.left, none, remove_entry-none es none)
    promoted_cases es (Some e) some by = rw (by.found, by.left, some)

    pub pairs_of-promoted : (es : List (Entry A)) → AreApart (pairs_of es)
        → pairs_of (promoted is_line es) ≡ in_front line (pairs_of es)
    pairs_of-promoted es apart = promoted_cases es (lookup_entry is_line es) refl (parted es apart)

  module _ (key value : String A) (es : List (Entry A)) where
    abbrev line : List ℕ
    line = string_bytes key

    abbrev reply : List ℕ
    reply = string_bytes value

    -- the entries but that of the line
    abbrev left : List (Entry A)
    left = remove_entry (is_line line) es

    put_cases : (o : Option (Entry A)) → lookup_entry (is_line line) es ≡ o → length es ≤ room
        → IsParted line es
        → pairs_of (option_map_or (λ e. (e.0, value) ∷ left) o ((key, value) ∷ take (room - 1) es))
        ≡ after_keeping line reply (pairs_of es)
    put_cases None none few by =
        let same : without line (pairs_of es) ≡ pairs_of es =
        by.left ∙ ap pairs_of (remove_entry-none line es none) in
        ap (λ l. kept line reply ∷ l) (sym (take-map kept_of 255 es) ∙ ap (take 255) (sym same))
    put_cases (Some e) some few by =
        let fits : length (pairs_of left) ≤ 255 =
        omega (arith, length-remove_entry line es e some, length-map left (kept_of {A = A})) in
        let rest : take 255 (without line (pairs_of es)) ≡ pairs_of left =
        ap (take 255) by.left ∙ take_all 255 (pairs_of left) fits in
        ap (λ l. kept l reply ∷ pairs_of left) (string_bytes-lookup_entry line es e some)
        ∙ ap (λ l. kept line reply ∷ l) (sym rest)

  pub pairs_of-put_entries : (c : LruCache (String A) (String A)) (key value : String A)
      → c.cap ≡ room → IsMemo (pairs_of c.entries)
      → pairs_of (put_entries string_eq c key value)
      ≡ after_keeping (string_bytes key) (string_bytes value) (pairs_of c.entries)
  pairs_of-put_entries c key value cap memo =
      let line = string_bytes key in
      let few : length c.entries ≤ room =
      omega (arith, length-map c.entries (kept_of {A = A}), memo.few) in
      rw cap (put_cases key value c.entries (lookup_entry (is_line line) c.entries) refl few
      (parted line c.entries memo.apart))
