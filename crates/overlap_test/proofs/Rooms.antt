-- What a room for overlaps holds, and how long the vectors are that are written to it.
--   w room · c presentation with a table above level i · l m generators above it
--   s syllable · a b u v z before now vectors · e exponent · r result, or outcome
use Rattle.std.proofs.Common.{◌≡◌, ℕ, ◌-◌, ◌<◌, ◌≤◌, ℤ, List, [], ◌∷◌, length, get_or, ◌∙◌, ap, sym}
use Rattle.std.specs.Prelude.{Result, Ok, Err, OnErr}
use Rattle.std.specs.Prelude.{FitsSigned}
use Rattle.std.specs.Int.{w64}
use mir.Syntax.{w128}
use mir.Val.{to_z, of_z}
use Rattle.std.proofs.lemmas.Int.{to_z-of_z}
use Rattle.nil_num.specs.Outcome.{Writes}
use Rattle.nil_pres.specs.declared.syllable.Syllable.{Syllable}
use Rattle.hall_table.specs.declared.wide_at.WideAt.{WideAt}
use Rattle.hall_table.specs.Multiplies.{Paired, IsChecked}
use Rattle.hall_table.specs.Order.{multiplied}
use Rattle.group_eval.specs.Order.{Outcome, powered}
use Rattle.group_eval.specs.Space.{Space, IsSpaceOf, AreOf}
use Rattle.group_eval.proofs.Narrow.{narrow_multiplied, narrow_powered}
use Rattle.overlap_test.specs.declared.ways.Ways.{Ways}
use Rattle.overlap_test.specs.Room.{IsRoomOf, WritesWays}
use Rattle.overlap_test.specs.Verdict.{judged}
use Rattle.overlap_test.specs.Ways.{image, joined_to, power_joined, first_written, second_written}
use Rattle.overlap_test.proofs.Imaging.{image_place, image_at, length-image, small-image}

pub place : {w : Ways} {c : Paired} {i : ℕ} → IsRoomOf w c i → (l : ℕ) → i < l
    → l ≤ length c.pres.names → l - i - 1 < length w.images.items
place {w} {c} {i} room l a b = image_place c.pres i l w.images.items room.images a b

pub at_place : {w : Ways} {c : Paired} {i : ℕ} → IsRoomOf w c i → (l : ℕ) (v : List ℤ) → i < l
    → l ≤ length c.pres.names → v ≡ get_or w.images.items (l - i - 1) v → v ≡ image c.pres i l
at_place {w} {c} {i} room l v a b = image_at c.pres i l w.images.items v room.images a b

pub length-at_place : {w : Ways} {c : Paired} {i : ℕ} → IsRoomOf w c i → (l : ℕ) (v : List ℤ)
    → i < l → l ≤ length c.pres.names → v ≡ get_or w.images.items (l - i - 1) v
    → length v ≡ length c.pres.names
length-at_place {w} {c} {i} room l v a b is =
    ap length (at_place room l v a b is) ∙ length-image c.pres i l

-- the product of two images, as the code has it
pub product_is : {w : Ways} {c : Paired} {i : ℕ} → IsRoomOf w c i → (l m : ℕ) (u v : List ℤ)
    (r : Outcome) → i < l → l ≤ length c.pres.names → i < m → m ≤ length c.pres.names
    → u ≡ get_or w.images.items (l - i - 1) u → v ≡ get_or w.images.items (m - i - 1) v
    → multiplied c.table u v ≡ r → multiplied c.table (image c.pres i l) (image c.pres i m) ≡ r
product_is {w} {c} {i} room l m u v r a b d e is also h =
    ap (λ (x : List ℤ). multiplied c.table x (image c.pres i m)) (sym (at_place room l u a b is))
    ∙ ap (multiplied c.table u) (sym (at_place room m v d e also))
    ∙ h

-- the power of an image, as the code has it
pub power_is : {w : Ways} {c : Paired} {i : ℕ} → IsRoomOf w c i → (s : Syllable) (v : List ℤ)
    (e : ℤ) (r : Outcome) → i < s.number → s.number ≤ length c.pres.names
    → v ≡ get_or w.images.items (s.number - i - 1) v → e ≡ s.exp → powered c.table v e ≡ r
    → powered c.table (image c.pres i s.number) s.exp ≡ r
power_is {w} {c} {i} room s v e r a b is same h =
    ap (λ (u : List ℤ). powered c.table u s.exp) (sym (at_place room s.number v a b is))
    ∙ ap (powered c.table v) (sym same)
    ∙ h

pub joined_err : (c : Paired) (i : ℕ) (v : List ℤ) (s : Syllable) (at : WideAt)
    → powered c.table (image c.pres i s.number) s.exp ≡ Err at → power_joined c i v s ≡ Err at
joined_err c i v s at h = ap (joined_to c.table v) h

pub joined_is : (c : Paired) (i : ℕ) (v z : List ℤ) (s : Syllable) (r : Outcome)
    → powered c.table (image c.pres i s.number) s.exp ≡ Ok z → multiplied c.table v z ≡ r
    → power_joined c i v s ≡ r
joined_is c i v z s r h m = ap (joined_to c.table v) h ∙ m

-- an exponent of 64 bits as one of 128
pub exponent_is : (e z : ℤ) → FitsSigned w64 e → FitsSigned w128 z → z ≡ to_z w64 (of_z w64 e)
    → to_z w128 (of_z w128 z) ≡ e
exponent_is e z narrow wide h = to_z-of_z w128 z wide ∙ h ∙ to_z-of_z w64 e narrow

-- it serves with other vectors of the same length
pub refilled : {w : Ways} {c : Paired} {i : ℕ} → IsRoomOf w c i → (ws : Space)
    (first second power product : List ℤ) → IsSpaceOf ws c
    → AreOf c (first ∷ second ∷ power ∷ product ∷ [])
    → IsRoomOf record {
      ws = ws;
      images = w.images;
      first = first;
      second = second;
      power = power;
      product = product;
    } c i
refilled room ws first second power product space vectors = record {
  presented = room.presented;
  checked = room.checked;
  ws = space;
  images = room.images;
  vectors = vectors;
}

-- ---- what is written has an entry for each generator
pub length-multiplied : (c : Paired) (a b x : List ℤ) → IsChecked c → multiplied c.table a b ≡ Ok x
    → length x ≡ length c.pres.names
length-multiplied c a b x h is = (narrow_multiplied c.table a b x is).entries ∙ h.last

pub length-powered : {w : Ways} {c : Paired} {i : ℕ} → IsRoomOf w c i → (l : ℕ) (e : ℤ) (x : List ℤ)
    → 1 ≤ i → i < l → l ≤ length c.pres.names → powered c.table (image c.pres i l) e ≡ Ok x
    → length x ≡ length c.pres.names
length-powered {w} {c} {i} room l e x least a b is =
    (narrow_powered c.table (image c.pres i l) e
    record {
      entries = length-image c.pres i l ∙ sym room.checked.last;
      small = small-image c.pres i l room.presented least a b;
    } x is).entries
    ∙ room.checked.last

pub length-written : (c : Paired) (r : Result (Unit {0}) WideAt) (a b before now : List ℤ)
    → IsChecked c → Writes r now (multiplied c.table a b) → OnErr r (now ≡ before)
    → length before ≡ length c.pres.names → length now ≡ length c.pres.names
length-written c (Ok u) a b before now h is same size = length-multiplied c a b now h is
length-written c (Err at) a b before now h is same size = ap length same ∙ size

-- ---- both ways
pub written_ways : (c : Paired) (i j k : ℕ) (r : Result (Unit {0}) WideAt) (w : Ways)
    → first_written c i j k ≡ Ok w.first → Writes r w.second (second_written c i j k)
    → WritesWays r w c i j k
written_ways c i j k (Ok u) w first second = (first, second)
written_ways c i j k (Err at) w first second =
    ap (λ (r : Outcome). judged i j k r (second_written c i j k)) first
    ∙ ap (judged i j k (Ok w.first)) second
