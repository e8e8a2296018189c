-- The first event of a walk that stops, in a stretch for each number.
--   rels a presentation · t table · f the events of each number, e one event of each · h halt
--   low d   the numbers of a list, d of them from low on · k one of them
use Rattle.std.proofs.Common.{◌≡◌, ℕ, zero, suc, ◌+◌, ◌-◌, ◌<◌, ◌≤◌, List, [], ◌∷◌, ◌++◌, sym, ap, ◌∙◌, subst, arith}
use Rattle.std.specs.List.{flat_map}
use Rattle.std.proofs.lemmas.List.Elements.{All-nil, All-append}
use Rattle.std.proofs.lemmas.List.Concat.{flat_map-append, flat_map_single}
use Rattle.nil_word.specs.Congruence.{Relations}
use Rattle.nil_word.specs.Exponents.{numbers}
use Rattle.hall_table.specs.Tabled.{Tabled, last_of}
use Rattle.identity_check.specs.declared.halt.Halt.{Halt}
use Rattle.identity_check.specs.Sides.{xs}
use Rattle.identity_check.specs.Events.{Event, at_each, Stops}
use Rattle.identity_check.specs.Halts.{IsHalt}
use Rattle.identity_check.proofs.Halting.{NoneOf, halt_sooner, halt_later}

-- ---- a stretch for each number
pub numbers-append : (low c d : ℕ) → numbers low (c + d) ≡ numbers low c ++ numbers (low + c) d
numbers-append low zero d =
    ap (λ (n : ℕ). numbers low n) (let e : 0 + d ≡ d = omega arith in e)
    ∙ ap (λ (n : ℕ). numbers n d) (let e : low ≡ low + 0 = omega arith in e)
numbers-append low (suc c) d =
    ap (λ (n : ℕ). numbers low n) (let e : suc c + d ≡ suc (c + d) = omega arith in e)
    ∙ ap (λ (ks : List ℕ). low ∷ ks)
    (numbers-append (suc low) c d
    ∙ ap (λ (n : ℕ). numbers (suc low) c ++ numbers n d)
    (let e : suc low + c ≡ low + suc c = omega arith in e))

flat_split : (f : ℕ → List Event) (low d k : ℕ) → low ≤ k → k < low + d
    → flat_map f (numbers low d)
    ≡ flat_map f (numbers low (k - low)) ++ (f k ++ flat_map f (numbers (suc k) (low + d - suc k)))
flat_split f low d k l u =
    ap (λ (n : ℕ). flat_map f (numbers low n))
    (let e : d ≡ (k - low) + suc (low + d - suc k) = omega arith in e)
    ∙ ap (flat_map f) (numbers-append low (k - low) (suc (low + d - suc k)))
    ∙ flat_map-append f (numbers low (k - low)) (numbers (low + (k - low)) (suc (low + d - suc k)))
    ∙ ap (λ (m : ℕ). flat_map f (numbers low (k - low)) ++ flat_map f (numbers m (suc (low + d - suc k))))
    (let e : low + (k - low) ≡ k = omega arith in e)

pub halt_flat : (rels : Relations) (t : Tabled) (f : ℕ → List Event) (low d k : ℕ) (h : Halt)
    → low ≤ k → k < low + d → NoneOf rels t (flat_map f (numbers low (k - low)))
    → IsHalt rels t (f k) h → IsHalt rels t (flat_map f (numbers low d)) h
halt_flat rels t f low d k h l u n i =
    subst (λ (es : List Event). IsHalt rels t es h) (sym (flat_split f low d k l u))
    (halt_later rels t (flat_map f (numbers low (k - low)))
    (f k ++ flat_map f (numbers (suc k) (low + d - suc k))) h n
    (halt_sooner rels t (f k) (flat_map f (numbers (suc k) (low + d - suc k))) h i))

pub none_flat : (rels : Relations) (t : Tabled) (f : ℕ → List Event) (low k : ℕ) → low ≤ k
    → NoneOf rels t (flat_map f (numbers low (k - low))) → NoneOf rels t (f k)
    → NoneOf rels t (flat_map f (numbers low (k + 1 - low)))
none_flat rels t f low k l n m =
    subst (NoneOf rels t)
    (sym (ap (λ (d : ℕ). flat_map f (numbers low d))
    (let e : k + 1 - low ≡ (k - low) + 1 = omega arith in e)
    ∙ ap (flat_map f) (numbers-append low (k - low) 1)
    ∙ flat_map-append f (numbers low (k - low)) (numbers (low + (k - low)) 1)
    ∙ ap (λ (i : ℕ). flat_map f (numbers low (k - low)) ++ flat_map f (numbers i 1))
    (let e : low + (k - low) ≡ k = omega arith in e)))
    (All-append (λ (d : Event). ¬ Stops rels t d) (flat_map f (numbers low (k - low))) (f k ++ []) n
    (All-append (λ (d : Event). ¬ Stops rels t d) (f k) [] m
    (All-nil (λ (d : Event). ¬ Stops rels t d))))

-- ---- an event for each number
single : (ℕ → Event) → ℕ → List Event
single e k = e k ∷ []

each_is : (e : ℕ → Event) (ks : List ℕ) → flat_map (single e) ks ≡ at_each ks e
unfolding single
each_is e ks = flat_map_single e ks

pub halt_each : (rels : Relations) (t : Tabled) (e : ℕ → Event) (low d k : ℕ) (h : Halt)
    → low ≤ k → k < low + d → NoneOf rels t (at_each (numbers low (k - low)) e)
    → IsHalt rels t (e k ∷ []) h → IsHalt rels t (at_each (numbers low d) e) h
unfolding single
halt_each rels t e low d k h l u n i =
    subst (λ (es : List Event). IsHalt rels t es h) (each_is e (numbers low d))
    (halt_flat rels t (single e) low d k h l u
    (subst (NoneOf rels t) (sym (each_is e (numbers low (k - low)))) n) i)

pub none_each : (rels : Relations) (t : Tabled) (e : ℕ → Event) (low k : ℕ) → low ≤ k
    → NoneOf rels t (at_each (numbers low (k - low)) e) → NoneOf rels t (e k ∷ [])
    → NoneOf rels t (at_each (numbers low (k + 1 - low)) e)
unfolding single
none_each rels t e low k l n m =
    subst (NoneOf rels t) (each_is e (numbers low (k + 1 - low)))
    (none_flat rels t (single e) low k l
    (subst (NoneOf rels t) (sym (each_is e (numbers low (k - low)))) n) m)

pub none_begins : (rels : Relations) (t : Tabled) (e : ℕ → Event) (low : ℕ)
    → NoneOf rels t (at_each (numbers low (low - low)) e)
none_begins rels t e low =
    subst (λ (d : ℕ). NoneOf rels t (at_each (numbers low d) e)) (let z : 0 ≡ low - low = omega arith in z)
    (All-nil (λ (d : Event). ¬ Stops rels t d))

pub none_begins_flat : (rels : Relations) (t : Tabled) (f : ℕ → List Event) (low : ℕ)
    → NoneOf rels t (flat_map f (numbers low (low - low)))
none_begins_flat rels t f low =
    subst (λ (d : ℕ). NoneOf rels t (flat_map f (numbers low d))) (let z : 0 ≡ low - low = omega arith in z)
    (All-nil (λ (d : Event). ¬ Stops rels t d))

pub each_ends : (rels : Relations) (t : Tabled) (e : ℕ → Event) (k : ℕ)
    → k - t.level ≡ suc (last_of t) - t.level
    → NoneOf rels t (at_each (numbers t.level (k - t.level)) e) → NoneOf rels t (at_each (xs t) e)
each_ends rels t e k s n = subst (λ (d : ℕ). NoneOf rels t (at_each (numbers t.level d) e)) s n

pub flat_ends : (rels : Relations) (t : Tabled) (f : ℕ → List Event) (k : ℕ)
    → k - t.level ≡ suc (last_of t) - t.level
    → NoneOf rels t (flat_map f (numbers t.level (k - t.level))) → NoneOf rels t (flat_map f (xs t))
flat_ends rels t f k s n = subst (λ (d : ℕ). NoneOf rels t (flat_map f (numbers t.level d))) s n
