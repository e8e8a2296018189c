-- The first event of a walk that stops, in longer stretches.
--   rels a presentation · t table · es events · e event, or one for each number · h halt
--   low d   the numbers of a list, d of them from low on · k one of them
use Rattle.std.proofs.Common.{◌≡◌, ◌≢◌, List, [], ◌∷◌, ◌++◌, refl, sym, ap, ◌∙◌, subst, inl, inr, append_assoc}
use Rattle.std.specs.Prelude.{All, Result, Ok, Err}
use Rattle.std.proofs.lemmas.List.Elements.{All-nil, All-cons, All-append}
use lib.IntN.{ℤ}
use Rattle.nil_word.specs.Congruence.{Relations}
use Rattle.binom_poly.specs.declared.part.Part.{Part}
use Rattle.binom_poly.specs.declared.term.Term.{Term}
use Rattle.binom_poly.specs.Difference.{IsFirstDifference}
use Rattle.binom_poly.specs.Totals.{coefficient_at}
use Rattle.hall_table.specs.Tabled.{Tabled}
use Rattle.identity_check.specs.declared.identity.Identity.{Identity}
use Rattle.identity_check.specs.declared.failure.Failure.{Failure}
use Rattle.identity_check.specs.declared.halt.Halt.{Halt}
use Rattle.identity_check.specs.declared.halt.Halt.TheVariants.{Failed, Wide, Memory}
use Rattle.identity_check.specs.Sides.{xs, left_of, right_of}
use Rattle.identity_check.specs.Overflowing.{SidesOverflow}
use Rattle.identity_check.specs.Events.{Event, Overflows, Stops, IsFirst}
use Rattle.identity_check.specs.Events.Event.{makes, tries}
use Rattle.identity_check.specs.Failures.{parts_of, identity_of, FailsFirst}
use Rattle.identity_check.specs.Halts.{IsHalt, WalksIn, Compares}

abbrev pub NoneOf : Relations → Tabled → List Event → Type 0
NoneOf rels t es = All (λ e. ¬ Stops rels t e) es

-- ---- one event
first_one : (P : Event → Type 0) (e : Event) → P e → IsFirst P (e ∷ []) e
first_one P e h = record {
  before = [];
  after = [];
  listed = refl;
  holds = h;
  none_before = All-nil (λ (d : Event). ¬ P d);
}

are_different : (p q : List Term) (f : Failure)
    → IsFirstDifference p q (parts_of f.point.items) f.left f.right → p ≢ q
are_different p q f d e =
    d.differ (sym d.left_is ∙ ap (coefficient_at (parts_of f.point.items)) e ∙ d.right_is)

pub failed_one : (rels : Relations) (t : Tabled) (id : Identity) (f : Failure) → f.identity ≡ id
    → ¬ SidesOverflow t id
    → IsFirstDifference (left_of t id) (right_of rels t id) (parts_of f.point.items) f.left f.right
    → FailsFirst rels t (tries id ∷ []) f
failed_one rels t id f e n d =
    subst (λ (i : Identity). FailsFirst rels t (tries i ∷ []) f) e
    (let m : ¬ SidesOverflow t f.identity = subst (λ (i : Identity). ¬ SidesOverflow t i) (sym e) n in
    let g : IsFirstDifference (left_of t f.identity) (right_of rels t f.identity)
    (parts_of f.point.items) f.left f.right =
    subst (λ (i : Identity). IsFirstDifference (left_of t i) (right_of rels t i)
    (parts_of f.point.items) f.left f.right) (sym e) d in
    record {
      first = first_one (Stops rels t) (tries f.identity)
          (inr (are_different (left_of t f.identity) (right_of rels t f.identity) f g));
      fits = m;
      differs = g;
    })

pub wide_one : (rels : Relations) (t : Tabled) (e : Event) → Overflows t e
    → IsHalt rels t (e ∷ []) (Wide (identity_of e))
wide_one rels t e h =
    record { event = e; names = refl; first = first_one (Stops rels t) e (inl h); overflows = h }

pub none_one : (rels : Relations) (t : Tabled) (id : Identity) → ¬ SidesOverflow t id
    → left_of t id ≡ right_of rels t id → NoneOf rels t (tries id ∷ [])
none_one rels t id n e =
    All-cons (λ (d : Event). ¬ Stops rels t d) (tries id) [] (not_stopped n e)
    (All-nil (λ (d : Event). ¬ Stops rels t d))
  where
    not_stopped : ¬ SidesOverflow t id → left_of t id ≡ right_of rels t id
        → ¬ Stops rels t (tries id)
    not_stopped f g (inl w) = f w
    not_stopped f g (inr w) = w g

pub none_made : (rels : Relations) (t : Tabled) (id : Identity) → ¬ Overflows t (makes id)
    → NoneOf rels t (makes id ∷ [])
none_made rels t id n =
    All-cons (λ (d : Event). ¬ Stops rels t d) (makes id) [] (not_stopped n)
    (All-nil (λ (d : Event). ¬ Stops rels t d))
  where
    not_stopped : ¬ Overflows t (makes id) → ¬ Stops rels t (makes id)
    not_stopped f (inl w) = f w
    not_stopped f (inr w) = w

-- what a comparison of the two sides says of the event
pub compared : (rels : Relations) (t : Tabled) (id : Identity) (p q : List Term)
    (r : Result (Unit {0}) Halt) → p ≡ left_of t id → q ≡ right_of rels t id → ¬ SidesOverflow t id
    → Compares id p q r → WalksIn rels t (tries id ∷ []) r
compared rels t id p q (Ok x) l m n h = none_one rels t id n (sym l ∙ h ∙ m)
compared rels t id p q (Err (Failed f)) l m n h =
    failed_one rels t id f h.0 n
    (subst (λ (u : List Term). IsFirstDifference u (right_of rels t id) (parts_of f.point.items)
    f.left f.right) l
    (subst (λ (u : List Term). IsFirstDifference p u (parts_of f.point.items) f.left f.right) m h.1))
compared rels t id p q (Err (Wide i)) l m n h = absurd h
compared rels t id p q (Err Memory) l m n h = tt

-- ---- longer lists
first_sooner : (P : Event → Type 0) (xs ys : List Event) (e : Event) → IsFirst P xs e
    → IsFirst P (xs ++ ys) e
first_sooner P xs ys e f = record {
  before = f.before;
  after = f.after ++ ys;
  listed = ap (λ (zs : List Event). zs ++ ys) f.listed ∙ append_assoc f.before (e ∷ f.after) ys;
  holds = f.holds;
  none_before = f.none_before;
}

first_later : (P : Event → Type 0) (xs ys : List Event) (e : Event) → All (λ d. ¬ P d) xs
    → IsFirst P ys e → IsFirst P (xs ++ ys) e
first_later P xs ys e n f = record {
  before = xs ++ f.before;
  after = f.after;
  listed = ap (λ (zs : List Event). xs ++ zs) f.listed ∙ sym (append_assoc xs f.before (e ∷ f.after));
  holds = f.holds;
  none_before = All-append (λ (d : Event). ¬ P d) xs f.before n f.none_before;
}

pub halt_sooner : (rels : Relations) (t : Tabled) (xs ys : List Event) (h : Halt)
    → IsHalt rels t xs h → IsHalt rels t (xs ++ ys) h
halt_sooner rels t xs ys (Failed f) h = record {
  first = first_sooner (Stops rels t) xs ys (tries f.identity) h.first;
  fits = h.fits;
  differs = h.differs;
}
halt_sooner rels t xs ys (Wide id) h = record {
  event = h.event;
  names = h.names;
  first = first_sooner (Stops rels t) xs ys h.event h.first;
  overflows = h.overflows;
}
halt_sooner rels t xs ys Memory h = tt

pub halt_later : (rels : Relations) (t : Tabled) (xs ys : List Event) (h : Halt) → NoneOf rels t xs
    → IsHalt rels t ys h → IsHalt rels t (xs ++ ys) h
halt_later rels t xs ys (Failed f) n h = record {
  first = first_later (Stops rels t) xs ys (tries f.identity) n h.first;
  fits = h.fits;
  differs = h.differs;
}
halt_later rels t xs ys (Wide id) n h = record {
  event = h.event;
  names = h.names;
  first = first_later (Stops rels t) xs ys h.event n h.first;
  overflows = h.overflows;
}
halt_later rels t xs ys Memory n h = tt

-- ---- the rest of a walk, and the rest of a failure
pub moved : (p q : List Term) (ms ns : List Part) (l x r y : ℤ) → IsFirstDifference p q ms l r
    → ns ≡ ms → x ≡ l → y ≡ r → IsFirstDifference p q ns x y
moved p q ms ns l x r y d e f g =
    subst (λ (ks : List Part). IsFirstDifference p q ks x y) (sym e)
    (subst (λ (z : ℤ). IsFirstDifference p q ms z y) (sym f)
    (subst (λ (z : ℤ). IsFirstDifference p q ms l z) (sym g) d))

pub later_walk : {A : Type 0} (rels : Relations) (t : Tabled) (xs ys : List Event) (r : Result A Halt)
    → NoneOf rels t xs → WalksIn rels t ys r → WalksIn rels t (xs ++ ys) r
later_walk rels t xs ys (Ok x) n w = All-append (λ (d : Event). ¬ Stops rels t d) xs ys n w
later_walk rels t xs ys (Err h) n w = halt_later rels t xs ys h n w
