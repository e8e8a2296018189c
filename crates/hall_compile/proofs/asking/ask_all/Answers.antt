use Rattle.std.proofs.Common.{◌≡◌, ℕ, ◌+◌, ◌<◌, List, [], ◌∷◌, ◌++◌, length, map, get_or, refl, sym, ap, ◌∙◌, subst, rules}
use Rattle.std.specs.Prelude.{Some, None}
use Rattle.std.proofs.Math.Seq.{map-set_same}
use Rattle.std.proofs.lemmas.List.{get_or-map, length-map}
use Rattle.nil_pres.specs.Presented.{Presented}
use Rattle.hall_table.specs.Multiplies.{Paired}
use Rattle.hall_compile.specs.declared.asked.Asked.{Asked}
use Rattle.hall_compile.specs.declared.asking.Accepted.{Accepted}
use Rattle.hall_compile.specs.Proposals.{Proposal, proposal, IsAccepted, IsAsked, IsTaken}
use Rattle.hall_compile.specs.Passing.{Asks, IsJudged}
use Rattle.hall_compile.proofs.AskedSoFar.{AskedUpTo, one_more, taken}
use Rattle.hall_compile.proofs.asking.ask_all.Goals as goal

not_none : {A : Type 0} {a : A} → Some a ≡ None → ⊥
not_none e = cc

same_some : {A : Type 0} {a b : A} → Some a ≡ Some b → a ≡ b
same_some e = cc

at_equal {ℓ} : {A : Type ℓ} (f : A → ℕ) (m : ℕ) (v w : A) → m ≡ f v → v ≡ w → m ≡ f w
at_equal f m v w e same = e ∙ ap f same

-- ---- the next of the proposals
module _ {X : Type 0} (f : X → Proposal) (p : Presented) (i : ℕ) (initial xs : List X) (k : ℕ)
    (d : X) (old new : List Asked) (h : AskedUpTo p i (map f initial) k old new)
    (same : map f xs ≡ map f initial) (below : k < length initial) where
  abbrev x : X
  x = get_or xs k d

  within : k < length (map f initial)
  within = subst (λ (n : ℕ). k < n) (sym (length-map initial f)) below

  within_now : k < length xs
  within_now =
      subst (λ (n : ℕ). k < n) (ap length (sym same) ∙ length-map xs f) within

  next_is : get_or (map f initial) k (f x) ≡ f x
  next_is =
      ap (λ (os : List Proposal). get_or os k (f x)) (sym same)
      ∙ get_or-map f xs k d (f x) within_now

  taken_asks : (label : ℕ) (c : Paired) → label ≡ (f x).label
      → (c.pres ≡ p) × ((f x).table ≡ Some c.table) × IsAccepted p i c.table
      → Asks p i (map f initial) old new (Some record { label = label; checked = c })
  taken_asks label c named judged =
      let proposed : f x ≡ proposal label (Some c.table) =
      ap (λ (l : ℕ). proposal l (f x).table) (sym named) ∙ ap (proposal label) judged.1 in
      record {
        more = h.more;
        written = h.written;
        none = λ e. absurd (not_none e);
        some = λ a e. subst
            (λ (b : Accepted). (b.checked.pres ≡ p)
            × IsTaken p i (map f initial) b.label b.checked.table h.more) (same_some e) (
              judged.0,
              taken p i (map f initial) k old new (f x) label c.table h within
                  (next_is ∙ proposed) judged.2,
            );
      }

  left_asked : (a : Asked) (newer : List Asked) → newer ≡ new ++ a ∷ [] → IsAsked p i (f x) a
      → AskedUpTo p i (map f initial) (k + 1) old newer
  left_asked a newer e asked =
      subst (AskedUpTo p i (map f initial) (k + 1) old) (sym e)
      (one_more p i (map f initial) k old new a (f x) h within
      (subst (λ (o : Proposal). IsAsked p i o a) (sym next_is) asked))

pub returns-in_err-checked-clause-same : goal.returns-in_err-checked-clause-same
returns-in_err-checked-clause-same g c l =
    let at = c.loop-proposer in
    map-set_same _ at.proposers at.proposer-index c.ask.new.proposer c.proposer-item.result
    (c.ask.ensures.same l) ∙ at.invariant.same l

pub returns-in-Taken-clause-same : goal.returns-in-Taken-clause-same
returns-in-Taken-clause-same g c l =
    let at = c.loop-proposer in
    map-set_same _ at.proposers at.proposer-index c.ask.new.proposer c.proposer-item.result
    (c.ask.ensures.same l) ∙ at.invariant.same l

pub returns-in_err-push-in-Left-clause-same : goal.returns-in_err-push-in-Left-clause-same
returns-in_err-push-in-Left-clause-same g c l =
    let at = c.loop-proposer in
    map-set_same _ at.proposers at.proposer-index c.ask.new.proposer c.proposer-item.result
    (c.ask.ensures.same l) ∙ at.invariant.same l

pub returns-in-Taken-clause-asks : goal.returns-in-Taken-clause-asks
returns-in-Taken-clause-asks g c =
    let at = c.loop-proposer in
    let label = λ (v : _). (goal.Proposer-dyn g v).named v.1 in
    let x = get_or at.proposers at.proposer-index c.proposer-item.result in
    taken_asks _ c.args.pres.now c.args.i c.args.proposers.now at.proposers at.proposer-index
    c.proposer-item.result c.args.asked.now.items at.asked.items at.invariant.asked
    (at.invariant.same c.args.i) c.loop-proposer-test.true c.label-label.result
    c.in-Taken.checked (at_equal label _ _ (x.vtable, x.value) c.label-label.ensures (search rules))
    (subst (IsJudged c.args.pres.now c.args.i _) c.in-Taken.is c.in_ok-checked.ensures.judged)

pub loop-proposer-preserved : goal.loop-proposer-preserved
loop-proposer-preserved g c =
    let at = c.loop-proposer in
    let label = λ (v : _). (goal.Proposer-dyn g v).named v.1 in
    let x = get_or at.proposers at.proposer-index c.proposer-item.result in
    record {
      asked = left_asked _ c.args.pres.now c.args.i c.args.proposers.now at.proposers
          at.proposer-index c.proposer-item.result c.args.asked.now.items at.asked.items
          at.invariant.asked (at.invariant.same c.args.i) c.loop-proposer-test.true _
          c.push.new.self.items c.in_ok-push-in-Left.ensures.items record {
            level = refl;
            label = at_equal label _ _ (x.vtable, x.value) c.label-label.ensures (search rules);
            reason = subst (IsJudged c.args.pres.now c.args.i _) c.in-Left.is
                c.in_ok-checked.ensures.judged;
          };
      same = λ m. map-set_same _ at.proposers at.proposer-index c.ask.new.proposer
          c.proposer-item.result (c.ask.ensures.same m) ∙ at.invariant.same m;
    }
