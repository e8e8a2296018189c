-- As far as a source is read.
--   HasRead reply P limit room ..   what was taken is within the limit with so much room, and its
--                                   lines are answered and meet P
use Rattle.std.proofs.Common.{◌≡◌, ℕ, ◌+◌, ◌-◌, ◌<◌, ◌≤◌, List, [], ◌++◌, length, take, Option, Some, None, Err, unwrap_or, refl, sym, subst, arith, append-nil, length-append, take_all}
use Rattle.std.specs.Prelude.{IfSome}
use Rattle.std.specs.Io.KnownBytes.{Keeps, Consumes, IsAtEnd}
use Rattle.std.proofs.KnownBytes.{Consumes-nil, Consumes-trans, Consumes-kept}
use Rattle.nil_io.specs.Causes.{Rose, RoseBy}
use Rattle.session_io.specs.declared.end.End.TheVariants as end
use Rattle.session_io.specs.declared.stop.Stop.{Stop}
use Rattle.session_io.specs.declared.stop.Stop.TheVariants as stop
use Rattle.session_io.specs.Asked.{fed}
use Rattle.session_io.specs.Lines.{whole_lines}
use Rattle.session_io.specs.Taking.{IsTaken, finished, failed, long}
use Rattle.session_io.specs.Answers.{replies_by, by_reply, IsAnswered}
use Rattle.session_io.specs.Holding.{AreAnswered}
use Rattle.session_io.specs.Reading.{IsRead}
use Rattle.session_io.specs.Recalling.{IsRecalled}
use Rattle.session_io.specs.Stops.{IsStopped}
use Rattle.session_io.proofs.Holding.{take-fill}
use Rattle.session_io.proofs.PieceByPiece.{AreAnswered-none, AreAnswered-append, IsStopped-append, whole_lines-more}
use Rattle.session_io.proofs.Promising.{IsAnswered-lines, IsAnswered-none}
use Rattle.session_io.proofs.Recalled.{IsRecalled-stopped, IsRecalled-none}

left-is : (o : Option (List ℕ)) → IfSome o (λ left. unwrap_or o [] ≡ left)
left-is None = tt
left-is (Some xs) = refl

none_left : (o : Option (List ℕ)) → IsAtEnd o → unwrap_or o [] ≡ []
none_left None h = refl
none_left (Some xs) h = h

-- nothing was taken
IsTaken-none : (limit : ℕ) (left : Option (List ℕ)) (faults given : ℕ)
    → IsTaken limit (fed left left faults faults given given) [] (unwrap_or left [])
IsTaken-none limit left faults given = record {
  took = Consumes-nil left;
  left = left-is left;
  given = (omega arith, omega arith);
  bound = omega arith;
}

pub IsAnswered-untaken : (reply : List ℕ → List ℕ) (limit : ℕ) (left : Option (List ℕ))
    (faults given : ℕ) (o : Option (List ℕ))
    → IsAnswered (by_reply reply) limit (fed left left faults faults given given) (Err stop.Memory) o o
IsAnswered-untaken reply limit left faults given o =
    IsAnswered-none reply limit (fed left left faults faults given given) [] (unwrap_or left [])
    (IsTaken-none limit left faults given) o

pub IsRecalled-untaken : (recalls : List (List ℕ) → Type 0)
    → ((lines more : List (List ℕ)) → recalls lines → recalls (lines ++ more)) → (limit : ℕ)
    (left : Option (List ℕ)) (faults given : ℕ) → recalls []
    → IsRecalled recalls limit (fed left left faults faults given given)
IsRecalled-untaken recalls widens limit left faults given h =
    IsRecalled-none recalls widens limit (fed left left faults faults given given) []
    (unwrap_or left []) (IsTaken-none limit left faults given) h

pub record HasRead (reply : List ℕ → List ℕ) (P : List (List ℕ) → Type 0) (limit room : ℕ)
    (left left' : Option (List ℕ)) (given given' : ℕ) (held_bytes : List ℕ)
    (old new : Option (List ℕ)) : Type 0 where
  pub taken : List ℕ
  pub took : Consumes left left' taken
  pub counted : RoseBy (length taken) given given'
  pub within : length taken + room ≡ limit
  pub answered : AreAnswered reply taken held_bytes old new
  pub meet : P (whole_lines taken)

pub HasRead-none : (reply : List ℕ → List ℕ) (P : List (List ℕ) → Type 0) (limit : ℕ)
    (left : Option (List ℕ)) (given : ℕ) (h : List ℕ) (o : Option (List ℕ)) → P [] → h ≡ []
    → HasRead reply P limit limit left left given given h o o
HasRead-none reply P limit left given h o none e = record {
  taken = [];
  took = Consumes-nil left;
  counted = (omega arith, omega arith);
  within = omega arith;
  answered =
      subst (λ (bytes : List ℕ). AreAnswered reply [] bytes o o) (sym e) (AreAnswered-none reply o);
  meet = none;
}

module _ (reply : List ℕ → List ℕ) (P : List (List ℕ) → Type 0) (limit room : ℕ)
    (left left' : Option (List ℕ)) (given given' faults faults' : ℕ) (h : List ℕ)
    (o p : Option (List ℕ)) (r : HasRead reply P limit room left left' given given' h o p) where
  -- the reading ends behind the last piece
  module _ (left'' : Option (List ℕ)) (given'' : ℕ) (keeps : Consumes left left'' r.taken)
      (none : RoseBy 0 given' given'') where
    IsTaken-read : IsTaken limit (fed left left'' faults faults' given given'') r.taken
        (unwrap_or left'' [])
    IsTaken-read = record {
      took = keeps;
      left = left-is left'';
      given = (omega (arith, r.counted.0, none.0), omega (arith, r.counted.1, none.1));
      bound = omega (arith, r.within);
    }

    IsRead-failed : Rose faults faults'
        → IsRead reply P limit (fed left left'' faults faults' given given'') h o p end.Failed
    IsRead-failed rose = record {
      taken = r.taken;
      more = unwrap_or left'' [];
      took = IsTaken-read;
      ended = failed rose (omega (arith, r.within));
      answered = r.answered;
      of_lines = r.meet;
    }

    IsRead-finished : IsAtEnd left''
        → IsRead reply P limit (fed left left'' faults faults' given given'') h o p end.Finished
    IsRead-finished at_end = record {
      taken = r.taken;
      more = unwrap_or left'' [];
      took = IsTaken-read;
      ended = finished at_end (none_left left'' at_end) (omega (arith, r.within));
      answered = r.answered;
      of_lines = r.meet;
    }

  pub HasRead-failed : (left'' : Option (List ℕ)) (given'' : ℕ) → Keeps left' left''
      → given'' ≡ given' → Rose faults faults'
      → IsRead reply P limit (fed left left'' faults faults' given given'') h o p end.Failed
  HasRead-failed left'' given'' keeps none rose =
      IsRead-failed left'' given'' (Consumes-kept left left' left'' r.taken r.took keeps)
      (omega (arith, none), omega (arith, none)) rose

  pub HasRead-finished : (left'' : Option (List ℕ)) (given'' : ℕ) → Consumes left' left'' []
      → RoseBy 0 given' given'' → IsAtEnd left''
      → IsRead reply P limit (fed left left'' faults faults' given given'') h o p end.Finished
  HasRead-finished left'' given'' nothing none at_end =
      IsRead-finished left'' given''
      (subst (Consumes left left'') (append-nil r.taken)
      (Consumes-trans left left' left'' r.taken [] r.took nothing))
      none at_end

  -- a piece was read, and its bytes within the limit were answered as far as that went
  module _ (left'' : Option (List ℕ)) (given'' : ℕ) (piece : List ℕ)
      (took : Consumes left' left'' piece) (counted : RoseBy (length piece) given' given'')
      (few : length piece ≤ 4096) where
    counted-more : RoseBy (length (r.taken ++ piece)) given given''
    counted-more = (
      omega (arith, r.counted.0, counted.0, length-append r.taken piece),
      omega (arith, r.counted.1, counted.1, length-append r.taken piece),
    )

    IsTaken-more : IsTaken limit (fed left left'' faults faults' given given'') (r.taken ++ piece)
        (unwrap_or left'' [])
    IsTaken-more = record {
      took = Consumes-trans left left' left'' r.taken piece r.took took;
      left = left-is left'';
      given = counted-more;
      bound = omega (arith, r.within, few, length-append r.taken piece);
    }

    pub HasRead-stopped : (q : Option (List ℕ)) (s : Stop)
        → IsStopped (replies_by reply (whole_lines (r.answered.line ++ take room piece))) p q s
        → IsAnswered (by_reply reply) limit (fed left left'' faults faults' given given'') (Err s) o q
    HasRead-stopped q s stopped =
        IsAnswered-lines reply limit (fed left left'' faults faults' given given'')
        (r.taken ++ piece) (unwrap_or left'' []) IsTaken-more s o q
        (subst (λ (bytes : List ℕ). IsStopped (replies_by reply (whole_lines bytes)) o q s)
        (take-fill limit r.taken piece room r.within)
        (IsStopped-append reply r.taken h o p r.answered (take room piece) q s stopped))

    -- what holds of its lines behind those before it
    module _ (Q : List (List ℕ) → Type 0)
        (more : P (whole_lines r.taken)
        → Q (whole_lines r.taken ++ whole_lines (r.answered.line ++ take room piece))) where
      meet-more : Q (whole_lines (take limit (r.taken ++ piece)))
      meet-more =
          subst (λ (bytes : List ℕ). Q (whole_lines bytes))
          (take-fill limit r.taken piece room r.within)
          (subst Q
          (sym (whole_lines-more reply r.taken h o p r.answered (take room piece) p))
          (more r.meet))

      pub HasRead-recalled : ((lines more : List (List ℕ)) → Q lines → Q (lines ++ more))
          → IsRecalled Q limit (fed left left'' faults faults' given given'')
      HasRead-recalled widens =
          IsRecalled-stopped Q widens limit (fed left left'' faults faults' given given'')
          (r.taken ++ piece) (unwrap_or left'' []) IsTaken-more meet-more

      module _ (k : List ℕ) (q : Option (List ℕ))
          (next : AreAnswered reply (r.answered.line ++ take room piece) k p q) where
        answered-more : AreAnswered reply (take limit (r.taken ++ piece)) k o q
        answered-more =
            subst (λ (bytes : List ℕ). AreAnswered reply bytes k o q)
            (take-fill limit r.taken piece room r.within)
            (AreAnswered-append reply r.taken h o p r.answered (take room piece) q k next)

        pub HasRead-long : room < length piece
            → IsRead reply Q limit (fed left left'' faults faults' given given'') k o q end.Long
        HasRead-long many = record {
          taken = r.taken ++ piece;
          more = unwrap_or left'' [];
          took = IsTaken-more;
          ended =
              long (omega (arith, counted-more.0, r.within, many, length-append r.taken piece))
              (omega (arith, r.within, many, length-append r.taken piece));
          answered = answered-more;
          of_lines = meet-more;
        }

        pub HasRead-more : length piece ≤ room
            → HasRead reply Q limit (room - length piece) left left'' given given'' k o q
        HasRead-more fits =
            let all : take limit (r.taken ++ piece) ≡ r.taken ++ piece =
            take_all limit (r.taken ++ piece)
            (omega (arith, r.within, fits, length-append r.taken piece)) in record {
              taken = r.taken ++ piece;
              took = Consumes-trans left left' left'' r.taken piece r.took took;
              counted = counted-more;
              within = omega (arith, r.within, fits, length-append r.taken piece);
              answered =
                  subst (λ (bytes : List ℕ). AreAnswered reply bytes k o q)
                  all answered-more;
              meet = subst (λ (bytes : List ℕ). Q (whole_lines bytes)) all meet-more;
            }
