-- Texts that go to a sink one after another.
use Rattle.std.proofs.Common.{◌≡◌, ◌≤◌, ℕ, zero, suc, ◌+◌, Bool, true, false, List, [], ◌∷◌, ◌++◌, length, take, refl, sym, ◌∙◌, ap, arith, inl, inr, subst}
use Rattle.std.specs.Prelude.{IsTrue}
use Rattle.std.proofs.lemmas.List.{append-nil, append_assoc}
use Rattle.std.proofs.Math.Seq.{take-nil}
use Rattle.pipe_types.specs.Counts.{Rose}
use Rattle.journal_texts.specs.Streams.{StreamSeen, Moved, Begun, Streams}

-- a front of the first text is a front of both
front_of : (count : ℕ) (first second : List ℕ) → (n : ℕ) × (take count first ≡ take n (first ++ second))
front_of count [] second = (0, take-nil count)
front_of zero (b ∷ first) second = (0, refl)
front_of (suc count) (b ∷ first) second =
    let r = front_of count first second in
    (suc r.0, ap (λ l. b ∷ l) r.1)

past : (first second : List ℕ) (count : ℕ) → first ++ take count second ≡ take (length first + count) (first ++ second)
past [] second count =
    let same : count ≡ 0 + count = omega arith in
    ap (λ n. take n second) same
past (b ∷ first) second count =
    let same : suc (length first + count) ≡ suc (length first) + count = omega arith in
    ap (λ l. b ∷ l) (past first second count) ∙ ap (λ n. take n (b ∷ (first ++ second))) same

-- nothing was written
pub streams_nothing : (now : StreamSeen) → Streams now now []
streams_nothing now = record {
  same_telling = refl;
  faults_stay = omega arith;
  moved = λ is. (is, λ told. record { written = []; held = sym (append-nil now.held); rest = sym (append-nil now.piece) });
  broke = λ e f. absurd (both now.failed e f);
  broken = λ is. (is, refl, λ told. refl);
}
  where
    both : (b : Bool) → b ≡ false → b ≡ true → ⊥
    both true e f = cc
    both false e f = cc

moved_on : (old mid new : StreamSeen) (first second : List ℕ) → Moved old mid first → Moved mid new second → Moved old new (first ++ second)
moved_on old mid new first second one two = record {
  written = one.written ++ two.written;
  held = two.held ∙ ap (λ l. l ++ two.written) one.held ∙ append_assoc old.held one.written two.written;
  rest =
      append_assoc one.written two.written new.piece
      ∙ ap (λ l. one.written ++ l) two.rest
      ∙ sym (append_assoc one.written mid.piece second)
      ∙ ap (λ l. l ++ second) one.rest
      ∙ append_assoc old.piece first second;
}

begun_on : (held held' piece first second : List ℕ) → Begun held held' (piece ++ first) → Begun held held' (piece ++ (first ++ second))
begun_on held held' piece first second begun =
    let r = front_of begun.count (piece ++ first) second in
    record {
      count = r.0;
      is = begun.is ∙ ap (λ l. held ++ l) (r.1 ∙ ap (λ l. take r.0 l) (append_assoc piece first second));
    }

begun_after : (old mid new : StreamSeen) (first second : List ℕ) → Moved old mid first → Begun mid.held new.held (mid.piece ++ second) → Begun old.held new.held (old.piece ++ (first ++ second))
begun_after old mid new first second one begun =
    let whole : one.written ++ (mid.piece ++ second) ≡ old.piece ++ (first ++ second) =
    sym (append_assoc one.written mid.piece second) ∙ ap (λ l. l ++ second) one.rest ∙ append_assoc old.piece first second in
    record {
      count = length one.written + begun.count;
      is =
          begun.is
          ∙ ap (λ l. l ++ take begun.count (mid.piece ++ second)) one.held
          ∙ append_assoc old.held one.written (take begun.count (mid.piece ++ second))
          ∙ ap (λ l. old.held ++ l) (past one.written (mid.piece ++ second) begun.count ∙ ap (λ l. take (length one.written + begun.count) l) whole);
    }

then_rose : (a b c : ℕ) → a ≤ b → Rose b c → Rose a c
then_rose a b c le (inl lt) = inl (omega (arith, lt, le))
then_rose a b c le (inr full) = inr full

-- one text and then another
pub streams_both : (old mid new : StreamSeen) (first second : List ℕ) → Streams old mid first → Streams mid new second → Streams old new (first ++ second)
streams_both old mid new first second one two = record {
  same_telling = two.same_telling ∙ one.same_telling;
  faults_stay = omega (arith, one.faults_stay, two.faults_stay);
  moved = λ is.
      let then = two.moved is in
      let before = one.moved then.0 in
      (before.0, λ told. moved_on old mid new first second (before.1 told) (then.1 (told_on told)));
  broke = λ e f. by mid.failed refl e f;
  broken = λ is.
      let before = one.broken is in
      let then = two.broken before.0 in
      (then.0, then.1 ∙ before.1, λ told. then.2 (told_on told) ∙ before.2 told);
}
  where
    told_on : IsTrue old.told → IsTrue mid.told
    told_on told = subst (λ b. IsTrue b) (sym one.same_telling) told

    by : (b : Bool) → mid.failed ≡ b → old.failed ≡ false → new.failed ≡ true → Rose old.faults new.faults × (IsTrue old.told → Begun old.held new.held (old.piece ++ (first ++ second)))
    by true is e f =
        let before = one.broke e is in
        let then = two.broken is in (
          subst (λ n. Rose old.faults n) (sym then.1) before.0,
          λ told.
              begun_on old.held new.held old.piece first second (subst (λ l. Begun old.held l (old.piece ++ first)) (sym (then.2 (told_on told))) (before.1 told)),
        )
    by false is e f =
        let then = two.broke is f in (
          then_rose old.faults mid.faults new.faults one.faults_stay then.0,
          λ told.
              begun_after old mid new first second ((one.moved is).1 told) (then.1 (told_on told)),
        )

-- behind a fault nothing is written
pub streams_broken : (now : StreamSeen) (text : List ℕ) → now.failed ≡ true → Streams now now text
streams_broken now text failed = record {
  same_telling = refl;
  faults_stay = omega arith;
  moved = λ is. absurd (both now.failed is failed);
  broke = λ e f. absurd (both now.failed e f);
  broken = λ is. (is, refl, λ told. refl);
}
  where
    both : (b : Bool) → b ≡ false → b ≡ true → ⊥
    both true e f = cc
    both false e f = cc
