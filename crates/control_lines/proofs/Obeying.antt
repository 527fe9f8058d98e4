-- From what was read of a control source to what a run says of it.
use Rattle.std.proofs.Common.{◌≡◌, ℕ, ◌+◌, ◌≤◌, List, [], ◌∷◌, ◌++◌, length, Bool, true, false, arith, refl, ap, sym, ◌∙◌, subst, inl, inr, Some, None, Option}
use Rattle.std.specs.Prelude.{IsTrue, IsSome}
use Rattle.std.proofs.lemmas.List.{append_assoc, append-nil, take-append-le, length-append}
use Rattle.pipe_types.specs.Counts.{Rose}
use Rattle.pipe_types.specs.Lines.{max_bytes, lines}
use Rattle.pipe_types.specs.Numbers.{stage}
use Rattle.pipe_types.specs.declared.step.SourceHow.{SourceHow}
use Rattle.pipe_types.specs.declared.step.SourceHow.TheVariants as how
use Rattle.pipe_types.specs.declared.topology.Topology.{Topology}
use Rattle.pipe_model.specs.History.{History, controls}
use Rattle.pipe_model.specs.Legal.{has_ended}
use Rattle.pipe_model.specs.Outside.{source_end, AreReadings, IsObeyed}
use Rattle.pipe_edges.specs.declared.reading.LineEnd.{LineEnd}
use Rattle.pipe_edges.specs.declared.reading.LineEnd.TheVariants as end
use Rattle.pipe_edges.specs.Texts.{BeginsTooLong}
use Rattle.pipe_edges.proofs.TextLaws.{lines_ended, lines_too_long}
use Rattle.source_lines.specs.Cut.{AreFirstLines, AreAllLines, AreLinesBeforeLong, HasShortLines}
use Rattle.stage_job.specs.Chunks.{RoseBy}
use Rattle.stage_bodies.specs.Reads.{AreReadFrom}
use Rattle.stage_bodies.specs.Seen.{SourceSeen, LineSeen}
use Rattle.control_lines.specs.Steps.{jobs_begun}
use Rattle.control_lines.specs.Keeping.{vain_tries, vain_tries_for, IsKnownControlEnd, KeepsLines}
use Rattle.control_lines.specs.Obeyed.{AreTried, IsControlRead}
use Rattle.control_lines.proofs.Readings.{more_readings}
use Rattle.control_lines.proofs.Tries.{rise_fewer, earlier_tries, enough_tries, tries_until_now}

-- ---- ends

known_end : (n : ℕ) (now : Option SourceHow) (line_end : Option LineEnd) → IsKnownControlEnd n now line_end → now ≡ Some how.End → line_end ≡ Some end.End
known_end n now line_end known is = rw is at known

known_long : (n : ℕ) (now : Option SourceHow) (line_end : Option LineEnd) → IsKnownControlEnd n now line_end → now ≡ Some how.TooLong → line_end ≡ Some end.TooLong
known_long n now line_end known is = rw is at known

known_fault : (n : ℕ) (now : Option SourceHow) (line_end : Option LineEnd) → IsKnownControlEnd n now line_end → now ≡ Some how.Fault → line_end ≡ Some end.Fault
known_fault n now line_end known is = rw is at known

known_limit : (n : ℕ) (now : Option SourceHow) (line_end : Option LineEnd) → IsKnownControlEnd n now line_end → now ≡ Some how.Limit → n ≡ 10000
known_limit n now line_end known is = rw is at known

not_end : (line_end : Option LineEnd) → line_end ≡ None → ¬ (line_end ≡ Some end.End)
not_end line_end none is = cc

not_end_by : (line_end : Option LineEnd) (e : LineEnd) → line_end ≡ Some e → (e ≡ end.End → ⊥) → ¬ (line_end ≡ Some end.End)
not_end_by line_end e is other at_end = other (same_end e (sym is ∙ at_end))
  where
    same_end : (e : LineEnd) → Some e ≡ Some end.End → e ≡ end.End
    same_end e s = cc

-- ---- lines

-- the records are the first of the lines of all the bytes
pub first_lines : (line_end : Option LineEnd) (opened : SourceSeen) (now : LineSeen) (records : List (List ℕ)) → now.end ≡ line_end → AreReadFrom opened now records → IsTrue opened.told → AreFirstLines opened.left records
first_lines None opened now records is r t = record {
  others = lines (now.waiting ++ now.source.left);
  parts = ap lines (r.to_come t (not_end now.end is)) ∙ lines_ended records (now.waiting ++ now.source.left) r.each_is_a_line;
}
first_lines (Some end.End) opened now records is r t = record {
  others = [];
  parts = rw append-nil (sym (r.at_end t is).all);
}
first_lines (Some end.Fault) opened now records is r t = record {
  others = lines (now.waiting ++ now.source.left);
  parts = ap lines (r.to_come t (not_end_by now.end end.Fault is (λ e. cc))) ∙ lines_ended records (now.waiting ++ now.source.left) r.each_is_a_line;
}
first_lines (Some end.TooLong) opened now records is r t = record {
  others = lines (now.waiting ++ now.source.left);
  parts = ap lines (r.to_come t (not_end_by now.end end.TooLong is (λ e. cc))) ∙ lines_ended records (now.waiting ++ now.source.left) r.each_is_a_line;
}

long_append : (w rest : List ℕ) → BeginsTooLong w → BeginsTooLong (w ++ rest)
long_append w rest b = record {
  long = omega (arith, length-append w rest, b.long);
  unbroken = rw (take-append-le (max_bytes + 1) w rest (omega (arith, b.long))) b.unbroken;
}

pub before_long : (opened : SourceSeen) (now : LineSeen) (records : List (List ℕ)) → now.end ≡ Some end.TooLong → AreReadFrom opened now records → IsTrue opened.told → AreLinesBeforeLong opened.left records
before_long opened now records is r t =
    let come = r.to_come t (not_end_by now.end end.TooLong is (λ e. cc)) in record {
      all = sym (
          ap lines come
          ∙ lines_ended records (now.waiting ++ now.source.left) r.each_is_a_line
          ∙ ap (λ x. records ++ x) (lines_too_long now.waiting now.source.left (r.at_long is))
          ∙ append-nil records);
      rest = now.waiting ++ now.source.left;
      parts = come;
      long = long_append now.waiting now.source.left (r.at_long is);
    }

-- ---- the control source

-- where the source ended, nothing of it was lost
whole_read : (topology : Topology) (before : History) (lost : List (List ℕ)) (opened now : LineSeen) (h : SourceHow) (k : KeepsLines topology before 0 lost opened now) → source_end before (stage 0) ≡ Some h → AreReadFrom opened.source now k.lines
whole_read topology before lost opened now h k ended =
    subst (AreReadFrom opened.source now) (ap (λ xs. k.lines ++ xs) (k.none_lost (subst (λ (o : Option SourceHow). IsSome o) (sym ended) refl)) ∙ append-nil k.lines) k.read

-- the steps are the readings of the first of all lines
readings_of_all : (topology : Topology) (before : History) (lost : List (List ℕ)) (opened now : LineSeen) (k : KeepsLines topology before 0 lost opened now) → IsTrue opened.source.told → AreReadings topology before (lines opened.source.left)
readings_of_all topology before lost opened now k t =
    let first = first_lines now.end opened.source now (k.lines ++ lost) refl k.read t in
    subst (AreReadings topology before) (sym (first.parts ∙ append_assoc k.lines lost first.others)) (more_readings topology before k.lines (lost ++ first.others) k.readings)

tried_by : (before earlier : History) (waits : ℕ) → RoseBy (vain_tries_for 0 before) 0 waits → vain_tries earlier ≤ vain_tries before → has_ended earlier (stage 0) ≡ false → AreTried waits earlier
tried_by before earlier waits (inl rose) grows going = inl (omega (arith, rose, grows, tries_until_now before, enough_tries earlier going))
tried_by before earlier waits (inr full) grows going = inr full

pub control_read : (topology : Topology) (before : History) (lost : List (List ℕ)) (opened now : LineSeen) → opened.source.taken ≡ [] → opened.source.faults ≡ 0 → opened.source.waits ≡ 0
    → KeepsLines topology before 0 lost opened now → IsControlRead topology before now.source
control_read topology before lost opened now fresh no_fault no_wait k =
    let source = opened.source in
    let bytes = now.source.taken ++ now.source.left in
    let told_then = λ (t : IsTrue now.source.told). subst (λ b. b ≡ true) k.read.same_telling t in
    let all = λ (t : IsTrue source.told). k.read.same_bytes t ∙ ap (λ x. x ++ source.left) fresh in
    record {
      obeyed = λ t. record {
        readings = subst (λ w. AreReadings topology before (lines w)) (sym (all (told_then t))) (readings_of_all topology before lost opened now k (told_then t));
        all_read = λ e.
            let here = (whole_read topology before lost opened now how.End k e).at_end (told_then t) (known_end (controls before) (source_end before (stage 0)) now.end k.known e) in
            sym k.one_each ∙ ap length here.all ∙ ap (λ w. length (lines w)) (sym (all (told_then t)));
      };
      whole = λ t e.
          subst HasShortLines (sym (all (told_then t)))
          ((whole_read topology before lost opened now how.End k e).at_end (told_then t) (known_end (controls before) (source_end before (stage 0)) now.end k.known e)).short;
      too_long = λ t e.
          let long = before_long source now k.lines (known_long (controls before) (source_end before (stage 0)) now.end k.known e) (whole_read topology before lost opened now how.TooLong k e) (told_then t) in
          subst (λ w. AreLinesBeforeLong w (lines w) × (controls before ≡ length (lines w))) (sym (all (told_then t)))
          (subst (AreLinesBeforeLong source.left) long.all long, sym k.one_each ∙ ap length long.all);
      fault = λ e. subst (λ n. Rose n now.source.faults) no_fault (k.read.at_fault (known_fault (controls before) (source_end before (stage 0)) now.end k.known e));
      limit = λ e. known_limit (controls before) (source_end before (stage 0)) now.end k.known e;
      tried = λ later earlier parts going.
          tried_by before earlier now.source.waits (subst (λ n. RoseBy (vain_tries_for 0 before) n now.source.waits) no_wait k.tries)
          (subst (λ h. vain_tries earlier ≤ vain_tries h) (sym parts) (earlier_tries later earlier)) going;
    }
