-- What is made of the verdicts on what the last step acknowledged are the entries of the step.
use Rattle.std.proofs.Common.{◌≡◌, ℕ, zero, suc, ◌+◌, ◌<◌, ◌≤◌, List, [], ◌∷◌, ◌++◌, length, map, get_or, Bool, true, false, refl, ap, sym, ◌∙◌, subst, Some, None, Option, arith}
use Rattle.std.specs.Prelude.{◌==◌, ◌||◌, cond, Contains, option_map, is_some}
use Rattle.std.specs.List.{flat_map, cons_option}
use Rattle.std.specs.List.Sorted.{IsNonDecreasing}
use Rattle.std.proofs.lemmas.Bool.{eqb-true}
use Rattle.pipe_types.specs.declared.numbers.StageNo.{StageNo}
use Rattle.pipe_types.specs.declared.topology.Topology.{Topology}
use Rattle.pipe_types.specs.declared.topology.StageSpec.{StageSpec}
use Rattle.pipe_types.specs.declared.message.Place.{Place}
use Rattle.pipe_types.specs.declared.message.Place.TheVariants.{Waiting, Inbox, Running, Gathered, InBatch, Acked, Lost}
use Rattle.pipe_types.specs.declared.step.Step.{Step}
use Rattle.pipe_types.specs.Sound.{IsSound}
use Rattle.pipe_types.specs.Stages.{spec_in, spec_of}
use Rattle.pipe_model.specs.History.{History, accepted}
use Rattle.pipe_model.specs.Content.{producer_of}
use Rattle.pipe_model.specs.Flow.{place, among}
use Rattle.pipe_model.specs.Legal.{is_legal}
use Rattle.pipe_model.specs.Acknowledgements.{Acknowledgement, acknowledged_by, settled_by, entry, numbers_upto, is_acked_successful, is_acked_failed}
use Rattle.message_ack.specs.declared.verdicts.Verdict.{Verdict}
use Rattle.message_ack.specs.Groups.{AreAcknowledgements, successful_of, failed_of}
use Rattle.pipe_laws.proofs.Accepted.{placed_accepted}
use Rattle.pipe_laws.proofs.Acknowledged.{produced}
use Rattle.pipe_laws.proofs.Numbers.{AscendFrom}
use Rattle.pipe_laws.proofs.Sounds.{sound_ascends}
use Rattle.settle_laws.specs.Settled.{is_newly, settled_last, of_producer, outcome_row, verdict_in, verdicts_of}
use Rattle.settle_laws.proofs.Climbs.{Climbs, lower, climbs_filter, upto_climbs, among_contains, contains_among}
use Rattle.settle_laws.proofs.Entries.{entry_numbers, successful_side, failed_side}
use Rattle.settle_laws.proofs.Listed.{are_entries}
use Rattle.settle_laws.proofs.Verdicts.{successful_numbers, failed_numbers}

-- Numbers that climb do not fall

at_least : (floor : ℕ) (ns : List ℕ) (j d : ℕ) → Climbs floor ns → j < length ns → floor ≤ get_or ns j d
at_least floor [] j d c within = absurd (omega (arith, within))
at_least floor (n ∷ ns) zero d c within = c.0
at_least floor (n ∷ ns) (suc j) d c within =
    let here : floor ≤ n = c.0 in
    let rest : n + 1 ≤ get_or ns j d = at_least (n + 1) ns j d c.1 (omega (arith, within)) in
    omega (arith, here, rest)

rising : (floor : ℕ) (ns : List ℕ) (i j d : ℕ) → Climbs floor ns → i ≤ j → j < length ns → get_or ns i d ≤ get_or ns j d
rising floor [] i j d c before within = absurd (omega (arith, within))
rising floor (n ∷ ns) zero zero d c before within = omega arith
rising floor (n ∷ ns) (suc i) zero d c before within = absurd (omega (arith, before))
rising floor (n ∷ ns) zero (suc j) d c before within = let rest : n + 1 ≤ get_or ns j d = at_least (n + 1) ns j d c.1 (omega (arith, within)) in omega (arith, rest)
rising floor (n ∷ ns) (suc i) (suc j) d c before within = rising (n + 1) ns i j d c.1 (omega (arith, before)) (omega (arith, within))

no_fall : (ns : List ℕ) → Climbs 0 ns → IsNonDecreasing ns
no_fall ns c i j d before within = rising 0 ns i j d c before within

-- Stages

stage_numbers : (low : ℕ) (specs : List StageSpec) → AscendFrom low specs → Climbs (low + 1) (map (λ (s : StageNo). s.0) (map (λ (spec : StageSpec). spec.no) specs))
stage_numbers low [] h = tt
stage_numbers low (spec ∷ specs) h = (let above : low < spec.no.0 = h.0 in omega (arith, above), stage_numbers spec.no.0 specs h.1)

-- a stage that is found stands among them
found_among : (specs : List StageSpec) (s : StageNo) → is_some (spec_in specs s) ≡ true → among (map (λ (t : StageNo). t.0) (map (λ (spec : StageSpec). spec.no) specs)) s.0 ≡ true
found_among [] s h = cc
found_among (spec ∷ specs) s h = by (spec.no.0 == s.0) h (found_among specs s)
  where
    by : (b : Bool) → is_some (cond b (Some spec) (spec_in specs s)) ≡ true → (is_some (spec_in specs s) ≡ true → among (map (λ (t : StageNo). t.0) (map (λ (spec : StageSpec). spec.no) specs)) s.0 ≡ true)
        → (b || among (map (λ (t : StageNo). t.0) (map (λ (spec : StageSpec). spec.no) specs)) s.0) ≡ true
    by true k rest = refl
    by false k rest = rest k

-- Producers of verdicts

module _ (topology : Topology) (before : History) where
  -- one that has such a number took in a message that is acknowledged
  record Took (p : ℕ) : Type 0 where
    stage : StageNo
    number : stage.0 ≡ p
    n : ℕ
    made : producer_of before n ≡ Some stage
    placed : is_some (place topology before n) ≡ true

  took_by : (n p : ℕ) (q : Option StageNo) (o : Option Place) (verdicts : List Verdict) → producer_of before n ≡ q → place topology before n ≡ o
      → among (map (λ (v : Verdict). v.producer.0) (cons_option (option_map verdict_in (outcome_row n q o)) verdicts)) p ≡ true
      → (among (map (λ (v : Verdict). v.producer.0) verdicts) p ≡ true → Took p) → Took p
  took_by n p None o verdicts e f h rest = rest h
  took_by n p (Some q) None verdicts e f h rest = rest h
  took_by n p (Some q) (Some (Waiting t)) verdicts e f h rest = rest h
  took_by n p (Some q) (Some (Inbox u)) verdicts e f h rest = rest h
  took_by n p (Some q) (Some (Running t)) verdicts e f h rest = rest h
  took_by n p (Some q) (Some (Gathered t)) verdicts e f h rest = rest h
  took_by n p (Some q) (Some (InBatch b)) verdicts e f h rest = rest h
  took_by n p (Some q) (Some (Lost l)) verdicts e f h rest = rest h
  took_by n p (Some q) (Some (Acked outcome)) verdicts e f h rest = by (q.0 == p) refl h
    where
      by : (b : Bool) → (q.0 == p) ≡ b → (b || among (map (λ (v : Verdict). v.producer.0) verdicts) p) ≡ true → Took p
      by true g k = record { stage = q; number = eqb-true q.0 p g; n = n; made = e; placed = ap is_some f }
      by false g k = rest k

  took : (numbers : List ℕ) (p : ℕ) → among (map (λ (v : Verdict). v.producer.0) (verdicts_of topology before numbers)) p ≡ true → Took p
  took [] p h = cc
  took (n ∷ numbers) p h =
      took_by n p (producer_of before n) (place topology before n) (verdicts_of topology before numbers) refl refl h (took numbers p)

  -- it is one of the stages
  stands : (numbers : List ℕ) (p : ℕ) → is_legal topology before ≡ true → among (map (λ (v : Verdict). v.producer.0) (verdicts_of topology before numbers)) p ≡ true
      → among (map (λ (s : StageNo). s.0) (map (λ (spec : StageSpec). spec.no) topology.stages)) p ≡ true
  stands numbers p legal h =
      let t = took numbers p h in
      let in_range = placed_accepted topology before t.n t.placed in
      let made = produced topology before t.n legal in_range.0 in_range.1 in
      let same : Some t.stage ≡ Some made.0 = sym t.made ∙ made.1 in
      let one : t.stage ≡ made.0 = cc in
      ap (λ k. among (map (λ (s : StageNo). s.0) (map (λ (spec : StageSpec). spec.no) topology.stages)) k) (sym t.number)
      ∙ found_among topology.stages t.stage (ap (λ s. is_some (spec_of topology s)) one ∙ made.2)

-- Lists of entries

flat_same : (f g : StageNo → List Acknowledgement) → ((p : StageNo) → f p ≡ g p) → (specs : List StageSpec) → flat_map f (map (λ (spec : StageSpec). spec.no) specs) ≡ flat_map (λ (spec : StageSpec). g spec.no) specs
flat_same f g each [] = refl
flat_same f g each (spec ∷ specs) = let here = each spec.no in let rest = flat_same f g each specs in λ i. here i ++ rest i

-- The law

pub grouped : (topology : Topology) (before : History) (step : Step) (acks : List Acknowledgement) → IsSound topology → is_legal topology (step ∷ before) ≡ true
    → AreAcknowledgements (verdicts_of topology (step ∷ before) (settled_last topology (step ∷ before))) acks → acks ≡ acknowledged_by topology before step
grouped topology before step acks sound legal are =
    are_entries verdicts ascend acks stages up stand are ∙ same topology.stages
  where
    verdicts : List Verdict
    verdicts = verdicts_of topology (step ∷ before) (settled_last topology (step ∷ before))

    stages : List StageNo
    stages = map (λ (spec : StageSpec). spec.no) topology.stages

    climb : Climbs 0 (settled_last topology (step ∷ before))
    climb = climbs_filter (is_newly topology before step) 0 (numbers_upto (accepted (step ∷ before))) (upto_climbs (accepted (step ∷ before)))

    of_side : (p : StageNo) (side : Option Place → Bool) → IsNonDecreasing (of_producer topology (step ∷ before) (settled_last topology (step ∷ before)) p side)
    of_side p side =
        no_fall (of_producer topology (step ∷ before) (settled_last topology (step ∷ before)) p side)
        (climbs_filter _ 0 (settled_last topology (step ∷ before)) climb)

    ascend : (p : StageNo) → IsNonDecreasing (successful_of (verdicts_of topology (step ∷ before) (settled_last topology (step ∷ before))) p) × IsNonDecreasing (failed_of (verdicts_of topology (step ∷ before) (settled_last topology (step ∷ before))) p)
    ascend p = (
      subst IsNonDecreasing (sym (successful_numbers topology (step ∷ before) p (settled_last topology (step ∷ before)))) (of_side p is_acked_successful),
      subst IsNonDecreasing (sym (failed_numbers topology (step ∷ before) p (settled_last topology (step ∷ before)))) (of_side p is_acked_failed),
    )

    up : Climbs 0 (map (λ (s : StageNo). s.0) (map (λ (spec : StageSpec). spec.no) topology.stages))
    up = lower 0 1 (map (λ (s : StageNo). s.0) (map (λ (spec : StageSpec). spec.no) topology.stages)) (omega arith) (stage_numbers 0 topology.stages (sound_ascends topology sound))

    stand : (p : ℕ) → Contains (map (λ (v : Verdict). v.producer.0) (verdicts_of topology (step ∷ before) (settled_last topology (step ∷ before)))) p
        → Contains (map (λ (s : StageNo). s.0) (map (λ (spec : StageSpec). spec.no) topology.stages)) p
    stand p c =
        among_contains (map (λ (s : StageNo). s.0) (map (λ (spec : StageSpec). spec.no) topology.stages)) p
        (stands topology (step ∷ before) (settled_last topology (step ∷ before)) p legal (contains_among (map (λ (v : Verdict). v.producer.0) (verdicts_of topology (step ∷ before) (settled_last topology (step ∷ before)))) p c))

    each : (p : StageNo) → entry p (successful_of (verdicts_of topology (step ∷ before) (settled_last topology (step ∷ before))) p) (failed_of (verdicts_of topology (step ∷ before) (settled_last topology (step ∷ before))) p)
        ≡ entry p (settled_by topology before step p is_acked_successful) (settled_by topology before step p is_acked_failed)
    each p =
        let won = successful_numbers topology (step ∷ before) p (settled_last topology (step ∷ before)) ∙ sym (entry_numbers topology before step p is_acked_successful successful_side) in
        let lost = failed_numbers topology (step ∷ before) p (settled_last topology (step ∷ before)) ∙ sym (entry_numbers topology before step p is_acked_failed failed_side) in
        λ i. entry p (won i) (lost i)

    same : (specs : List StageSpec)
        → flat_map (λ p. entry p (successful_of (verdicts_of topology (step ∷ before) (settled_last topology (step ∷ before))) p) (failed_of (verdicts_of topology (step ∷ before) (settled_last topology (step ∷ before))) p)) (map (λ (spec : StageSpec). spec.no) specs)
        ≡ flat_map (λ spec. entry spec.no (settled_by topology before step spec.no is_acked_successful) (settled_by topology before step spec.no is_acked_failed)) specs
    same specs = flat_same (λ p. entry p (successful_of (verdicts_of topology (step ∷ before) (settled_last topology (step ∷ before))) p) (failed_of (verdicts_of topology (step ∷ before) (settled_last topology (step ∷ before))) p))
        (λ p. entry p (settled_by topology before step p is_acked_successful) (settled_by topology before step p is_acked_failed)) each specs
