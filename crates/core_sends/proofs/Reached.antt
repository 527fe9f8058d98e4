-- Units past those that a dispatch reaches wait still; those over the size waited and were not sent.
use Rattle.std.proofs.Common.{◌≡◌, ℕ, zero, suc, ◌-◌, ◌<◌, ◌≤◌, List, [], ◌∷◌, length, map, take, drop, All, true, false, ap, sym, ◌∙◌, Some, None, Option, arith, subst, get_or}
use Rattle.std.specs.Prelude.{◌==◌}
use Rattle.std.proofs.lemmas.Bool.{eqb-true, false_from_ne_true}
use Rattle.std.proofs.lemmas.List.{get_or-take, length-take}
use Rattle.pipe_types.specs.declared.numbers.StageNo.{StageNo}
use Rattle.pipe_types.specs.declared.topology.Topology.{Topology}
use Rattle.pipe_types.specs.declared.topology.StageSpec.{StageSpec}
use Rattle.pipe_types.specs.declared.topology.Keep.{Keep}
use Rattle.pipe_types.specs.declared.topology.Keep.TheVariants.{Last, First}
use Rattle.pipe_types.specs.declared.message.Place.{Place}
use Rattle.pipe_types.specs.declared.room.Sent.{Sent}
use Rattle.pipe_types.specs.Sound.{IsSound}
use Rattle.pipe_types.specs.Stages.{spec_of}
use Rattle.pipe_laws.proofs.Chunks.{each_take}
use Rattle.pipe_laws.proofs.Lists.{Each, each_weaker, each_both, each_map, each_filter, all_among, each_among}
use Rattle.pipe_laws.proofs.Tests.{clash}
use Rattle.pipe_model.specs.History.{History, accepted}
use Rattle.pipe_model.specs.Legal.{is_legal}
use Rattle.pipe_model.specs.Flow.{place, waiting, deliveries, over_size, over_in, unsent, is_batcher, is_empty, subs_of, among, waits_in}
use Rattle.queue_laws.proofs.Apart.{Apart}
use Rattle.queue_laws.proofs.Singles.{none_of}
use Rattle.queue_laws.proofs.Sounds.{fits}
use Rattle.stage_laws.proofs.Bounds.{waiting_apart, waiting_within}
use Rattle.core_tables.specs.Tables.{named}
use Rattle.core_laws.specs.Columns.{waiting_parts}
use Rattle.core_sends.specs.Losing.{still_waits}
use Rattle.core_sends.specs.Rooms.{planned}
use Rattle.core_sends.proofs.LeftOver.{whole, back_apart, drop_map}
use Rattle.core_sends.proofs.Sent.{Waits, AreMoved, still_is, each_waits, each_all, all_each, deliveries_named, planned_below, pair, over}

pub each_drop : {A : Type 0} (P : A → Type 0) (k : ℕ) (xs : List A) → Each P xs → Each P (drop k xs)
each_drop P zero xs h = h
each_drop P (suc k) [] h = h
each_drop P (suc k) (x ∷ xs) h = each_drop P k xs h.1

-- a number among the first is that of a place among them
early : (ws : List ℕ) (first k : ℕ) → k < first → k < length ws → among (take first ws) (get_or ws k 0) ≡ true
early ws first k low below =
    let at = each_all (λ n. among (take first ws) n ≡ true) (take first ws) (all_among (take first ws)) k 0 (omega (arith, length-take first ws, low, below)) in
    ap (among (take first ws)) (sym (get_or-take first ws k 0 low)) ∙ at

pub unreached : (topology : Topology) (before : History) (s : StageNo) (first : ℕ) → IsSound topology → is_legal topology before ≡ true → All (λ (d : Sent). d.unit < first) (planned topology before s [])
    → Each (λ n. subs_of (deliveries topology before s) n ≡ []) (drop first (waiting topology before s))
unreached topology before s first sound h above =
    each_weaker (λ n. among (take first ws) n ≡ false) (λ n. subs_of (deliveries topology before s) n ≡ []) none (drop first ws)
    (back_apart (take first ws) (drop first ws) (subst (Apart (λ n. n)) (sym (whole first ws)) (waiting_apart topology before s (fits topology sound) h)))
  where
    ws : List ℕ
    ws = waiting topology before s

    none : (n : ℕ) → among (take first (waiting topology before s)) n ≡ false → subs_of (deliveries topology before s) n ≡ []
    none n late =
        let ws = waiting topology before s in
        let ds = planned topology before s [] in
        ap (λ us. subs_of us n) (deliveries_named topology before s)
        ∙ none_of (map (named ws) ds) n
        (each_map (λ (d : Sent). (d.unit == n) ≡ false) (named ws) ds
        (each_weaker (λ (d : Sent). (d.unit < first) × (d.unit < length ws)) (λ (d : Sent). (get_or ws d.unit 0 == n) ≡ false)
        (λ d p. false_from_ne_true (get_or ws d.unit 0 == n) (λ e. clash (among (take first ws) n) (ap (among (take first ws)) (sym (eqb-true (get_or ws d.unit 0) n e)) ∙ early ws first d.unit p.0 p.1) late))
        ds
        (each_both (λ (d : Sent). d.unit < first) (λ (d : Sent). d.unit < length ws) ds (all_each (λ (d : Sent). d.unit < first) ds above) (all_each (λ (d : Sent). d.unit < length ws) ds (planned_below topology before s)))))

-- the units past the first so many wait still
pub rest_waits : (topology : Topology) (before : History) (s : StageNo) (first : ℕ) (places : List Place) → IsSound topology → is_legal topology before ≡ true → is_batcher (spec_of topology s) ≡ false
    → AreMoved topology before s places → All (λ (d : Sent). d.unit < first) (planned topology before s [])
    → All (λ (unit : ℕ × ℕ). still_waits places s unit.1 ≡ true) (drop first (waiting_parts topology before s))
rest_waits topology before s first places sound h plain moved above =
    subst (All (λ (unit : ℕ × ℕ). still_waits places s unit.1 ≡ true)) (sym (drop_map (pair topology before s) first (waiting topology before s)))
    (each_all (λ (unit : ℕ × ℕ). still_waits places s unit.1 ≡ true) (map (pair topology before s) (drop first (waiting topology before s)))
    (each_map (λ (unit : ℕ × ℕ). still_waits places s unit.1 ≡ true) (pair topology before s) (drop first (waiting topology before s))
    (each_weaker (λ n. Waits topology before s n × (subs_of (deliveries topology before s) n ≡ [])) (λ n. still_waits places s n ≡ true)
    (λ n p. still_is topology before s places moved n p.0 ∙ ap is_empty p.1) (drop first (waiting topology before s))
    (each_both (Waits topology before s) (λ n. subs_of (deliveries topology before s) n ≡ []) (drop first (waiting topology before s))
    (each_drop (Waits topology before s) first (waiting topology before s) (each_waits topology before s sound h plain)) (unreached topology before s first sound h above)))))

-- the units of the queue are accepted messages
pub queue_within : (topology : Topology) (before : History) (s : StageNo) (count : ℕ) → IsSound topology → is_legal topology before ≡ true → count ≡ accepted before
    → All (λ (unit : ℕ × ℕ). (1 ≤ unit.1) × (unit.1 ≤ count)) (waiting_parts topology before s)
queue_within topology before s count sound h all =
    each_all (λ (unit : ℕ × ℕ). (1 ≤ unit.1) × (unit.1 ≤ count)) (waiting_parts topology before s)
    (each_map (λ (unit : ℕ × ℕ). (1 ≤ unit.1) × (unit.1 ≤ count)) (pair topology before s) (waiting topology before s)
    (each_weaker (λ n. (1 ≤ n) × (n ≤ accepted before)) (λ n. (1 ≤ n) × (n ≤ count)) (λ n p. (p.0, omega (arith, p.1, all))) (waiting topology before s)
    (waiting_within topology before s (fits topology sound) h)))

each_over : (P : ℕ → Type 0) (size : Option ℕ) (keep : Keep) (ns : List ℕ) → Each P ns → Each P (over_size size keep ns)
each_over P None keep ns h = tt
each_over P (Some size) Last ns h = each_take P (length ns - size) ns h
each_over P (Some size) First ns h = each_drop P size ns h

each_over_in : (P : ℕ → Type 0) (o : Option StageSpec) (ns : List ℕ) → Each P ns → Each P (over_in o ns)
each_over_in P None ns h = tt
each_over_in P (Some spec) ns h = each_over P spec.size spec.keep ns h

-- what is over the size waited, and is not sent
pub over_waits : (topology : Topology) (before : History) (s : StageNo) (n : ℕ) → IsSound topology → is_legal topology before ≡ true → is_batcher (spec_of topology s) ≡ false
    → among (over topology before s) n ≡ true → (waits_in s (place topology before n) ≡ true) × (is_empty (subs_of (deliveries topology before s) n) ≡ true)
over_waits topology before s n sound h plain lost =
    each_among (λ m. (waits_in s (place topology before m) ≡ true) × (is_empty (subs_of (deliveries topology before s) m) ≡ true)) (over topology before s) n
    (each_over_in (λ m. (waits_in s (place topology before m) ≡ true) × (is_empty (subs_of (deliveries topology before s) m) ≡ true)) (spec_of topology s) (unsent (deliveries topology before s) (waiting topology before s))
    (each_weaker (λ m. Waits topology before s m × (is_empty (subs_of (deliveries topology before s) m) ≡ true)) (λ m. (waits_in s (place topology before m) ≡ true) × (is_empty (subs_of (deliveries topology before s) m) ≡ true))
    (λ m p. (p.0.1, p.1)) (unsent (deliveries topology before s) (waiting topology before s))
    (each_filter (Waits topology before s) (λ m. is_empty (subs_of (deliveries topology before s) m)) (waiting topology before s) (each_waits topology before s sound h plain))))
    lost
