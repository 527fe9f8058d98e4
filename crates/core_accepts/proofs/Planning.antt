-- The dispatch that an accept owes.
use Rattle.std.proofs.Common.{◌≡◌, ℕ, zero, suc, ◌+◌, ◌-◌, ◌<◌, ◌≤◌, List, [], ◌∷◌, ◌++◌, map, length, take, drop, Bool, true, false, refl, ap, sym, ◌∙◌, Some, None, Option, arith}
use Rattle.std.specs.Prelude.{if◌then◌else◌, ◌&&◌, ◌||◌, ◌==◌, not, nat_lt}
use Rattle.std.proofs.lemmas.Bool.Decides.{nat_tests}
use Rattle.std.proofs.lemmas.List.{map-append, append-nil}
use Rattle.pipe_types.specs.declared.numbers.StageNo.{StageNo}
use Rattle.pipe_types.specs.declared.numbers.SubNo.{SubNo}
use Rattle.pipe_types.specs.declared.topology.Topology.{Topology}
use Rattle.pipe_types.specs.declared.topology.StageSpec.{StageSpec}
use Rattle.pipe_types.specs.declared.topology.Role.{Role}
use Rattle.pipe_types.specs.declared.topology.Role.TheVariants.{Producer}
use Rattle.pipe_types.specs.declared.topology.Keep.{Keep}
use Rattle.pipe_types.specs.declared.topology.Keep.TheVariants.{Last, First}
use Rattle.pipe_types.specs.declared.room.Room.{Room}
use Rattle.pipe_types.specs.declared.room.Sent.{Sent}
use Rattle.pipe_types.specs.declared.step.Step.TheVariants.{Accept}
use Rattle.pipe_types.specs.Dispatchers.{Serving, sends_by_place}
use Rattle.pipe_types.specs.Sound.{IsSound}
use Rattle.pipe_types.specs.Stages.{spec_of, feeds}
use Rattle.pipe_model.specs.History.{History, accepted, asked}
use Rattle.pipe_model.specs.Lives.{is_live, current_sub, live_subs_from}
use Rattle.pipe_model.specs.Flow.{waiting, deliveries, alone, lost_over, over_in, over_size, unsent, rooms_by, view_of, kind_in, index_in, sent, is_empty, is_batcher, picks_by, serving_by}
use Rattle.pipe_model.specs.Legal.{is_legal, may_dispatch}
use Rattle.queue_laws.proofs.Alone.{none_alone}
use Rattle.core_tables.specs.Tables.{named}
use Rattle.core_laws.specs.Columns.{part_of, waiting_parts, is_broadcast}
use Rattle.core_laws.specs.Enrolled.{record_part, queued}
use Rattle.core_laws.specs.Laws.{AcceptLaws}
use Rattle.core_laws.proofs.Parts.{sends_by_parts}
use Rattle.core_sends.specs.Rooms.{planned, marks_of}
use Rattle.core_sends.proofs.Queued.{served_plain, plain_cast}
use Rattle.core_sends.proofs.Sent.{deliveries_named}
use Rattle.core_accepts.specs.Records.{is_over}
use Rattle.core_accepts.proofs.Enrolling.{parts_accepted}

-- Rooms

live_subs_same : (topology : Topology) (before : History) (p : StageNo) (records : List (List ℕ)) (s : StageNo) (specs : List StageSpec)
    → live_subs_from topology (Accept p records ∷ before) s specs ≡ live_subs_from topology before s specs
live_subs_same topology before p records s [] = refl
live_subs_same topology before p records s (c ∷ specs) =
    ap (λ us. if feeds topology s c.no && is_live topology before c.no then current_sub topology before c.no s ∷ us else us) (live_subs_same topology before p records s specs)

-- an accept changes no room
rooms_accepted : (topology : Topology) (before : History) (p : StageNo) (records : List (List ℕ)) (s : StageNo)
    → rooms_by topology (Accept p records ∷ before) (view_of topology (Accept p records ∷ before)) s ≡ rooms_by topology before (view_of topology before) s
rooms_accepted topology before p records s =
    ap (λ us. map (λ (u : SubNo). record { sub = u; part = index_in (spec_of topology u.consumer); left = asked before u - sent topology before u }) (if is_live topology before s then us else []))
    (live_subs_same topology before p records s topology.stages)

-- Partitions

firsts : (f : ℕ → ℕ) (ns : List ℕ) → map {A = ℕ × ℕ} {B = ℕ} (λ u. u.0) (map {B = ℕ × ℕ} (λ n. (f n, n)) ns) ≡ map f ns
firsts f [] = refl
firsts f (n ∷ ns) = ap (λ ms. f n ∷ ms) (firsts f ns)

first_parts : (spec : StageSpec) (n : ℕ) (records : List (List ℕ)) → map {A = ℕ × ℕ} {B = ℕ} (λ u. u.0) (queued spec n records) ≡ map (record_part spec) records
first_parts spec n [] = refl
first_parts spec n (bytes ∷ records) = ap (λ ms. record_part spec bytes ∷ ms) (first_parts spec (n + 1) records)

new_parts : (topology : Topology) (before : History) (s : StageNo) (spec : StageSpec) (records : List (List ℕ)) → IsSound topology → is_legal topology before ≡ true → AcceptLaws topology before s records
    → spec_of topology s ≡ Some spec → spec.role ≡ Producer
    → map (part_of topology (Accept s records ∷ before) (spec_of topology s)) (waiting topology (Accept s records ∷ before) s) ++ []
    ≡ map (part_of topology before (spec_of topology s)) (waiting topology before s) ++ map (record_part spec) records
new_parts topology before s spec records sound legal law found role =
    let fst : ℕ × ℕ → ℕ = λ u. u.0 in
    append-nil (map (part_of topology (Accept s records ∷ before) (spec_of topology s)) (waiting topology (Accept s records ∷ before) s))
    ∙ (sym (firsts (part_of topology (Accept s records ∷ before) (spec_of topology s)) (waiting topology (Accept s records ∷ before) s))
    ∙ (ap (map fst) (parts_accepted topology before s spec records sound legal law found role)
    ∙ (map-append fst (waiting_parts topology before s) (queued spec (accepted before + 1) records)
    ∙ (ap (λ ps. ps ++ map fst (queued spec (accepted before + 1) records)) (firsts (part_of topology before (spec_of topology s)) (waiting topology before s))
    ∙ ap (λ ps. map (part_of topology before (spec_of topology s)) (waiting topology before s) ++ ps) (first_parts spec (accepted before + 1) records)))))

-- a producer is no batcher
pub no_batcher : (topology : Topology) (s : StageNo) (spec : StageSpec) → spec_of topology s ≡ Some spec → spec.role ≡ Producer → is_batcher (spec_of topology s) ≡ false
no_batcher topology s spec found role = ap is_batcher found ∙ by spec.role role
  where
    by : (r : Role) → r ≡ Producer → is_batcher (Some (record spec { role = r })) ≡ false
    by Producer h = refl
    by _ h = cc

-- what a dispatch sends after the accept was planned before it
pub planned_accepted : (topology : Topology) (before : History) (s : StageNo) (spec : StageSpec) (records : List (List ℕ)) → IsSound topology → is_legal topology before ≡ true → AcceptLaws topology before s records
    → spec_of topology s ≡ Some spec → spec.role ≡ Producer
    → planned topology (Accept s records ∷ before) s [] ≡ planned topology before s (map (record_part spec) records)
planned_accepted topology before s spec records sound legal law found role =
    let old : Serving = serving_by topology before (view_of topology before) s in
    let new : Serving = serving_by topology (Accept s records ∷ before) (view_of topology (Accept s records ∷ before)) s in
    let rooms : List Room = rooms_by topology before (view_of topology before) s in
    let plain : is_broadcast (kind_in (spec_of topology s)) ≡ false = plain_cast topology s sound (no_batcher topology s spec found role) in
    ap (λ rs. sends_by_place new rs (marks_of topology (Accept s records ∷ before) s ++ [])) (rooms_accepted topology before s records s)
    ∙ (sym (sends_by_parts topology (Accept s records ∷ before) s rooms [] plain)
    ∙ (ap (λ (k : Serving). sends_by_place k rooms (map (part_of topology (Accept s records ∷ before) (spec_of topology s)) (waiting topology (Accept s records ∷ before) s) ++ []))
    (served_plain (kind_in (spec_of topology s)) (picks_by topology (Accept s records ∷ before) (view_of topology (Accept s records ∷ before))) (picks_by topology before (view_of topology before)) plain)
    ∙ (ap (sends_by_place old rooms) (new_parts topology before s spec records sound legal law found role)
    ∙ sends_by_parts topology before s rooms (map (record_part spec) records) plain)))

-- Whether one is owed

empty_map : {A B : Type 0} (f : A → B) (xs : List A) → is_empty (map f xs) ≡ is_empty xs
empty_map f [] = refl
empty_map f (x ∷ xs) = refl

all_kept : (ns : List ℕ) → unsent [] ns ≡ ns
all_kept [] = refl
all_kept (n ∷ ns) = ap (λ ms. n ∷ ms) (all_kept ns)

take_empty : (k : ℕ) (ns : List ℕ) → 1 ≤ k → 1 ≤ length ns → is_empty (take k ns) ≡ false
take_empty zero ns h l = absurd (omega arith)
take_empty (suc k) [] h l = absurd (omega arith)
take_empty (suc k) (n ∷ ns) h l = refl

drop_empty : (k : ℕ) (ns : List ℕ) → is_empty (drop k ns) ≡ not (nat_lt k (length ns))
drop_empty zero [] = refl
drop_empty zero (n ∷ ns) = let some : nat_lt 0 (length (n ∷ ns)) ≡ true = grind (arith, nat_tests) in sym (ap not some)
drop_empty (suc k) [] = let none : nat_lt (suc k) 0 ≡ false = grind (arith, nat_tests) in sym (ap not none)
drop_empty (suc k) (n ∷ ns) = let same : nat_lt k (length ns) ≡ nat_lt (suc k) (length (n ∷ ns)) = grind (arith, nat_tests) in drop_empty k ns ∙ ap not same

taken_empty : (size : ℕ) (ns : List ℕ) → is_empty (take (length ns - size) ns) ≡ not (nat_lt size (length ns))
taken_empty size ns = by (nat_lt size (length ns)) refl
  where
    by : (b : Bool) → nat_lt size (length ns) ≡ b → is_empty (take (length ns - size) ns) ≡ not (nat_lt size (length ns))
    by true e =
        let far : size < length ns = grind (arith, nat_tests) in
        take_empty (length ns - size) ns (omega (arith, far)) (omega (arith, far)) ∙ sym (ap not e)
    by false e =
        let none : length ns - size ≡ 0 = (let near : length ns ≤ size = grind (arith, nat_tests) in omega (arith, near)) in
        ap (λ k. is_empty (take k ns)) none ∙ sym (ap not e)

twice : (b : Bool) → not (not b) ≡ b
twice true = refl
twice false = refl

over_some : (size : Option ℕ) (keep : Keep) (ns : List ℕ) → not (is_empty (over_size size keep ns)) ≡ is_over size (length ns)
over_some None keep ns = refl
over_some (Some size) Last ns = ap not (taken_empty size ns) ∙ twice (nat_lt size (length ns))
over_some (Some size) First ns = ap not (drop_empty size ns) ∙ twice (nat_lt size (length ns))

no_length : (ns : List Sent) → (length ns == 0) ≡ is_empty ns
no_length [] = refl
no_length (n ∷ ns) = grind (arith, nat_tests)

-- a dispatch sends what is planned, or loses what is over the size where nothing is sent
pub may_by : (topology : Topology) (before : History) (s : StageNo) (spec : StageSpec) → is_batcher (spec_of topology s) ≡ false → spec_of topology s ≡ Some spec → is_live topology before s ≡ true
    → may_dispatch topology before s ≡ (not (is_empty (planned topology before s [])) || is_over spec.size (length (waiting topology before s)))
may_by topology before s spec messages found live =
    ap (λ b. b && (not (is_empty (deliveries topology before s)) || (not (is_empty (alone topology before s)) || not (is_empty (lost_over topology before (view_of topology before) s))))) live
    ∙ (ap (λ (ns : List ℕ). not (is_empty (deliveries topology before s)) || (not (is_empty ns) || not (is_empty (lost_over topology before (view_of topology before) s)))) (none_alone topology before s messages)
    ∙ by (planned topology before s []) (deliveries topology before s) refl (deliveries_named topology before s))
  where
    by : (plan sends : List Sent) → deliveries topology before s ≡ sends → sends ≡ map (named (waiting topology before s)) plan
        → (not (is_empty (deliveries topology before s)) || not (is_empty (over_in (spec_of topology s) (unsent (deliveries topology before s) (waiting topology before s)))))
        ≡ (not (is_empty plan) || is_over spec.size (length (waiting topology before s)))
    by (d ∷ plan) sends e f =
        ap (λ ds. not (is_empty ds) || not (is_empty (over_in (spec_of topology s) (unsent ds (waiting topology before s))))) (e ∙ f)
    by [] sends e f =
        ap (λ ds. not (is_empty ds) || not (is_empty (over_in (spec_of topology s) (unsent ds (waiting topology before s))))) (e ∙ f)
        ∙ (ap (λ o. not (is_empty (over_in o (unsent [] (waiting topology before s))))) found
        ∙ (ap (λ ns. not (is_empty (over_size spec.size spec.keep ns))) (all_kept (waiting topology before s))
        ∙ over_some spec.size spec.keep (waiting topology before s)))

-- as the queue and the plan show it
pub due_by : (topology : Topology) (before : History) (s : StageNo) (spec : StageSpec) (plan : List Sent) (units : ℕ) → is_batcher (spec_of topology s) ≡ false → spec_of topology s ≡ Some spec → is_live topology before s ≡ true
    → plan ≡ planned topology before s [] → units ≡ length (waiting topology before s) → (not (length plan == 0) || is_over spec.size units) ≡ may_dispatch topology before s
due_by topology before s spec plan units messages found live is many =
    ap (λ b. not b || is_over spec.size units) (no_length plan)
    ∙ (ap (λ ds. not (is_empty ds) || is_over spec.size units) is
    ∙ (ap (λ n. not (is_empty (planned topology before s [])) || is_over spec.size n) many
    ∙ sym (may_by topology before s spec messages found live)))
