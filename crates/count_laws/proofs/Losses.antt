-- A dispatch of messages that loses one moves it.
use Rattle.std.proofs.Common.{◌≡◌, ℕ, zero, suc, ◌-◌, List, [], ◌∷◌, length, take, true, false, refl, ap, sym, ◌∙◌, subst, Some, None, Option}
use Rattle.std.specs.Prelude.{if◌then◌else◌, ◌||◌, is_some, drop, option_map}
use Rattle.std.proofs.lemmas.Bool.{eq-eqb}
use Rattle.pipe_types.specs.declared.numbers.StageNo.{StageNo}
use Rattle.pipe_types.specs.declared.numbers.SubNo.{SubNo}
use Rattle.pipe_types.specs.declared.topology.Topology.{Topology}
use Rattle.pipe_types.specs.declared.topology.StageSpec.{StageSpec}
use Rattle.pipe_types.specs.declared.topology.Keep.{Keep}
use Rattle.pipe_types.specs.declared.topology.Keep.TheVariants.{Last, First}
use Rattle.pipe_types.specs.declared.message.Loss.TheVariants.{Overflow}
use Rattle.pipe_types.specs.declared.message.Outcome.TheVariants.{Successful}
use Rattle.pipe_types.specs.declared.message.Place.TheVariants.{Waiting, InBatch, Acked, Lost}
use Rattle.pipe_types.specs.Numbers.{batch_no}
use Rattle.pipe_types.specs.declared.step.Step.TheVariants.{Dispatch}
use Rattle.pipe_types.specs.Stages.{spec_of}
use Rattle.pipe_model.specs.History.{History}
use Rattle.pipe_model.specs.Flow.{alone, place, batch, view_of, is_batcher, is_empty, among, waiting, waits_in, batch_waits_in, deliveries, subs_of, unsent, over_size, over_in, lost_over, dispatched, waiting_after}
use Rattle.pipe_laws.proofs.Tests.{same_stage-self}
use Rattle.pipe_laws.proofs.Lists.{Each, each_filter}
use Rattle.pipe_laws.proofs.Entries.{is_waiting, waiting_each, waits_here}
use Rattle.queue_laws.proofs.Alone.{IsAlone, alone_each}
use Rattle.queue_laws.proofs.Drained.{batch_message, waits_going}
use Rattle.pipe_model.specs.Legal.{is_legal}
use Rattle.count_laws.proofs.Heights.{Moves}

each_dropped : {A : Type 0} (P : A → Type 0) (k : ℕ) (xs : List A) → Each P xs → Each P (drop k xs)
each_dropped P zero xs e = e
each_dropped P (suc k) [] e = tt
each_dropped P (suc k) (x ∷ xs) e = each_dropped P k xs e.1

each_took : {A : Type 0} (P : A → Type 0) (k : ℕ) (xs : List A) → Each P xs → Each P (take k xs)
each_took P zero xs e = tt
each_took P (suc k) [] e = tt
each_took P (suc k) (x ∷ xs) e = (e.0, each_took P k xs e.1)

each_over : (P : ℕ → Type 0) (o : Option StageSpec) (units : List ℕ) → Each P units → Each P (over_in o units)
each_over P None units e = tt
each_over P (Some spec) units e = by_size spec.size spec.keep
  where
    by_size : (size : Option ℕ) (keep : Keep) → Each P (over_size size keep units)
    by_size None keep = tt
    by_size (Some n) Last = each_took P (length units - n) units e
    by_size (Some n) First = each_dropped P n units e

-- a dispatch of messages that loses one moves it
pub lost_moves_one : (topology : Topology) (before : History) (t : StageNo) → is_batcher (spec_of topology t) ≡ false → is_empty (lost_over topology before (view_of topology before) t) ≡ false → Moves topology before (Dispatch t)
lost_moves_one topology before t plain some = by_units (lost_over topology before (view_of topology before) t) refl some each
  where
    Unsent : ℕ → Type 0
    Unsent n = (is_waiting topology before t n ≡ true) × (is_empty (subs_of (deliveries topology before t) n) ≡ true)

    each : Each Unsent (lost_over topology before (view_of topology before) t)
    each =
        each_over Unsent (spec_of topology t) (unsent (deliveries topology before t) (waiting topology before t))
        (each_filter (λ n. is_waiting topology before t n ≡ true) (λ n. is_empty (subs_of (deliveries topology before t) n)) (waiting topology before t) (waiting_each topology before t))

    empty : (subs : List SubNo) → is_empty subs ≡ true → subs ≡ []
    empty [] h = refl
    empty (u ∷ subs) h = cc

    by_units : (units : List ℕ) → lost_over topology before (view_of topology before) t ≡ units → is_empty units ≡ false → Each Unsent (lost_over topology before (view_of topology before) t) → Moves topology before (Dispatch t)
    by_units [] e some each = cc
    by_units (n ∷ ns) e some each =
        let here : Unsent n = (subst (Each Unsent) e each).0 in
        let test : waits_in t (place topology before n) ≡ true = subst (λ b. (if b then batch_waits_in t (batch topology before n) else waits_in t (place topology before n)) ≡ true) plain here.0 in
        let stood : place topology before n ≡ Some (Waiting t) = waits_here t (place topology before n) test in
        let in_it : among (lost_over topology before (view_of topology before) t) n ≡ true = ap (λ xs. among xs n) e ∙ ap (λ b. b || among ns n) (eq-eqb n n refl) in
        let none : subs_of (deliveries topology before t) n ≡ [] = empty (subs_of (deliveries topology before t) n) here.1 in
        let after : place topology (Dispatch t ∷ before) n ≡ Some (Lost (Overflow t)) =
        ap (option_map (dispatched (deliveries topology before t) (lost_over topology before (view_of topology before) t) (alone topology before t) t n)) stood
        ∙ λ i. Some (if same_stage-self t i then waiting_after (none i) (in_it i) t else Waiting t) in
        record { number = n; stood = ap is_some stood; moved = λ same. let x : Some (Lost (Overflow t)) ≡ Some (Waiting t) = sym after ∙ (same ∙ stood) in cc }

-- a dispatch that serves a batch without a leg settles its messages
pub alone_moves_one : (topology : Topology) (before : History) (t : StageNo) → is_legal topology before ≡ true → is_empty (alone topology before t) ≡ false → Moves topology before (Dispatch t)
alone_moves_one topology before t h some = by_units (alone topology before t) refl some
  where
    by_units : (bs : List ℕ) → alone topology before t ≡ bs → is_empty bs ≡ false → Moves topology before (Dispatch t)
    by_units [] e some = cc
    by_units (b ∷ bs) e some =
        let lone : IsAlone topology before t b = (subst (Each (IsAlone topology before t)) e (alone_each topology before t)).0 in
        let m = batch_message topology before b h (waits_going t (batch topology before b) lone.waits) in
        let there : among (alone topology before t) b ≡ true = ap (λ xs. among xs b) e ∙ ap (λ x. x || among bs b) (eq-eqb b b refl) in
        let after : place topology (Dispatch t ∷ before) m.0 ≡ Some (Acked Successful) =
        ap (option_map (dispatched (deliveries topology before t) (lost_over topology before (view_of topology before) t) (alone topology before t) t m.0)) m.1
        ∙ ap (λ a. Some (if a then Acked Successful else InBatch (batch_no b))) there in
        record { number = m.0; stood = ap is_some m.1; moved = λ same. let x : Some (Acked Successful) ≡ Some (InBatch (batch_no b)) = sym after ∙ (same ∙ m.1) in cc }
