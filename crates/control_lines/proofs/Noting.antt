-- What a reading leaves, whatever its calls came to.
use Rattle.std.proofs.Common.{◌≡◌, ℕ, ◌+◌, ◌≤◌, ◌<◌, List, [], ◌∷◌, Bool, true, false, arith, refl, ap, sym, ◌∙◌, subst, inl, inr, Some, None, Option}
use Rattle.std.specs.Prelude.{Result, Ok, Err, OnOk, OnErr, IsErr, nat_le, not, nat_lt}
use Rattle.std.proofs.lemmas.Bool.{leb-true, leb-false}
use Rattle.pipe_types.specs.declared.step.SourceHow.{SourceHow}
use Rattle.pipe_types.specs.declared.step.SourceHow.TheVariants as how
use Rattle.pipe_types.specs.declared.step.Step.{Step}
use Rattle.pipe_types.specs.declared.step.Step.TheVariants.{SourceEnd}
use Rattle.pipe_types.specs.declared.topology.Topology.{Topology}
use Rattle.pipe_types.specs.Numbers.{stage}
use Rattle.pipe_model.specs.History.{History, controls}
use Rattle.pipe_model.specs.Legal.{is_legal, has_ended, is_limit}
use Rattle.count_laws.proofs.Laws.{controls_law}
use Rattle.stage_bodies.specs.Seen.{LineSeen}
use Rattle.stage_bodies.specs.Jobs.{ReadsOn, Fetches, records_of}
use Rattle.stage_bodies.specs.declared.job.Outcome.{Outcome}
use Rattle.stage_bodies.specs.declared.job.Outcome.TheVariants as came
use Rattle.control_lines.specs.Steps.{AddsControl}
use Rattle.control_lines.specs.Orders.{with_reading, IsReading}
use Rattle.control_lines.specs.Keeping.{KeepsLines, KeepsLinesPartly, KeepsLinesOn, KeepsControl, KeepsControlOn}
use Rattle.control_lines.proofs.Kept.{limit_keeps, lost_keeps, reading_keeps, ended_keeps}
use Rattle.control_lines.proofs.Resting.{reading_adds}

-- ---- results

-- a call appended the end, or nothing
pub limit_on : {T E : Type 0} (r : Result T E) (topology : Topology) (before after : History) (opened now : LineSeen) → OnOk r (after ≡ SourceEnd (stage 0) how.Limit ∷ before) → OnErr r (after ≡ before) → controls before ≡ 10000
    → KeepsLines topology before 0 [] opened now → KeepsLinesOn r topology after 1 opened now
limit_on (Ok x) topology before after opened now done same full k = subst (λ h. KeepsLines topology h 1 [] opened now) (sym done) (limit_keeps topology before opened now full k)
limit_on (Err e) topology before after opened now done same full k = subst (λ h. KeepsLinesPartly topology h opened now) (sym same) ([], k)

pub limit_adds : {T E : Type 0} (r : Result T E) (before after : History) → OnOk r (after ≡ SourceEnd (stage 0) how.Limit ∷ before) → OnErr r (after ≡ before) → AddsControl before after
limit_adds (Ok x) before after done same = inr (SourceEnd (stage 0) how.Limit, done, refl)
limit_adds (Err e) before after done same = inl same

-- a call noted the reading, or nothing
pub reading_on : {T E : Type 0} (r : Result T E) (topology : Topology) (before after : History) (outcome : Outcome) (opened old new : LineSeen) → OnOk r (after ≡ with_reading topology before outcome) → OnErr r (after ≡ before)
    → has_ended before (stage 0) ≡ false → Fetches 1 outcome old new → KeepsLines topology before 0 [] opened old → KeepsLinesOn r topology after 1 opened new
reading_on (Ok x) topology before after outcome opened old new done same going f k =
    subst (λ h. KeepsLines topology h 1 [] opened new) (sym done) (reading_keeps topology before outcome opened old new going f k)
reading_on (Err e) topology before after outcome opened old new done same going f k =
    subst (λ h. KeepsLinesPartly topology h opened new) (sym same) (lost_keeps topology before (records_of outcome) opened old new going f.reads k)

pub reading_adds_on : {T E : Type 0} (r : Result T E) (topology : Topology) (before after : History) (outcome : Outcome) → OnOk r (after ≡ with_reading topology before outcome) → OnErr r (after ≡ before) → AddsControl before after
reading_adds_on (Ok x) topology before after outcome done same = subst (λ h. AddsControl before h) (sym done) (reading_adds topology before outcome)
reading_adds_on (Err e) topology before after outcome done same = inl same

-- the reading failed for want of memory
pub unread_on : {T E : Type 0} (r : Result T E) (topology : Topology) (before : History) (opened old new : LineSeen) → IsErr r → has_ended before (stage 0) ≡ false → ReadsOn [] old new
    → KeepsLines topology before 0 [] opened old → KeepsLinesOn r topology before 1 opened new
unread_on (Ok x) topology before opened old new fails going on k = let x : false ≡ true = fails in cc
unread_on (Err e) topology before opened old new fails going on k = lost_keeps topology before [] opened old new going on k

-- ---- counts

pub full_at : (topology : Topology) (before : History) → is_legal topology before ≡ true → nat_le 10000 (controls before) ≡ true → controls before ≡ 10000
full_at topology before legal full = omega (arith, controls_law topology before legal, leb-true 10000 (controls before) full)

pub not_full : (n : ℕ) → nat_le 10000 n ≡ false → n < 10000
not_full n h = leb-false 10000 n h

pub no_limit : (h : SourceHow) → IsReading (came.Ended h) → is_limit h ≡ false
no_limit how.End is = refl
no_limit how.Fault is = refl
no_limit how.TooLong is = refl
no_limit how.Limit is = absurd is

-- ---- over a control source that may be missing

pub kept_on : {T E : Type 0} (r : Result T E) (topology : Topology) (before after : History) (opened : Option LineSeen) (old new : LineSeen)
    → ((o : LineSeen) → KeepsLines topology before 0 [] o old → KeepsLinesOn r topology after 1 o new) → KeepsControl topology before 0 opened (Some old) → KeepsControlOn r topology after 1 opened (Some new)
kept_on (Ok x) topology before after (Some o) old new keeps k = keeps o k
kept_on (Err e) topology before after (Some o) old new keeps k = keeps o k
kept_on (Ok x) topology before after None old new keeps k = absurd k
kept_on (Err e) topology before after None old new keeps k = absurd k

pub none_on : {T E : Type 0} (r : Result T E) (topology : Topology) (before : History) (opened : Option LineSeen) → KeepsControl topology before 0 opened None → KeepsControlOn r topology before 1 opened None
none_on (Ok x) topology before None k = k
none_on (Err e) topology before None k = k
none_on (Ok x) topology before (Some o) k = absurd k
none_on (Err e) topology before (Some o) k = absurd k
