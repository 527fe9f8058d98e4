-- What each step says of the pace of a producer.
use Rattle.std.proofs.Common.{◌≡◌, ℕ, ◌+◌, ◌==◌, ◌&&◌, not, Bool, true, false, if◌then◌else◌, List, [], ◌∷◌, arith, refl}
use Rattle.pipe_types.specs.Numbers.{same_stage}
use Rattle.pipe_types.specs.declared.numbers.StageNo.{StageNo}
use Rattle.pipe_types.specs.declared.step.LateAnswer.TheVariants as late
use Rattle.pipe_types.specs.declared.step.SourceHow.{SourceHow}
use Rattle.pipe_types.specs.declared.step.Step.{Step}
use Rattle.pipe_types.specs.declared.step.Step.TheVariants.{Accept, Quiet, SourceEnd, Late}
use Rattle.pipe_types.specs.declared.topology.Topology.{Topology}
use Rattle.pipe_model.specs.History.{History}
use Rattle.pipe_model.specs.Legal.{is_legal}
use Rattle.pipe_laws.proofs.Allowed.{legal_before}
use Rattle.pipe_laws.proofs.Tests.{same_stage-self}
use Rattle.rate_laws.specs.Rates.{came_by, fetched_at, interval_of, is_used_up, own_quiets}
use Rattle.rate_laws.proofs.Times.{fetched_by_now, fetched_grows, none_later}
use Rattle.pace_laws.specs.Pacing.{PaceGoes, PaceRests, PaceStays}

-- the step brings records of this producer, or says that it had none
abbrev pub brings : Step → StageNo → Bool
brings (Accept t records) s = same_stage t s
brings (Quiet t) s = same_stage t s
brings (Late t slot i (late.Records records)) s = same_stage t s
brings (Late t slot i late.Quiet) s = same_stage t s
brings _ s = false

off : (a b : Bool) (x y : ℕ) → a ≡ false → (if a && b then x else y) ≡ y
off true b x y e = cc
off false b x y e = refl

came_stays : (step : Step) (before : History) (s : StageNo) (interval i : ℕ) → brings step s ≡ false → came_by s interval i (step ∷ before) ≡ came_by s interval i before
came_stays (Accept t records) before s interval i e = off (same_stage t s) (interval_of interval (fetched_at before t) == i) _ _ e
came_stays (Late t slot j (late.Records records)) before s interval i e = off (same_stage t s) (interval_of interval (fetched_at before t) == i) _ _ e
came_stays _ before s interval i e = refl

own_stays : (step : Step) (before : History) (s : StageNo) (share interval : ℕ) → brings step s ≡ false → own_quiets share interval (step ∷ before) s ≡ own_quiets share interval before s
own_stays (Quiet t) before s share interval e = off (same_stage t s) (not (is_used_up share interval before s)) _ _ e
own_stays (Late t slot j late.Quiet) before s share interval e = off (same_stage t s) (not (is_used_up share interval before s)) _ _ e
own_stays _ before s share interval e = refl

pub pace_stays : (topology : Topology) (before : History) (step : Step) (s : StageNo) → is_legal topology (step ∷ before) ≡ true → brings step s ≡ false → PaceStays before (step ∷ before) s
pace_stays topology before step s h e =
    let legal = legal_before topology before step h in
    record {
      came = λ interval i. came_stays step before s interval i e;
      own = λ share interval. own_stays step before s share interval e;
      grows = fetched_grows step before s (fetched_by_now topology before s legal);
      later = λ interval i some new. none_later topology before s interval i legal some new;
    }

mine : (a b : Bool) (x y : ℕ) → a ≡ true → (if a && b then x else y) ≡ (if b then x else y)
mine true b x y e = refl
mine false b x y e = cc

pub accept_goes : (before : History) (s : StageNo) (records : List (List ℕ)) → PaceGoes before (Accept s records ∷ before) s records
accept_goes before s records = record {
  came = λ interval i. mine (same_stage s s) (interval_of interval (fetched_at before s) == i) _ _ (same_stage-self s);
  own = λ share interval. refl;
  same_fetch = refl;
}

pub late_goes : (before : History) (s : StageNo) (slot j : ℕ) (records : List (List ℕ)) → PaceGoes before (Late s slot j (late.Records records) ∷ before) s records
late_goes before s slot j records = record {
  came = λ interval i. mine (same_stage s s) (interval_of interval (fetched_at before s) == i) _ _ (same_stage-self s);
  own = λ share interval. refl;
  same_fetch = refl;
}

none_more : (t : Bool) (x : ℕ) → x ≡ (if t then x + 0 else x)
none_more true x = omega arith
none_more false x = refl

pub end_goes : (before : History) (s : StageNo) (h : SourceHow) → PaceGoes before (SourceEnd s h ∷ before) s []
end_goes before s h = record {
  came = λ interval i. none_more (interval_of interval (fetched_at before s) == i) (came_by s interval i before);
  own = λ share interval. refl;
  same_fetch = refl;
}

pub late_end_goes : (before : History) (s : StageNo) (slot j : ℕ) (h : SourceHow) → PaceGoes before (Late s slot j (late.Source h) ∷ before) s []
late_end_goes before s slot j h = record {
  came = λ interval i. none_more (interval_of interval (fetched_at before s) == i) (came_by s interval i before);
  own = λ share interval. refl;
  same_fetch = refl;
}

unused : (a t : Bool) (x : ℕ) → a ≡ true → (if a && not t then x + 1 else x) ≡ (if t then x else x + 1)
unused true true x e = refl
unused true false x e = refl
unused false t x e = cc

pub quiet_rests : (before : History) (s : StageNo) → PaceRests before (Quiet s ∷ before) s
quiet_rests before s = record {
  came = λ interval i. refl;
  own = λ share interval. unused (same_stage s s) (is_used_up share interval before s) (own_quiets share interval before s) (same_stage-self s);
  same_fetch = refl;
}

pub late_rests : (before : History) (s : StageNo) (slot j : ℕ) → PaceRests before (Late s slot j late.Quiet ∷ before) s
late_rests before s slot j = record {
  came = λ interval i. refl;
  own = λ share interval. unused (same_stage s s) (is_used_up share interval before s) (own_quiets share interval before s) (same_stage-self s);
  same_fetch = refl;
}
