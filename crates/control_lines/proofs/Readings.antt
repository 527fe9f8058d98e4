-- Readings of lines.
use Rattle.std.proofs.Common.{◌≡◌, ℕ, zero, suc, ◌+◌, List, [], ◌∷◌, ◌++◌, length, Bool, true, false, refl, ap, sym, ◌∙◌, subst, Some, None, Option}
use Rattle.std.specs.Prelude.{slice_get, not, ◌&&◌, codes, if◌then◌else◌}
use Rattle.std.specs.Str.{bytes_eq}
use Rattle.pipe_types.specs.declared.message.Why.TheVariants.{Kill as KillWhy, Stop}
use Rattle.pipe_types.specs.declared.numbers.StageNo.{StageNo}
use Rattle.pipe_types.specs.declared.step.DrainCause.TheVariants.{Control}
use Rattle.pipe_types.specs.declared.step.Step.{Step}
use Rattle.pipe_types.specs.declared.step.Step.TheVariants.{Kill, Drain, Refuse}
use Rattle.pipe_types.specs.declared.topology.StageSpec.{StageSpec}
use Rattle.pipe_types.specs.declared.topology.Topology.{Topology}
use Rattle.pipe_model.specs.History.{History, controls}
use Rattle.pipe_model.specs.Legal.{happened, is_drain}
use Rattle.pipe_model.specs.Outside.{named_live, control_reading, is_control, IsReadingOfNext, if_control, AreReadings}

-- ---- the reading of one line

-- what the words of a line say of it
abbrev pub reading_by : (killed stopped : Option StageSpec) → (drains : Bool) → (number : ℕ) → Step
reading_by (Some spec) stopped drains number = Kill spec.no KillWhy
reading_by None (Some spec) drains number = Kill spec.no Stop
reading_by None None true number = Drain Control
reading_by None None false number = Refuse number

abbrev pub begins_drain : History → (line : List ℕ) → Bool
begins_drain before line = bytes_eq line (codes "drain") && not (happened is_drain before)

pub reading_is : (topology : Topology) (before : History) (number : ℕ) (line : List ℕ)
    → control_reading topology before number line
    ≡ reading_by (named_live topology before (codes "kill ") line) (named_live topology before (codes "stop ") line) (begins_drain before line) number
reading_is topology before number line = by (named_live topology before (codes "kill ") line) refl (named_live topology before (codes "stop ") line) refl (begins_drain before line) refl
  where
    by : (a : Option StageSpec) → named_live topology before (codes "kill ") line ≡ a → (b : Option StageSpec) → named_live topology before (codes "stop ") line ≡ b → (d : Bool) → begins_drain before line ≡ d
        → control_reading topology before number line
        ≡ reading_by (named_live topology before (codes "kill ") line) (named_live topology before (codes "stop ") line) (begins_drain before line) number
    by (Some s) e b f d g = rw e refl
    by None e (Some s) f d g = rw (e, f) refl
    by None e None f true g = rw (e, f, g) refl
    by None e None f false g = rw (e, f, g) refl

-- each reading is a kill or a stop of the stage that is named, a begin of the drain, or a refusal
pub by_cause : (P : Step → Type 0) (topology : Topology) (before : History) (number : ℕ) (line : List ℕ)
    → ((spec : StageSpec) → named_live topology before (codes "kill ") line ≡ Some spec → P (Kill spec.no KillWhy))
    → ((spec : StageSpec) → named_live topology before (codes "stop ") line ≡ Some spec → P (Kill spec.no Stop))
    → (begins_drain before line ≡ true → P (Drain Control)) → P (Refuse number)
    → P (control_reading topology before number line)
by_cause P topology before number line kills stops drains refuses =
    subst P (sym (reading_is topology before number line))
    (by (named_live topology before (codes "kill ") line) kills (named_live topology before (codes "stop ") line) stops (begins_drain before line) drains)
  where
    by : (a : Option StageSpec) → ((spec : StageSpec) → a ≡ Some spec → P (Kill spec.no KillWhy)) → (b : Option StageSpec) → ((spec : StageSpec) → b ≡ Some spec → P (Kill spec.no Stop)) → (d : Bool) → (d ≡ true → P (Drain Control))
        → P (reading_by a b d number)
    by (Some s) k b t d e = k s refl
    by None k (Some s) t d e = t s refl
    by None k None t true e = e refl
    by None k None t false e = refuses

pub by_reading : (P : Step → Type 0) (topology : Topology) (before : History) (number : ℕ) (line : List ℕ)
    → ((s : StageNo) → P (Kill s KillWhy)) → ((s : StageNo) → P (Kill s Stop)) → P (Drain Control) → P (Refuse number)
    → P (control_reading topology before number line)
by_reading P topology before number line kills stops drains refuses =
    by_cause P topology before number line (λ spec e. kills spec.no) (λ spec e. stops spec.no) (λ e. drains) refuses

-- ---- lists of lines

pub front_stays : {A : Type 0} (xs ys : List A) (n : ℕ) (x : A) → slice_get xs n ≡ Some x → slice_get (xs ++ ys) n ≡ Some x
front_stays [] ys n x h = cc
front_stays (y ∷ xs) ys zero x h = h
front_stays (y ∷ xs) ys (suc n) x h = front_stays xs ys n x h

pub next_is : {A : Type 0} (xs : List A) (x : A) → slice_get (xs ++ x ∷ []) (length xs) ≡ Some x
next_is [] x = refl
next_is (y ∷ xs) x = next_is xs x

-- readings of the first lines are readings of more
pub more_readings : (topology : Topology) (before : History) (read more : List (List ℕ)) → AreReadings topology before read → AreReadings topology before (read ++ more)
more_readings topology [] read more h = tt
more_readings topology (step ∷ before) read more h = (more_readings topology before read more h.0, by (is_control step) h.1)
  where
    by : (b : Bool) → if_control b (IsReadingOfNext topology before read step) → if_control b (IsReadingOfNext topology before (read ++ more) step)
    by true r = record { line = r.line; is_next = front_stays read more (controls before) r.line r.is_next; reading = r.reading }
    by false r = tt

-- a step that is no control step
pub other_readings : (topology : Topology) (before : History) (step : Step) (read : List (List ℕ)) → is_control step ≡ false → AreReadings topology before read → AreReadings topology (step ∷ before) read
other_readings topology before step read other h = (h, by (is_control step) other)
  where
    by : (b : Bool) → b ≡ false → if_control b (IsReadingOfNext topology before read step)
    by true e = cc
    by false e = tt

-- the next line is read
pub next_reading : (topology : Topology) (before : History) (read : List (List ℕ)) (line : List ℕ) → length read ≡ controls before → AreReadings topology before read
    → AreReadings topology (control_reading topology before (controls before + 1) line ∷ before) (read ++ line ∷ [])
next_reading topology before read line count h =
    (more_readings topology before read (line ∷ []) h, by (is_control (control_reading topology before (controls before + 1) line)))
  where
    by : (b : Bool) → if_control b (IsReadingOfNext topology before (read ++ line ∷ []) (control_reading topology before (controls before + 1) line))
    by true = record { line = line; is_next = subst (λ n. slice_get (read ++ line ∷ []) n ≡ Some line) count (next_is read line); reading = refl }
    by false = tt
