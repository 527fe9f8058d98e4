-- What a line says, word by word.
use Rattle.std.proofs.Common.{◌≡◌, ℕ, ◌+◌, ◌<◌, List, ◌++◌, Bool, true, false, arith, refl, ap, sym, ◌∙◌}
use Rattle.std.specs.Prelude.{◌≢◌, not, ◌&&◌, ◌==◌, nat_lt, codes, Some, None}
use Rattle.std.specs.Str.{bytes_eq}
use Rattle.std.proofs.lemmas.Bool.{ltb-true, eq-eqb}
use Rattle.std.proofs.lemmas.Bool.Decides.{same_from_decides, Decides-like}
use Rattle.std.proofs.lemmas.List.{append_cancel_left}
use Rattle.std.proofs.lemmas.Slice.Eq.{bytes_eq-Decides}
use Rattle.pipe_types.specs.declared.message.Why.TheVariants.{Kill as KillWhy, Stop}
use Rattle.pipe_types.specs.declared.step.DrainCause.TheVariants.{Control}
use Rattle.pipe_types.specs.declared.step.SourceHow.{SourceHow}
use Rattle.pipe_types.specs.declared.step.SourceHow.TheVariants as how
use Rattle.pipe_types.specs.declared.step.Step.{Step}
use Rattle.pipe_types.specs.declared.step.Step.TheVariants.{Kill, Drain, Refuse, SourceEnd}
use Rattle.pipe_types.specs.declared.topology.StageSpec.{StageSpec}
use Rattle.pipe_types.specs.declared.topology.Topology.{Topology}
use Rattle.pipe_types.specs.Numbers.{stage}
use Rattle.pipe_model.specs.History.{History, controls}
use Rattle.pipe_model.specs.Lives.{is_live}
use Rattle.pipe_model.specs.Legal.{allows, owed, passes, may_come, may_control, happened, is_halt, is_drain, is_late, has_ended, is_limit, same_truth}
use Rattle.pipe_model.specs.Outside.{control_reading, named_live}
use Rattle.pipe_laws.proofs.Tests.{and_left, and_right, both, not_true}
use Rattle.core_moves.proofs.Chain.{find_holds}
use Rattle.control_lines.proofs.Readings.{by_cause}

-- ---- names

-- behind the word stands x
pub named_is : (line word name x : List ℕ) → line ≡ word ++ x → bytes_eq x name ≡ bytes_eq line (word ++ name)
named_is line word name x is =
    same_from_decides (bytes_eq x name) (bytes_eq line (word ++ name))
    (Decides-like (bytes_eq x name) (λ e. is ∙ ap (λ y. word ++ y) e) (λ e. append_cancel_left word x name (sym is ∙ e)) (bytes_eq-Decides x name))
    (bytes_eq-Decides line (word ++ name))

pub not_named : (line word name : List ℕ) → ((rest : List ℕ) → line ≢ word ++ rest) → false ≡ bytes_eq line (word ++ name)
not_named line word name other = by (bytes_eq line (word ++ name)) (λ e. (bytes_eq-Decides line (word ++ name)).0 e)
  where
    by : (b : Bool) → (b ≡ true → line ≡ word ++ name) → false ≡ b
    by true e = absurd (other name (e refl))
    by false e = refl

-- the test of a stage
abbrev pub is_live_name : Topology → History → (word line : List ℕ) → StageSpec → Bool
is_live_name topology before word line spec = bytes_eq line (word ++ spec.name) && is_live topology before spec.no

-- ---- what may come

may_come_now : (topology : Topology) (before : History) (step : Step) → owed topology before ≡ None → happened is_halt before ≡ false → may_come topology before step ≡ true → allows topology before step ≡ true
may_come_now topology before step free going may = rw (going, free) may

same_no : (n : ℕ) → (n == n) ≡ true
same_no n = eq-eqb n n refl

-- the reading of the next line may come
pub reading_allowed : (topology : Topology) (before : History) (line : List ℕ) → owed topology before ≡ None → happened is_halt before ≡ false → may_control before ≡ true
    → allows topology before (control_reading topology before (controls before + 1) line) ≡ true
reading_allowed topology before line free going may =
    by_cause (λ step. allows topology before step ≡ true) topology before (controls before + 1) line
    (λ spec e. may_come_now topology before (Kill spec.no KillWhy) free going
    (both (may_control before) (is_live topology before spec.no) may (and_right (bytes_eq line (codes "kill " ++ spec.name)) (is_live topology before spec.no) (find_holds (is_live_name topology before (codes "kill ") line) topology.stages spec (sym e)))))
    (λ spec e. may_come_now topology before (Kill spec.no Stop) free going
    (both (may_control before) (is_live topology before spec.no) may (and_right (bytes_eq line (codes "stop " ++ spec.name)) (is_live topology before spec.no) (find_holds (is_live_name topology before (codes "stop ") line) topology.stages spec (sym e)))))
    (λ e. may_come_now topology before (Drain Control) free going
    (both (not (happened is_drain before)) (may_control before) (and_right (bytes_eq line (codes "drain")) (not (happened is_drain before)) e) may))
    (may_come_now topology before (Refuse (controls before + 1)) free going (both (may_control before) (controls before + 1 == controls before + 1) may (same_no (controls before + 1))))

-- the control source may be read
pub may_read : (before : History) → has_ended before (stage 0) ≡ false → controls before < 10000 → may_control before ≡ true
may_read before going few = both (not (has_ended before (stage 0))) (nat_lt (controls before) 10000) (flipped (has_ended before (stage 0)) going) (below (controls before) few)
  where
    flipped : (b : Bool) → b ≡ false → not b ≡ true
    flipped true e = cc
    flipped false e = refl

    below : (n : ℕ) → n < 10000 → nat_lt n 10000 ≡ true
    below n h = grind arith

pub still_open : (before : History) → may_control before ≡ true → has_ended before (stage 0) ≡ false
still_open before may = not_true (has_ended before (stage 0)) (and_left (not (has_ended before (stage 0))) (nat_lt (controls before) 10000) may)

-- the control source may end by itself
pub end_allowed : (topology : Topology) (before : History) (h : SourceHow) → owed topology before ≡ None → happened is_halt before ≡ false → may_control before ≡ true → is_limit h ≡ false
    → allows topology before (SourceEnd (stage 0) h) ≡ true
end_allowed topology before h free going may kind =
    may_come_now topology before (SourceEnd (stage 0) h) free going
    (both (not (has_ended before (stage 0))) (same_truth (is_limit h) (controls before == 10000))
    (and_left (not (has_ended before (stage 0))) (nat_lt (controls before) 10000) may)
    (rw kind (other (controls before) (ltb-true (controls before) 10000 (and_right (not (has_ended before (stage 0))) (nat_lt (controls before) 10000) may)))))
  where
    other : (n : ℕ) → n < 10000 → not (n == 10000) ≡ true
    other n h = grind arith

-- or by its limit
pub limit_allowed : (topology : Topology) (before : History) → owed topology before ≡ None → happened is_halt before ≡ false → has_ended before (stage 0) ≡ false → controls before ≡ 10000
    → allows topology before (SourceEnd (stage 0) how.Limit) ≡ true
limit_allowed topology before free going still full =
    may_come_now topology before (SourceEnd (stage 0) how.Limit) free going
    (both (not (has_ended before (stage 0))) (same_truth true (controls before == 10000)) (rw still refl) (eq-eqb (controls before) 10000 full))
