-- Which message may start in a slot.
use Rattle.std.proofs.Common.{◌≡◌, ℕ, Bool, true, false, refl, ap, ◌∙◌, Option, Some, None}
use Rattle.std.specs.Prelude.{◌&&◌, ◌==◌, nat_le, nat_lt, if◌then◌else◌, option_map}
use Rattle.pipe_types.specs.declared.numbers.StageNo.{StageNo}
use Rattle.pipe_types.specs.declared.topology.Topology.{Topology}
use Rattle.pipe_types.specs.Stages.{spec_of}
use Rattle.pipe_model.specs.History.{History}
use Rattle.pipe_model.specs.Posts.{in_slot, crashes}
use Rattle.pipe_model.specs.Flow.{inbox, is_number, place, runs_in}
use Rattle.pipe_model.specs.Legal.{is_legal, runs_number, max_of, first_unit}
use Rattle.consumer_sup.specs.declared.Child.{Child}
use Rattle.core_laws.specs.Columns.{child_row}
use Rattle.core_laws.specs.Slots.{child_of, child_if}
use Rattle.core_laws.proofs.Children.{child_is}
use Rattle.core_allows.specs.Rows.{starts_by}

-- what the table has of the slot tells which message may start in it
pub starts_is : (topology : Topology) (before : History) (s : StageNo) (slot n : ℕ) → is_legal topology before ≡ true
    → starts_by (option_map (λ (child : Child). child.no) (child_row topology before s slot)) n slot (max_of (spec_of topology s)) (first_unit (inbox topology before s))
    ≡ (if runs_number topology before s (in_slot before s slot)
    then is_number (in_slot before s slot) n
    else nat_le 1 n && (nat_lt slot (max_of (spec_of topology s)) && n == first_unit (inbox topology before s)))
starts_is topology before s slot n legal =
    ap (λ o. starts_by (option_map (λ (child : Child). child.no) o) n slot (max_of (spec_of topology s)) (first_unit (inbox topology before s))) (child_is topology before s slot legal)
    ∙ by (in_slot before s slot)
  where
    some : (b : Bool) (m c : ℕ)
        → starts_by (option_map (λ (child : Child). child.no) (child_if b m c)) n slot (max_of (spec_of topology s)) (first_unit (inbox topology before s))
        ≡ (if b then m == n else nat_le 1 n && (nat_lt slot (max_of (spec_of topology s)) && n == first_unit (inbox topology before s)))
    some true m c = refl
    some false m c = refl

    by : (o : Option ℕ)
        → starts_by (option_map (λ (child : Child). child.no) (child_of topology before s o)) n slot (max_of (spec_of topology s)) (first_unit (inbox topology before s))
        ≡ (if runs_number topology before s o then is_number o n else nat_le 1 n && (nat_lt slot (max_of (spec_of topology s)) && n == first_unit (inbox topology before s)))
    by None = refl
    by (Some m) = some (runs_in s (place topology before m)) m (crashes before m)
