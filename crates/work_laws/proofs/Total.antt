-- All work is of these kinds.
use Rattle.std.proofs.Common.{◌≡◌, ℕ, ◌+◌, ◌≤◌, [], ◌∷◌, Bool, true, arith}
use Rattle.pipe_types.specs.declared.topology.Topology.{Topology}
use Rattle.pipe_types.specs.declared.step.Step.{Step}
use Rattle.pipe_types.specs.declared.step.Step.TheVariants.{Ask}
use Rattle.pipe_types.specs.Sound.{IsSound}
use Rattle.pipe_model.specs.History.{History}
use Rattle.pipe_model.specs.Counting.{as_number}
use Rattle.pipe_model.specs.Legal.{is_legal, is_late, is_drain}
use Rattle.work_laws.specs.Work.{how_many, work_done, is_work, is_intake, is_ask, is_dispatch, is_take, is_reply, is_child, is_child_end, is_source_end, is_killing, is_restart, is_refusal}
use Rattle.work_laws.specs.Limits.{most_work, most_moves, most_asks, most_dispatches, most_takes, most_children, most_child_ends, most_late, most_source_ends, most_kills, most_restarts}
use Rattle.work_laws.proofs.ByKind.{intakes_few, dispatches_few, takes_all, replies_all, children_all, child_ends_all}
use Rattle.work_laws.proofs.Lives.{killings_all, restarts_all, late_all}
use Rattle.work_laws.proofs.Asking.{asks_all}
use Rattle.work_laws.proofs.Endings.{source_ends_all, drains_all, refusals_all}

abbrev by_kinds : (f : (Step → Bool) → ℕ) → ℕ
by_kinds f =
    f is_intake + f is_ask + f is_dispatch + f is_take + f is_reply + f is_child + f is_child_end + f is_late + f is_source_end + f is_killing + f is_restart + f is_refusal + f is_drain

one_kind : (step : Step) → as_number (is_work step) ≤ by_kinds (λ test. as_number (test step))
one_kind (Ask u n) = omega arith
one_kind _ = omega arith

work_by_kinds : (before : History) → work_done before ≤ by_kinds (λ test. how_many test before)
work_by_kinds [] = omega arith
work_by_kinds (step ∷ before) = omega (arith, work_by_kinds before, one_kind step)

sum_within : (w a b c d e f g h i j k l m A B C D E F G H I J K L M : ℕ) → w ≤ a + b + c + d + e + f + g + h + i + j + k + l + m → a ≤ A → b ≤ B → c ≤ C → d ≤ D → e ≤ E → f ≤ F → g ≤ G → h ≤ H → i ≤ I → j ≤ J → k ≤ K → l ≤ L → m ≤ M → w ≤ A + B + C + D + E + F + G + H + I + J + K + L + M
sum_within w a b c d e f g h i j k l m A B C D E F G H I J K L M all p q r s t u v x y z n o aa = omega arith

pub work_within : (topology : Topology) (before : History) → IsSound topology → is_legal topology before ≡ true → work_done before ≤ most_work topology
work_within topology before sound h =
    sum_within (work_done before) (how_many is_intake before) (how_many is_ask before) (how_many is_dispatch before) (how_many is_take before) (how_many is_reply before) (how_many is_child before) (how_many is_child_end before) (how_many is_late before) (how_many is_source_end before) (how_many is_killing before) (how_many is_restart before) (how_many is_refusal before) (how_many is_drain before)
    (most_moves topology) (most_asks topology) (most_dispatches topology) (most_takes topology) (most_takes topology) (most_children topology) (most_child_ends topology) (most_late topology) (most_source_ends topology) (most_kills topology) (most_restarts topology) 10000 1
    (work_by_kinds before)
    (intakes_few topology before sound h)
    (asks_all topology before sound h)
    (dispatches_few topology before sound h)
    (takes_all topology before sound h)
    (replies_all topology before sound h)
    (children_all topology before sound h)
    (child_ends_all topology before sound h)
    (late_all topology before sound h)
    (source_ends_all topology before sound h)
    (killings_all topology before sound h)
    (restarts_all topology before sound h)
    (refusals_all topology before h)
    (drains_all topology before h)
