-- The laws as the clauses state them.
use Rattle.std.proofs.Common.{◌≡◌, ℕ, ◌+◌, ◌*◌, ◌≤◌, length, false, arith}
use Rattle.std.specs.Prelude.{IsTrue}
use Rattle.pipe_types.specs.declared.numbers.StageNo.{StageNo}
use Rattle.pipe_types.specs.declared.numbers.SubNo.{SubNo}
use Rattle.pipe_types.specs.declared.numbers.Post.{Post}
use Rattle.pipe_types.specs.declared.topology.Topology.{Topology}
use Rattle.pipe_types.specs.Numbers.{post, same_stage, stage}
use Rattle.pipe_types.specs.Stages.{spec_of}
use Rattle.pipe_types.specs.Sound.{IsSound}
use Rattle.pipe_model.specs.History.{History, incarnation, controls}
use Rattle.pipe_model.specs.Posts.{is_out, crashes}
use Rattle.pipe_model.specs.Counting.{as_number}
use Rattle.pipe_model.specs.Lives.{generation}
use Rattle.pipe_model.specs.Ledger.{max_in}
use Rattle.pipe_model.specs.Legal.{is_legal, has_role, is_producer_role, takes_role, has_ended}
use Rattle.count_laws.specs.Counts.{movers, senders, takes, asks, begun, answered, kills, crash_kills, child_starts}
use Rattle.count_laws.proofs.Steps.{movers_within, answers_within, controls_within}
use Rattle.count_laws.proofs.Takes.{takes_few}
use Rattle.count_laws.proofs.Bounds.{restarts_within, generations_within}
use Rattle.count_laws.proofs.Sends.{senders_few, asks_few}
use Rattle.count_laws.proofs.Crashes.{crash_kills_few, ended_rests}
use Rattle.count_laws.proofs.Reruns.{crashes_few}
use Rattle.count_laws.proofs.Starts.{child_starts_within}

pub movers_law : (topology : Topology) (before : History) → IsSound topology → IsTrue (is_legal topology before) → movers topology before ≤ 21 * topology.record_limit
movers_law topology before sound h = movers_within topology before sound h

pub senders_law : (topology : Topology) (before : History) → IsSound topology → IsTrue (is_legal topology before) → senders topology before ≤ length topology.stages * (topology.record_limit + 1)
senders_law topology before sound h = senders_few topology before sound h

pub takes_law : (topology : Topology) (before : History) (c : StageNo) → IsSound topology → IsTrue (is_legal topology before) → takes before c ≤ topology.record_limit + 1
takes_law topology before c sound h = takes_few topology before c sound h

pub asks_law : (topology : Topology) (before : History) (u : SubNo) → IsSound topology → IsTrue (is_legal topology before) → asks before u ≤ topology.record_limit + 1 + max_in (spec_of topology u.consumer)
asks_law topology before u sound h = asks_few topology before u sound h

pub answers_law : (topology : Topology) (before : History) (p : Post) → IsTrue (is_legal topology before) → answered before p + as_number (is_out before p) ≤ begun before p
answers_law topology before p h = answers_within topology before p h

pub lives_law : (topology : Topology) (before : History) (s : StageNo) → IsTrue (is_legal topology before) → incarnation before s ≤ 1 + kills before
lives_law topology before s h = omega (arith, restarts_within topology before s h)

pub generations_law : (topology : Topology) (before : History) (c p : StageNo) → generation topology before c p + 1 ≤ incarnation before c + incarnation before p
generations_law topology before c p = generations_within topology before c p

pub crash_kills_law : (topology : Topology) (before : History) (s : StageNo) → IsSound topology → IsTrue (is_legal topology before) → IsTrue (has_role topology s takes_role) → crash_kills before s ≤ topology.record_limit + 1
crash_kills_law topology before s sound h role = crash_kills_few topology before s sound h role

pub controls_law : (topology : Topology) (before : History) → IsTrue (is_legal topology before) → controls before ≤ 10000
controls_law topology before h = controls_within topology before h

pub crashes_law : (topology : Topology) (before : History) (n : ℕ) → IsTrue (is_legal topology before) → crashes before n ≤ 4
crashes_law topology before n h = crashes_few topology before n h

pub ended_law : (topology : Topology) (before : History) (s : StageNo) → IsTrue (is_legal topology before) → IsTrue (has_role topology s is_producer_role) → same_stage s (stage 0) ≡ false → IsTrue (has_ended before s) → is_out before (post s 0) ≡ false
ended_law topology before s h role own ended = ended_rests topology before s h role own ended

pub child_starts_law : (topology : Topology) (before : History) (n : ℕ) → IsTrue (is_legal topology before) → child_starts before n ≤ 1 + crashes before n
child_starts_law topology before n h = child_starts_within topology before n h

pub child_starts_most : (topology : Topology) (before : History) (n : ℕ) → IsTrue (is_legal topology before) → child_starts before n ≤ 5
child_starts_most topology before n h = omega (arith, child_starts_within topology before n h, crashes_few topology before n h)
