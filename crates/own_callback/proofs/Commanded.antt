-- The command that the words of a call are.
use Rattle.std.proofs.Common.{◌≡◌, ◌≤◌, ◌<◌, ◌⊎◌, inl, inr, ℕ, zero, suc, refl, subst, codes, true, None, Some, arith}
use Rattle.std.proofs.lemmas.Bool.{cases_lt}
use Rattle.clap.specs.Faults.{walk_fault, defaults_fault}
use Rattle.clap.specs.Walk.{walked}
use Rattle.std.specs.Fmt.{digits}
use Rattle.program_words.specs.Words.{Command, Run, command_of, taken_of, workers_of}
use Rattle.own_callback.specs.Came.{run_words}

-- the run of the topology under `t` on so many workers, with both texts shown
abbrev pub run_command : (workers : ℕ) → Command
run_command workers = Run (codes "t") workers true true None

-- the words for so many workers are that command
abbrev IsRunOf : ℕ → Type 0
IsRunOf workers = command_of (run_words workers) ≡ Some (run_command workers)

-- it holds of each number from 1 to this one
abbrev Below : (P : ℕ → Type 0) → ℕ → Type 0
Below P zero = Unit {0}
Below P (suc k) = P (suc k) × Below P k

-- what holds of all of them holds of each
each : (P : ℕ → Type 0) (k : ℕ) → Below P k → (n : ℕ) → 1 ≤ n → n ≤ k → P n
each P zero all n low high = absurd (omega arith)
each P (suc k) all n low high = go (λ below. each P k all.1 n low below) (cases_lt k n)
  where
    go : (n ≤ k → P n) → (k < n) ⊎ (n ≤ k) → P n
    go less (inl above) = let same : suc k ≡ n = omega arith in subst P same all.0
    go less (inr below) = less below

sixteen : Below IsRunOf 16
unfolding taken_of workers_of walk_fault walked defaults_fault digits
sixteen = (refl, (refl, (refl, (refl, (refl, (refl, (refl, (refl, (refl, (refl, (refl, (refl, (refl, (refl, (refl, (refl, tt))))))))))))))))

-- the words are the command, for each number of workers that a run may have
pub run_words_run : (workers : ℕ) → 1 ≤ workers → workers ≤ 16 → command_of (run_words workers) ≡ Some (run_command workers)
run_words_run workers low high = each IsRunOf 16 sixteen workers low high
