-- The texts of refusals, each a line, and the line of what was counted.
use Rattle.std.specs.Prelude.{ℕ, List, [], ◌∷◌, ◌++◌, Option, codes, decimal, unwrap_or}
use Rattle.pipe_types.specs.declared.topology.Kind.{Kind}
use Rattle.pipe_types.specs.declared.topology.Kind.TheVariants.{Steps, Lines, Own}

abbrev pub lf : List ℕ
lf = 10 ∷ []

abbrev pub usage_line : List ℕ
usage_line = codes "usage: flow SOURCE PREFIX; check TOPOLOGY; run TOPOLOGY [--workers N] [--acks] [--steps] [--live SINK]; gen SEED COUNT TOPOLOGY; upgrade TOPOLOGY; audit JOURNAL TOPOLOGY" ++ lf

abbrev pub memory_line : List ℕ
memory_line = codes "memory" ++ lf

-- edge NAME
abbrev pub edge_line : (name : List ℕ) → List ℕ
edge_line name = codes "edge " ++ name ++ lf

-- feed NAME
abbrev pub feed_line : (name : List ℕ) → List ℕ
feed_line name = codes "feed " ++ name ++ lf

abbrev pub kind_word : Kind → List ℕ
kind_word Steps = codes "steps"
kind_word Lines = codes "lines"
kind_word Own = codes "own"

-- stock KIND need A have B
abbrev pub stock_line : Kind → (need have : ℕ) → List ℕ
stock_line kind need have = codes "stock " ++ (kind_word kind ++ (codes " need " ++ (decimal need ++ (codes " have " ++ (decimal have ++ lf)))))

-- topology NUMBER PATH, and `-` where there is no path
abbrev pub topology_line : (number : ℕ) → (path : Option (List ℕ)) → List ℕ
topology_line number path = codes "topology " ++ (decimal number ++ (codes " " ++ (unwrap_or path (codes "-") ++ lf)))

-- stages N subscriptions M
abbrev pub counts_line : (stages subscriptions : ℕ) → List ℕ
counts_line stages subscriptions = codes "stages " ++ (decimal stages ++ (codes " subscriptions " ++ (decimal subscriptions ++ lf)))
