-- What a call with callbacks of one's own in stock comes to.
use Rattle.std.specs.Prelude.{ℕ, List, [], ◌∷◌, true, None, codes, take, decimal}
use Rattle.pipe_types.specs.declared.topology.Kind.{Kind}
use Rattle.pipe_config.specs.File.{topology_of_file}
use Rattle.topology_needs.specs.Needs.{boxes_in}
use Rattle.pipe_top.specs.Cases.{Case, Filed, for_topology, run_case}

-- the words `run t --workers N --steps --acks`
abbrev pub run_words : (workers : ℕ) → List (List ℕ)
run_words workers = codes "run" ∷ codes "t" ∷ codes "--workers" ∷ decimal workers ∷ codes "--steps" ∷ codes "--acks" ∷ []

-- what the call comes to, however many workers there are: the topology of the file runs, if the callbacks of these kinds are
-- enough for it, and the journal and the acknowledgements are shown
abbrev pub case_of_file : (kinds : List Kind) → (file : List ℕ) → Case
case_of_file kinds file =
    for_topology (topology_of_file (take 1048577 file)) (run_case (boxes_in kinds) (record { steps = true; acks = true }) None Filed)
