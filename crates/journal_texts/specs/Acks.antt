-- The text of the acknowledgements.
use Rattle.std.specs.Prelude.{ℕ, List, [], ◌∷◌, ◌++◌, codes, decimal, Option, Some, None}
use Rattle.std.specs.List.{flat_map}
use Rattle.pipe_types.specs.declared.topology.Topology.{Topology}
use Rattle.pipe_types.specs.declared.topology.StageSpec.{StageSpec}
use Rattle.pipe_types.specs.Stages.{spec_of}
use Rattle.pipe_model.specs.History.{History}
use Rattle.pipe_model.specs.Acknowledgements.{acknowledgements}
use Rattle.journal_texts.specs.Words.{lf, list_text}

-- numbers joined by commas, and `-` for none
abbrev pub numbers_text : List ℕ → List ℕ
numbers_text [] = codes "-"
numbers_text (n ∷ numbers) = list_text decimal (n ∷ numbers)

abbrev pub name_in : Option StageSpec → List ℕ
name_in None = []
name_in (Some spec) = spec.name

-- the line of an acknowledgement to the producer with this name
abbrev pub ack_line : (name : List ℕ) → (successful failed : List ℕ) → List ℕ
ack_line name successful failed = codes "ack " ++ name ++ codes " ok " ++ numbers_text successful ++ codes " failed " ++ numbers_text failed ++ lf

-- a line for each acknowledgement, in journal order
abbrev pub ack_text : Topology → History → List ℕ
ack_text topology before =
    flat_map (λ a. ack_line (name_in (spec_of topology a.producer)) a.successful a.failed) (acknowledgements topology before)
