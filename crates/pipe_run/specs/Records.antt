-- What a run reads of a source that was made of records.
use Rattle.std.specs.Prelude.{◌≡◌, ◌≢◌, ◌++◌, ℕ, Bool, List, IsTrue, Option, Some, None}
use Rattle.pipe_types.specs.declared.numbers.StageNo.{StageNo}
use Rattle.pipe_types.specs.declared.step.SourceHow.TheVariants.{End, Fault, TooLong}
use Rattle.pipe_types.specs.declared.topology.Rate.{Rate}
use Rattle.pipe_model.specs.History.{History}
use Rattle.pipe_model.specs.Outside.{fed, source_end}
use Rattle.pipe_laws.specs.Read.{quiets}

-- these are the first of all
pub record AreFirstOf (all first : List (List ℕ)) : Type 0 where
  pub others : List (List ℕ)
  pub parts : all ≡ first ++ others

-- the journal's records are the first of these, and all of them where the source came to its end. No line was too long, and in a
-- whole run the source never failed and, where there is no rate, never had nothing ready
pub record ReadsRecords (whole : Bool) (rate : Option Rate) (before : History) (p : StageNo) (records : List (List ℕ)) : Type 0 where
  pub in_order : AreFirstOf records (fed before p)
  pub all : source_end before p ≡ Some End → fed before p ≡ records
  pub no_long : source_end before p ≢ Some TooLong
  pub no_fault : IsTrue whole → source_end before p ≢ Some Fault
  pub no_quiet : IsTrue whole → rate ≡ None → quiets before p ≡ 0
