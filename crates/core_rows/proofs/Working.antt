-- Where no job is out no batch is at work.
use Rattle.std.proofs.Common.{◌≡◌, ◌+◌, Bool, true, false, refl, sym, ◌∙◌, Some, None, Option}
use Rattle.std.specs.Prelude.{is_some, ◌&&◌}
use Rattle.pipe_types.specs.declared.numbers.StageNo.{StageNo}
use Rattle.pipe_types.specs.declared.topology.Topology.{Topology}
use Rattle.pipe_types.specs.declared.topology.StageSpec.{StageSpec}
use Rattle.pipe_types.specs.Stages.{spec_of}
use Rattle.pipe_model.specs.History.{History}
use Rattle.pipe_model.specs.Lives.{is_live}
use Rattle.pipe_model.specs.Flow.{batch, is_empty, waiting, inbox, chunk_by, view_of}
use Rattle.pipe_model.specs.Legal.{is_legal, owed}
use Rattle.pipe_model.specs.Moves.{jobs_out}
use Rattle.pipe_model.specs.Standing.{at_work, is_clear, gathered_in}
use Rattle.pipe_laws.proofs.Tests.{and_right}
use Rattle.queue_laws.proofs.Laws.{dead_law}
use Rattle.move_laws.proofs.Rested.{work_home}

-- a stage works on no batch where its job is home
pub work_none : (topology : Topology) (before : History) (s : StageNo) (spec : StageSpec) → is_legal topology before ≡ true → owed topology before ≡ None → jobs_out topology before ≡ false
    → spec_of topology s ≡ Some spec → is_empty (at_work topology before s) ≡ true
work_none topology before s spec legal free out e = by (is_live topology before s) refl
  where
    by : (b : Bool) → is_live topology before s ≡ b → is_empty (at_work topology before s) ≡ true
    by true live = work_home topology before s spec legal free out e live
    by false dead =
        and_right (is_empty (gathered_in topology before s)) _
        (and_right (is_empty (chunk_by (view_of topology before) s)) _
        (and_right (is_empty (inbox topology before s)) _
        (and_right (is_empty (waiting topology before s)) _ (dead_law topology before s legal dead))))

-- where its job is home a stage is clear once its four queues are empty
pub clear_is : (topology : Topology) (before : History) (s : StageNo) (spec : StageSpec) → is_legal topology before ≡ true → owed topology before ≡ None → jobs_out topology before ≡ false
    → spec_of topology s ≡ Some spec
    → ((is_empty (waiting topology before s) && (is_empty (inbox topology before s) && is_empty (chunk_by (view_of topology before) s))) && is_empty (gathered_in topology before s)) ≡ is_clear topology before s
clear_is topology before s spec legal free out e =
    by (is_empty (waiting topology before s)) (is_empty (inbox topology before s)) (is_empty (chunk_by (view_of topology before) s)) (is_empty (gathered_in topology before s))
    (is_empty (at_work topology before s)) (work_none topology before s spec legal free out e)
  where
    by : (w i c g a : Bool) → a ≡ true → ((w && (i && c)) && g) ≡ (w && (i && (c && (g && a))))
    by true true true true a h = sym h
    by true true true false a h = refl
    by true true false g a h = refl
    by true false c g a h = refl
    by false i c g a h = refl

pub clear_known : (topology : Topology) (before : History) (s : StageNo) → is_legal topology before ≡ true → owed topology before ≡ None → jobs_out topology before ≡ false
    → is_some (spec_of topology s) ≡ true
    → ((is_empty (waiting topology before s) && (is_empty (inbox topology before s) && is_empty (chunk_by (view_of topology before) s))) && is_empty (gathered_in topology before s)) ≡ is_clear topology before s
clear_known topology before s legal free out known = by (spec_of topology s) refl known
  where
    by : (o : Option StageSpec) → spec_of topology s ≡ o → is_some o ≡ true
        → ((is_empty (waiting topology before s) && (is_empty (inbox topology before s) && is_empty (chunk_by (view_of topology before) s))) && is_empty (gathered_in topology before s)) ≡ is_clear topology before s
    by None e k = cc
    by (Some spec) e k = clear_is topology before s spec legal free out e
