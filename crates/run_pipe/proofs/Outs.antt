-- A post that is out is away.
use Rattle.std.proofs.Common.{◌≡◌, ◌≢◌, ⊎_elim, inl, inr, Bool, true, false, refl, sym, ap, ◌∙◌, Option, Some, None, Result, Ok, Err, Contains}
use Rattle.std.specs.Prelude.{◌&&◌, not, IfSome, IfOk, IsSome}
use Rattle.std.specs.declared.alloc.AllocError.{AllocError}
use Rattle.pipe_types.specs.declared.numbers.Post.{Post}
use Rattle.pipe_types.specs.declared.topology.StageSpec.{StageSpec}
use Rattle.pipe_types.specs.declared.topology.Topology.{Topology}
use Rattle.pipe_types.specs.Sound.{IsSound}
use Rattle.pipe_types.specs.Stages.{spec_of}
use Rattle.pipe_model.specs.History.{History}
use Rattle.pipe_model.specs.Legal.{is_legal, happened, is_drain}
use Rattle.pipe_model.specs.Moves.{jobs_out}
use Rattle.pipe_model.specs.Posts.{is_out}
use Rattle.pipeline_turn.specs.Jobs.{AreAway}
use Rattle.move_laws.proofs.Still.{slot_none}
use Rattle.body_laws.specs.Keeps.{has_post, has_post_in}
use Rattle.body_laws.proofs.Posts.{few_slots, out_has_post}
use Rattle.stage_holds.specs.Holds.{OutsAre}
use Rattle.run_pipe.specs.declared.ends.RunEnd.{RunEnd}
use Rattle.run_pipe.specs.declared.ends.RunEnd.TheVariants.{Drained, Halted}
use Rattle.run_pipe.specs.Ends.{HasEnded, HasMemory}
use Rattle.run_pipe.specs.Seen.{PipeState, away_of}

pub no_truth : {A : Type 0} (b : Bool) → b ≡ true → b ≡ false → A
no_truth true e f = cc
no_truth false e f = cc

pub second_false : (a b c : Bool) → (a && (not b && c)) ≡ true → b ≡ false
second_false true false c h = refl
second_false true true c h = cc
second_false false b c h = cc

-- no job is out at the end
pub none_out_at : (topology : Topology) (h : History) (end : RunEnd) → HasEnded topology h end → jobs_out topology h ≡ false
none_out_at topology h Drained e = second_false (happened is_drain h) (jobs_out topology h) _ e.0
none_out_at topology h Halted e = e.1

-- where no job is out, this post is not
none_is_out : (topology : Topology) (h : History) (q : Post) → IsSound topology → is_legal topology h ≡ true → jobs_out topology h ≡ false → is_out h q ≡ true → ⊥
none_is_out topology h q sound legal none out = by_spec (spec_of topology q.stage) refl
  where
    has : has_post topology q ≡ true
    has = out_has_post topology h q.stage q.slot legal out

    by_spec : (o : Option StageSpec) → spec_of topology q.stage ≡ o → ⊥
    by_spec None e = let x : false ≡ true = sym (ap (λ o. has_post_in o q.slot) e) ∙ has in cc
    by_spec (Some spec) e = no_truth (is_out h q) out (slot_none topology h q.stage spec q.slot none e (few_slots topology q sound has))

-- nor where the pipe has ended, unless memory was wanting
pub none_out_ended : {A : Type 0} (topology : Topology) (h : History) (end : Option (Result RunEnd AllocError)) → IsSound topology → is_legal topology h ≡ true → IsSome end
    → IfSome end (λ e. IfOk e (HasEnded topology h)) → HasMemory end → (q : Post) → is_out h q ≡ true → A
none_out_ended topology h None sound legal some ended memory q out = let x : false ≡ true = some in cc
none_out_ended topology h (Some (Ok e)) sound legal some ended memory q out = absurd (none_is_out topology h q sound legal (none_out_at topology h e ended) out)
none_out_ended topology h (Some (Err e)) sound legal some ended memory q out = absurd memory

-- and so it is behind a hold
pub outs_on : (own job : Option Post) (old new : PipeState) → OutsAre own job old.steps new.steps → AreAway own job (away_of old) (away_of new) → ((q : Post) → is_out old.steps q ≡ true → Contains (away_of old) q)
    → (q : Post) → is_out new.steps q ≡ true → Contains (away_of new) q
outs_on own job old new outs away was q out =
    (away q).1 (⊎_elim (λ (e : job ≡ Some q). inl e) (λ (u : (is_out old.steps q ≡ true) × (own ≢ Some q)). inr (was q u.0, u.1)) (outs q out))
