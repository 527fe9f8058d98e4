-- A pipe as contracts see it, and what its fields are.
use Rattle.std.proofs.Common.{◌≡◌, suc, List, [], ◌∷◌, refl, ap, sym, ◌∙◌, length, Option, Some, None, Result}
use Rattle.std.specs.Prelude.{map, option_map, slice_get}
use Rattle.std.specs.declared.alloc.AllocError.{AllocError}
use Rattle.std.proofs.lemmas.Option.{slice_get-map}
use Rattle.core_state.specs.declared.state.Core.{Core}
use Rattle.pipe_edges.specs.declared.lines.LineSource.{LineSource}
use Rattle.pipe_edges.specs.declared.source.ByteSource.{Ghosts as SourceOf}
use Rattle.pipe_edges.specs.declared.clock.Clock.{Ghosts as ClockOf}
use Rattle.stage_bodies.specs.Seen.{BodySeen, body_at, line_seen, looked}
use Rattle.stage_holds.specs.Clocks.{clock_seen}
use Rattle.run_pipe.specs.declared.ends.RunEnd.{RunEnd}
use Rattle.run_pipe.specs.declared.shown.Shown.{Ghosts as ShownOf}
use Rattle.run_pipe.specs.Parts.{state_by}
use Rattle.run_pipe.specs.Seen.{PipeState, PipeSeen, state_of}

looked_map : {B : Type 0} (look : B → BodySeen) (x : Option (Option B)) → looked (λ b. b) (option_map (option_map look) x) ≡ looked look x
looked_map look None = refl
looked_map look (Some None) = refl
looked_map look (Some (Some b)) = refl

pub same_home : {B : Type 0} (look : B → BodySeen) (items : List (Option B)) → body_at (λ (b : BodySeen). b) (map (option_map look) items) ≡ body_at look items
same_home look items = λ i at. (ap (looked (λ (b : BodySeen). b)) (slice_get-map (option_map look) items at) ∙ looked_map look (slice_get items at)) i

same_length : {A B : Type 0} (f : A → B) (xs : List A) → length (map f xs) ≡ length xs
same_length f [] = refl
same_length f (x ∷ xs) = ap suc (same_length f xs)

-- a pipe from its fields: as contracts see it, and what that comes to
module _ {B S C W : Type 0} (look : B → BodySeen) (source : SourceOf S) (clocks : ClockOf C) (shown : ShownOf W) where
  abbrev pub seen_by : Core → List (Option B) → Option (LineSource S) → C → W → Option (Result RunEnd AllocError) → PipeSeen
  seen_by core bodies control clock watch end =
      record {
        topology = core.topology;
        steps = core.journal.steps;
        bodies = map (option_map look) bodies;
        control = option_map (line_seen source) control;
        clock = clock_seen clocks.latest clocks.readings clocks.pauses clock;
        watch = shown.sight watch;
        end = end;
      }

  abbrev pub pipe_by : Core → List (Option B) → Option (LineSource S) → C → W → Option (Result RunEnd AllocError) → PipeState
  pipe_by = state_by look (line_seen source) (clock_seen clocks.latest clocks.readings clocks.pauses) shown.sight

  pub pipe_is : (core : Core) (bodies : List (Option B)) (control : Option (LineSource S)) (clock : C) (watch : W) (end : Option (Result RunEnd AllocError))
      → state_of (seen_by core bodies control clock watch end) ≡ pipe_by core bodies control clock watch end
  pipe_is core bodies control clock watch end =
      λ i. record {
        topology = core.topology;
        steps = core.journal.steps;
        home = same_home look bodies i;
        places = same_length (option_map look) bodies i;
        control = option_map (line_seen source) control;
        clock = clock_seen clocks.latest clocks.readings clocks.pauses clock;
        watch = shown.sight watch;
        end = end;
      }

  -- what contracts see of a pipe with these fields
  pub made_of : (p : PipeSeen) (core : Core) (bodies : List (Option B)) (control : Option (LineSource S)) (clock : C) (watch : W) (end : Option (Result RunEnd AllocError))
      → seen_by core bodies control clock watch end ≡ p → state_of p ≡ pipe_by core bodies control clock watch end
  made_of p core bodies control clock watch end is = sym (ap state_of is) ∙ pipe_is core bodies control clock watch end
