-- What a pipe has of the one that it was at the start.
use Rattle.std.specs.Prelude.{◌≡◌, ◌<◌, ℕ, IsTrue, IsSome, Option, Some, None, Result, Err}
use Rattle.std.specs.declared.alloc.AllocError.{AllocError}
use Rattle.pipe_types.specs.declared.numbers.Post.{Post}
use Rattle.pipe_types.specs.declared.topology.Topology.{Topology}
use Rattle.pipe_model.specs.History.{History}
use Rattle.pipe_model.specs.Begins.{BeginsWith}
use Rattle.stage_bodies.specs.Seen.{LineSeen}
use Rattle.stage_bodies.specs.Posts.{place_at}
use Rattle.body_laws.specs.Keeps.{Keeps, has_post}
use Rattle.stage_holds.specs.Keeping.{KeepsControl, KeepsControlPartly}
use Rattle.stage_holds.specs.Clocks.{ClockSeen, KeepsClock, KeepsClockPartly}
use Rattle.run_pipe.specs.declared.ends.RunEnd.{RunEnd}
use Rattle.run_pipe.specs.Seen.{PipeState}
use Rattle.run_pipe.specs.Watches.{KeepsWatch}

-- the journal keeps to the clock, and to the control source; in part where memory was wanting
abbrev pub KeepsClockTo : Option (Result RunEnd AllocError) → History → (opened clock : ClockSeen) → Type 0
KeepsClockTo (Some (Err e)) steps opened clock = KeepsClockPartly steps opened clock
KeepsClockTo _ steps opened clock = KeepsClock steps opened clock

abbrev pub KeepsControlTo : Option (Result RunEnd AllocError) → Topology → History → (opened lines : Option LineSeen) → Type 0
KeepsControlTo (Some (Err e)) topology steps opened lines = KeepsControlPartly topology steps opened lines
KeepsControlTo _ topology steps opened lines = KeepsControl topology steps 0 opened lines

-- the place is one of the table, of a post of the topology
pub record IsOfPost (p : PipeState) (at : ℕ) : Type 0 where
  pub post : Post
  pub has : IsTrue (has_post p.topology post)
  pub slot : post.slot < 16
  pub place : place_at post ≡ at
  pub within : at < p.places

-- It has the same topology and as many places, and its journal begins with that one; the bodies, the control source and the clock
-- stand where the journal leaves them, from what they were; only places of posts were emptied; and the watch began as that one did
pub record Stems (opened p : PipeState) : Type 0 where
  pub topology : p.topology ≡ opened.topology
  pub places : p.places ≡ opened.places
  pub begins : BeginsWith p.steps opened.steps
  pub keeps : Keeps opened.topology p.steps opened.home p.home
  pub only_posts : (at : ℕ) → IsSome (opened.home at) → p.home at ≡ None → IsOfPost opened at
  pub clock : KeepsClockTo p.end p.steps opened.clock p.clock
  pub control : KeepsControlTo p.end opened.topology p.steps opened.control p.control
  pub watch : KeepsWatch opened.watch p.watch
