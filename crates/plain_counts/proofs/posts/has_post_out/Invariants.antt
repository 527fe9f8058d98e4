use Rattle.std.proofs.Common.{◌≡◌, take}
use Rattle.std.specs.List.{list_any}
use Rattle.pipe_types.specs.Numbers.{post}
use Rattle.pipe_model.specs.History.{history}
use Rattle.pipe_model.specs.Posts.{is_out, slots}
use Rattle.plain_counts.proofs.posts.has_post_out.Given as goal

abbrev pub invariant-loop-slot : goal.invariant-loop-slot
invariant-loop-slot l = l.out ≡ list_any (λ slot. is_out (history l.steps) (post l.stage slot)) (take l.slot-index slots)
