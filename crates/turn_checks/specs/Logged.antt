-- A journal read from the oldest step on.
use Rattle.std.specs.Prelude.{Bool, not, ◌&&◌, ◌||◌}
use Rattle.pipe_types.specs.declared.numbers.Post.{Post}
use Rattle.pipe_types.specs.declared.step.Step.{Step}
use Rattle.pipe_model.specs.Posts.{answers, puts_out}

-- whether the post is out after a step, where `before` says whether it was
abbrev pub out_next : Post → Bool → Step → Bool
out_next post before step = puts_out step post || (not (answers step post) && before)
