-- Plain text, and the law of a callback that writes nothing else.
use Rattle.std.specs.Prelude.{◌≡◌, ℕ, Bool, List, [], ◌∷◌, IsTrue, Some, slice_get}
use Rattle.std.specs.List.{list_all}
use Rattle.pipe_types.specs.declared.message.Message.{Message}
use Rattle.pipe_types.specs.declared.numbers.Post.{Post}
use Rattle.pipe_types.specs.declared.topology.Topology.{Topology}
use Rattle.pipe_model.specs.History.{History}
use Rattle.pipe_model.specs.Outside.{sink_text}
use Rattle.stage_bodies.specs.Seen.{BoxSeen}
use Rattle.stage_callback.specs.Laws.{Law, free, is_within, text_within}
use Rattle.box_stock.specs.Homes.{post_for}
use Rattle.pipe_top.specs.Boxes.{kinds}

-- the end of a line, and printable ASCII
abbrev pub plain_ranges : List (ℕ × ℕ)
plain_ranges = (10, 10) ∷ (32, 126) ∷ []

abbrev pub is_plain_byte : ℕ → Bool
is_plain_byte byte = is_within plain_ranges byte

abbrev pub is_plain_text : List ℕ → Bool
is_plain_text text = list_all is_plain_byte text

abbrev pub has_plain_payload : Message → Bool
has_plain_payload m = is_plain_text m.payload

-- the text of an answer to a batch is plain
abbrev pub plain_law : Law
plain_law = record free { batches = text_within plain_ranges ∷ [] }

-- where the callback of a post has this law, its stage wrote plain text
abbrev pub WritesPlainText : Topology → History → List BoxSeen → Type 0
WritesPlainText topology before boxes =
    (k : ℕ) (p : Post) (box : BoxSeen) → slice_get boxes k ≡ Some box → post_for topology (kinds boxes) k ≡ Some p → box.law ≡ plain_law
    → IsTrue (is_plain_text (sink_text topology before p.stage))
