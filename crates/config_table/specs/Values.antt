-- What is wrong with a value at a key.
use Rattle.std.specs.Prelude.{ℕ, ◌+◌, ◌==◌, ◌&&◌, Bool, nat_le, ℤ, List, [], ◌∷◌, ◌++◌, Option, Some, None, if◌then◌else◌}
use Rattle.toml.specs.Data.{Data, Items, no_items, item, as_integer, as_str, as_array}
use Rattle.config_table.specs.declared.fault.ConfigFault.{ConfigFault}
use Rattle.config_table.specs.declared.fault.ConfigFault.TheVariants as fault
use Rattle.config_table.specs.declared.format.Range.{Range}
use Rattle.config_table.specs.declared.format.Shape.{Shape}
use Rattle.config_table.specs.declared.format.Shape.TheVariants as shape
use Rattle.config_table.specs.declared.format.Form.{Form}
use Rattle.config_table.specs.declared.format.Form.TheVariants.{Whole, Text, RuleTexts, SinkTexts, SelectTexts}
use Rattle.config_table.specs.declared.value.Flaw.{Flaw}
use Rattle.config_table.specs.declared.value.Flaw.TheVariants.{WrongType, OutOfRange}
use Rattle.config_table.specs.Fault.{at_place}
use Rattle.config_table.specs.Format.{is_in}
use Rattle.config_table.specs.Shape.{fits}

abbrev pub item_count : Items → ℕ
item_count no_items = 0
item_count (item d ds) = item_count ds + 1

abbrev pub number_flaw : Range → Option ℤ → Option Flaw
number_flaw range None = Some WrongType
number_flaw range (Some z) = if is_in range z then None else Some OutOfRange

abbrev pub text_flaw : Shape → Option (List ℕ) → Option Flaw
text_flaw shape None = Some WrongType
text_flaw shape (Some text) = if fits shape text then None else Some OutOfRange

-- at most 64 rules
abbrev pub rules_flaw : Option Items → Option Flaw
rules_flaw None = Some WrongType
rules_flaw (Some items) = if nat_le (item_count items) 64 then None else Some OutOfRange

-- one sink for each batch processor
abbrev pub sinks_flaw : ℕ → Option Items → Option Flaw
sinks_flaw n None = Some WrongType
sinks_flaw n (Some items) = if item_count items == n then None else Some OutOfRange

-- one text for each batch processor of a batcher that broadcasts
abbrev pub select_flaw : ℕ → (is_broadcast : Bool) → Option Items → Option Flaw
select_flaw n is_broadcast None = Some WrongType
select_flaw n is_broadcast (Some items) = if item_count items == n && is_broadcast then None else Some OutOfRange

-- what is wrong with the value itself
abbrev pub flaw_of : Form → Data → Option Flaw
flaw_of (Whole range) d = number_flaw range (as_integer d)
flaw_of (Text shape) d = text_flaw shape (as_str d)
flaw_of RuleTexts d = rules_flaw (as_array d)
flaw_of (SinkTexts n) d = sinks_flaw n (as_array d)
flaw_of (SelectTexts n is_broadcast) d = select_flaw n is_broadcast (as_array d)

-- a flaw at its path
abbrev pub flaw_faults : List ℕ → Option Flaw → List ConfigFault
flaw_faults path None = []
flaw_faults path (Some WrongType) = fault.WrongType path ∷ []
flaw_faults path (Some OutOfRange) = fault.OutOfRange path ∷ []

-- the texts of an array, from a position on
abbrev pub item_faults : List ℕ → Shape → ℕ → Items → List ConfigFault
item_faults path shape i no_items = []
item_faults path shape i (item d ds) = flaw_faults (at_place path i) (text_flaw shape (as_str d)) ++ item_faults path shape (i + 1) ds

abbrev pub items_faults : List ℕ → Shape → Option Items → List ConfigFault
items_faults path shape None = []
items_faults path shape (Some items) = item_faults path shape 0 items

abbrev pub inner_faults : List ℕ → Form → Data → List ConfigFault
inner_faults path (Whole range) d = []
inner_faults path (Text shape) d = []
inner_faults path RuleTexts d = items_faults path shape.Rule (as_array d)
inner_faults path (SinkTexts n) d = items_faults path shape.Any (as_array d)
inner_faults path (SelectTexts n is_broadcast) d = items_faults path shape.Selector (as_array d)

-- the faults of a value, and of the texts of an array
abbrev pub value_faults : List ℕ → Form → Data → List ConfigFault
value_faults path form d = flaw_faults path (flaw_of form d) ++ inner_faults path form d
