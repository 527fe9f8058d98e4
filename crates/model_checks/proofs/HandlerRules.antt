-- The rules of the built-in handlers.
use Rattle.std.proofs.Common.{◌≡◌, refl}
use Rattle.std.specs.Prelude.{ℕ, true, List, [], ◌∷◌, ◌++◌, map, codes, replicate, Some}
use Rattle.pipe_types.specs.declared.topology.StageSpec.{StageSpec}
use Rattle.pipe_types.specs.declared.topology.Rule.{Rule}
use Rattle.pipe_types.specs.declared.topology.Rule.TheVariants.{Pass as PassRule, Prefix, Require, Route, Key, Flush as FlushRule, Raise as RaiseRule, Crash as CrashRule, FailEvery}
use Rattle.pipe_types.specs.declared.topology.Kind.TheVariants.{Lines}
use Rattle.pipe_types.specs.declared.message.Reply.{Reply}
use Rattle.pipe_types.specs.declared.message.Reply.TheVariants.{Pass, Failed as FailedReply, Raised, Crashed}
use Rattle.pipe_types.specs.declared.message.Outcome.TheVariants.{Successful, Failed}
use Rattle.pipe_types.specs.declared.message.BatchEnd.TheVariants.{Outcomes, Crashed as CrashedEnd}
use Rattle.pipe_types.specs.Handlers.{field, eval, chunk_replies, batch_end, batch_text}
use Rattle.pipe_model.specs.Work.{count}
use Rattle.model_checks.proofs.Base.{processor, msg}

-- the reply of a handler with these rules to message 1 with this payload, where it has seen so many messages before
abbrev replies : (count : ℕ) → List Rule → (payload : List ℕ) → Reply
replies count rules payload = eval (processor 2 (codes "processors.0") 0 rules) count (msg 1 payload)

-- Fields

-- split at each single space, from 1; field 0 is the payload, and a missing one is empty
fields_of_text : map (λ n. field n (codes "a bc  d")) (0 ∷ 1 ∷ 2 ∷ 3 ∷ 4 ∷ 5 ∷ []) ≡ codes "a bc  d" ∷ codes "a" ∷ codes "bc" ∷ []
    ∷ codes "d" ∷ [] ∷ []
fields_of_text = refl

field_before_a_space : map (λ n. field n (codes " a")) (1 ∷ 2 ∷ 3 ∷ []) ≡ [] ∷ codes "a" ∷ [] ∷ []
field_before_a_space = refl

field_of_nothing : map (λ n. field n []) (0 ∷ 1 ∷ []) ≡ [] ∷ [] ∷ []
field_of_nothing = refl

-- Each rule

nothing_to_do : replies 0 [] (codes "x") ≡ Pass (msg 1 (codes "x"))
nothing_to_do = refl

passes_by : replies 0 (PassRule ∷ []) (codes "x") ≡ Pass (msg 1 (codes "x"))
passes_by = refl

puts_before : replies 0 (Prefix (codes "> ") ∷ []) (codes "x") ≡ Pass (msg 1 (codes "> x"))
puts_before = refl

requires_met : replies 0 (Require (codes "ab") ∷ []) (codes "abc") ≡ Pass (msg 1 (codes "abc"))
requires_met = refl

requires_at_the_beginning : replies 0 (Require (codes "b") ∷ []) (codes "abc") ≡ FailedReply (codes "require")
requires_at_the_beginning = refl

requires_all_of_it : replies 0 (Require (codes "abcd") ∷ []) (codes "abc") ≡ FailedReply (codes "require")
requires_all_of_it = refl

requires_nothing : replies 0 (Require [] ∷ []) [] ≡ Pass (msg 1 [])
requires_nothing = refl

routes : replies 0 (Route 2 3 (codes "b") ∷ []) (codes "a b") ≡ Pass (record (msg 1 (codes "a b")) { batcher = 3 })
routes = refl

routes_equal_only : replies 0 (Route 2 3 (codes "b") ∷ []) (codes "a bc") ≡ Pass (msg 1 (codes "a bc"))
routes_equal_only = refl

routes_a_missing_field : replies 0 (Route 2 3 [] ∷ []) (codes "a") ≡ Pass (record (msg 1 (codes "a")) { batcher = 3 })
routes_a_missing_field = refl

makes_a_key : replies 0 (Key 2 ∷ []) (codes "a b c") ≡ Pass (record (msg 1 (codes "a b c")) { key = codes "b" })
makes_a_key = refl

sets_flush_mode : replies 0 (FlushRule (codes "!") ∷ []) (codes "!x") ≡ Pass (record (msg 1 (codes "!x")) { flush = true })
sets_flush_mode = refl

leaves_flush_mode : replies 0 (FlushRule (codes "!") ∷ []) (codes "x!") ≡ Pass (msg 1 (codes "x!"))
leaves_flush_mode = refl

raises : replies 0 (RaiseRule (codes "!") ∷ []) (codes "!x") ≡ Raised (codes "raise")
raises = refl

crashes : replies 0 (CrashRule (codes "!") ∷ []) (codes "!x") ≡ Crashed
crashes = refl

crashes_not : replies 0 (CrashRule (codes "!") ∷ []) (codes "x") ≡ Pass (msg 1 (codes "x"))
crashes_not = refl

-- every third message, counted from 1
fails_every_third : map (λ count. replies count (FailEvery 3 ∷ []) (codes "x")) (0 ∷ 1 ∷ 2 ∷ 3 ∷ 5 ∷ [])
    ≡ Pass (msg 1 (codes "x")) ∷ Pass (msg 1 (codes "x")) ∷ FailedReply (codes "every") ∷ Pass (msg 1 (codes "x"))
    ∷ FailedReply (codes "every") ∷ []
fails_every_third = refl

-- In order

-- each rule sees the message as the rules before it left it
sees_the_new_payload : replies 0 (Prefix (codes "k ") ∷ Key 1 ∷ Require (codes "k x") ∷ []) (codes "x")
    ≡ Pass (record (msg 1 (codes "k x")) { key = codes "k" })
sees_the_new_payload = refl

-- the last route that fits counts
last_route : replies 0 (Route 0 1 (codes "x") ∷ Route 0 2 (codes "x") ∷ Route 0 3 (codes "y") ∷ []) (codes "x")
    ≡ Pass (record (msg 1 (codes "x")) { batcher = 2 })
last_route = refl

-- the first that does not pass is the reply
first_failure : replies 0 (PassRule ∷ Require (codes "y") ∷ CrashRule (codes "x") ∷ []) (codes "x") ≡ FailedReply (codes "require")
first_failure = refl

first_crash : replies 0 (CrashRule (codes "x") ∷ Require (codes "y") ∷ []) (codes "x") ≡ Crashed
first_crash = refl

-- Chunks and batches

-- a stage's own reason stands in place of each, also of a raise
abbrev renaming : StageSpec
renaming = record (processor 2 (codes "processors.0") 0 (RaiseRule (codes "r") ∷ Require (codes "x") ∷ CrashRule (codes "xc")
    ∷ [])) { failed = Some (codes "mine") }

chunk_with_reasons : chunk_replies renaming 0 (msg 1 (codes "r") ∷ msg 2 (codes "y") ∷ msg 3 (codes "x") ∷ []) ≡ Raised (codes "mine")
    ∷ FailedReply (codes "mine") ∷ Pass (msg 3 (codes "x")) ∷ []
chunk_with_reasons = refl

-- a raise does not end a chunk, and a crash does
chunk_to_the_crash : chunk_replies renaming 0 (msg 1 (codes "r") ∷ msg 2 (codes "xc") ∷ msg 3 (codes "x") ∷ []) ≡ Raised (codes "mine")
    ∷ Crashed ∷ []
chunk_to_the_crash = refl

-- a batch ends at its first raise, which fails every message
batch_that_raises : batch_end renaming 0 (msg 1 (codes "x") ∷ msg 2 (codes "r") ∷ msg 3 (codes "xc") ∷ [])
    ≡ Outcomes (replicate 3 (Failed (codes "mine")))
batch_that_raises = refl

batch_that_crashes : batch_end renaming 0 (msg 1 (codes "x") ∷ msg 2 (codes "xc") ∷ msg 3 (codes "r") ∷ []) ≡ CrashedEnd
batch_that_crashes = refl

batch_of_both : batch_end renaming 0 (msg 1 (codes "x") ∷ msg 2 (codes "y") ∷ []) ≡ Outcomes (Successful ∷ Failed (codes "mine") ∷ [])
batch_of_both = refl

-- the text of lines is of those that passed; that of steps is empty
text_of_lines : batch_text (record renaming { kind = Lines }) 0 (msg 1 (codes "x1") ∷ msg 2 (codes "y") ∷ msg 3 (codes "x2") ∷ [])
    ≡ codes "x1" ++ 10 ∷ codes "x2" ++ 10 ∷ []
text_of_lines = refl

text_of_steps : batch_text renaming 0 (msg 1 (codes "x1") ∷ []) ≡ []
text_of_steps = refl

text_of_a_raise : batch_text (record renaming { kind = Lines }) 0 (msg 1 (codes "x1") ∷ msg 2 (codes "r") ∷ []) ≡ []
text_of_a_raise = refl
