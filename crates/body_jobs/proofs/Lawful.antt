-- Outcomes, and the end of a batch, that the law of a callback allows.
use Rattle.std.proofs.Common.{◌≡◌, ◌≤◌, ◌<◌, ◌+◌, ℕ, length, get_or, take, List, [], ◌∷◌, ◌++◌, refl, sym, ap, ◌∙◌, subst}
use Rattle.std.proofs.lemmas.List.{take_more, take_all}
use Rattle.pipe_types.specs.declared.message.Batch.{Batch}
use Rattle.pipe_types.specs.declared.message.Message.{Message}
use Rattle.pipe_types.specs.declared.message.Outcome.{Outcome}
use Rattle.pipe_types.specs.declared.message.BatchEnd.TheVariants.{Outcomes, Crashed}
use Rattle.pipe_types.specs.declared.message.BatchReply.{BatchReply}
use Rattle.pipe_types.specs.declared.message.BatchReply.TheVariants as batch
use Rattle.stage_callback.specs.Laws.{KeepsBatch, Law}
use Rattle.stage_bodies.specs.Told.{raised_with}
use Rattle.stage_bodies.specs.Lawful.{IsSettled, AreSettled, IsLawfullyHandled}

-- no message yet
pub lawful_none : (law : Law) (settled : List Outcome) → settled ≡ [] → AreSettled law [] [] settled
lawful_none law settled none = rw none tt

-- one message more
settled_more : (law : Law) (messages : List Message) (given settled : List Outcome) (m : Message) (o s : Outcome)
    → AreSettled law messages given settled → IsSettled law m.no o s → AreSettled law (messages ++ m ∷ []) (given ++ o ∷ []) (settled ++ s ∷ [])
settled_more law [] [] [] m o s are is = (is, tt)
settled_more law (x ∷ xs) (y ∷ ys) (z ∷ zs) m o s are is = (are.0, settled_more law xs ys zs m o s are.1 is)
settled_more law [] [] (z ∷ zs) m o s are is = absurd are
settled_more law [] (y ∷ ys) zs m o s are is = absurd are
settled_more law (x ∷ xs) [] zs m o s are is = absurd are
settled_more law (x ∷ xs) (y ∷ ys) [] m o s are is = absurd are

-- the next message
pub lawful_next : (law : Law) (messages : List Message) (given : List Outcome) (at : ℕ) (m : Message) (o s : Outcome) (settled settled' : List Outcome)
    → at < length messages → at < length given → m ≡ get_or messages at m → o ≡ get_or given at o → settled' ≡ settled ++ s ∷ []
    → AreSettled law (take at messages) (take at given) settled → IsSettled law m.no o s → AreSettled law (take (at + 1) messages) (take (at + 1) given) settled'
lawful_next law messages given at m o s settled settled' among below is_message is_outcome grown so_far is =
    let e : take (at + 1) messages ≡ take at messages ++ m ∷ [] = take_more messages at m among ∙ ap (λ x. take at messages ++ x ∷ []) (sym is_message) in
    let f : take (at + 1) given ≡ take at given ++ o ∷ [] = take_more given at o below ∙ ap (λ x. take at given ++ x ∷ []) (sym is_outcome) in
    rw (e, f, grown) (settled_more law (take at messages) (take at given) settled m o s so_far is)

-- every message
pub lawful_all : (law : Law) (messages : List Message) (given : List Outcome) (at : ℕ) (settled settled' : List Outcome) → length messages ≤ at → length given ≤ at → settled' ≡ settled
    → AreSettled law (take at messages) (take at given) settled → AreSettled law messages given settled'
lawful_all law messages given at settled settled' all all_given is so_far =
    let e : take at messages ≡ messages = take_all at messages all in
    let f : take at given ≡ given = take_all at given all_given in
    rw is (rw (e, f) at so_far)

-- a batch that was answered
pub answered_lawfully : (law middle : Law) (asked : Batch) (reply : BatchReply) (given settled : List Outcome) (text : List ℕ) → middle ≡ law → reply ≡ batch.Answered given text
    → KeepsBatch law asked reply → AreSettled middle asked.messages given settled → IsLawfullyHandled law asked (Outcomes settled) text
answered_lawfully law middle asked reply given settled text same is lawful settles = record {
  reply = batch.Answered given text;
  lawful = rw is at lawful;
  by = (subst (λ l. AreSettled l asked.messages given settled) same settles, refl);
}

-- one that raised
pub raised_lawfully : (law middle : Law) (asked : Batch) (reply : BatchReply) (why : List ℕ) (given settled : List Outcome) (text : List ℕ) → middle ≡ law → reply ≡ batch.Raised why
    → given ≡ raised_with why asked.messages → text ≡ [] → KeepsBatch law asked reply → AreSettled middle asked.messages given settled → IsLawfullyHandled law asked (Outcomes settled) text
raised_lawfully law middle asked reply why given settled text same is all no_text lawful settles = record {
  reply = batch.Raised why;
  lawful = rw is at lawful;
  by = (subst (λ l. AreSettled l asked.messages (raised_with why asked.messages) settled) same (rw all at settles), no_text);
}

-- one that crashed
pub crashed_lawfully : (law : Law) (asked : Batch) (reply : BatchReply) (text : List ℕ) → reply ≡ batch.Crashed → text ≡ [] → KeepsBatch law asked reply → IsLawfullyHandled law asked Crashed text
crashed_lawfully law asked reply text is no_text lawful = record { reply = batch.Crashed; lawful = rw is at lawful; by = no_text }
