-- What the entries stand for, whatever is added to their store.
use Rattle.std.proofs.Common.{◌≡◌, ℕ, zero, suc, ◌<◌, length, arith, ◌∷◌, ◌++◌, [], List, map, reverse, Some, refl, sym, ap, ◌∙◌, subst}
use Rattle.std.specs.Prelude.{slice_get, Option, IsSome, unwrap_or}
use Rattle.slab.specs.Slab.{Slab, ContainsKey}
use Rattle.std.proofs.lemmas.List.{map_push, reverse-append, reverse-reverse, length-map, length-reverse}
use Rattle.std.proofs.lemmas.Option.{slice_get-map}
use Rattle.std.specs.Option.{option_map}
use Rattle.pipe_types.specs.declared.step.Step.{Step}
use Rattle.pipe_types.specs.declared.message.Reply.{Reply}
use Rattle.pipe_journal.specs.declared.store.Store.{Store}
use Rattle.pipe_journal.specs.declared.entry.Entry.{Entry}
use Rattle.pipe_model.specs.History.{History}
use Rattle.pipe_journal.specs.Readers.{step_at}
use Rattle.pipe_journal.proofs.Extending.{as_long, same_item, same_piece}
use Rattle.pipe_journal.specs.Entries.{step_of, steps_of, IsHeld, AreHeld, KeepsValues, Keeps}

pub still_there : {X : Type 0} (old new : Slab X) (key : ℕ) → KeepsValues old new → ContainsKey old key → ContainsKey new key
still_there {X} old new key keeps is = subst (λ (slot : Option X). IsSome slot) (sym (keeps key is)) is

module _ (old new : Store) (keeps : Keeps old new) where
  -- an entry whose list is held has the same list

  same_step : (entry : Entry) → IsHeld old entry → step_of new entry ≡ step_of old entry
  same_step (Entry.Accept s first count) is = ap (Step.Accept s) (same_piece first count _ _ keeps.records is)
  same_step (Entry.Done s first count) is = ap (Step.Done s) (same_piece first count _ _ keeps.replies is)
  same_step (Entry.ChildEnd s slot at) is = ap (λ (found : Option Reply). Step.ChildEnd s slot (unwrap_or found Reply.Crashed)) (same_item at _ _ keeps.replies is)
  same_step (Entry.Whole key) is = ap (λ (found : Option Step). unwrap_or found Step.Halt) (keeps.whole key is)
  same_step _ is = refl

  held_step : (entry : Entry) → IsHeld old entry → IsHeld new entry
  held_step (Entry.Accept s first count) is = let grown = as_long _ _ keeps.records in omega arith
  held_step (Entry.Done s first count) is = let grown = as_long _ _ keeps.replies in omega arith
  held_step (Entry.ChildEnd s slot at) is = let grown = as_long _ _ keeps.replies in omega arith
  held_step (Entry.Whole key) is = still_there old.whole new.whole key keeps.whole is
  held_step _ is = tt

  same_steps : (entries : List Entry) → AreHeld old entries → map (step_of new) entries ≡ map (step_of old) entries
  same_steps [] are = refl
  same_steps (entry ∷ entries) are = ap (λ step. step ∷ map (step_of new) entries) (same_step entry are.0)
      ∙ ap (λ steps. step_of old entry ∷ steps) (same_steps entries are.1)

  pub same_history : (entries : List Entry) → AreHeld old entries → steps_of new entries ≡ steps_of old entries
  same_history entries are = ap reverse (same_steps entries are)

  pub still_held : (entries : List Entry) → AreHeld old entries → AreHeld new entries
  still_held [] are = tt
  still_held (entry ∷ entries) are = (held_step entry are.0, still_held entries are.1)

  pub all_held : (entries : List Entry) (entry : Entry) → AreHeld old entries → IsHeld new entry → AreHeld new (entries ++ entry ∷ [])
  all_held [] entry are is = (is, tt)
  all_held (first ∷ entries) entry are is = (held_step first are.0, all_held entries entry are.1 is)

  -- one entry more is one step more
  pub pushed : (entries : List Entry) (entry : Entry) (step : Step) → AreHeld old entries → step_of new entry ≡ step
      → steps_of new (entries ++ entry ∷ []) ≡ step ∷ steps_of old entries
  pushed entries entry step are is =
      ap reverse (map_push (step_of new) entries entry)
      ∙ reverse-append (map (step_of new) entries) (step_of new entry ∷ [])
      ∙ ap (λ s. s ∷ reverse (map (step_of new) entries)) is
      ∙ ap (λ steps. step ∷ reverse steps) (same_steps entries are)

-- the entry at a place is held
pub held_at : (store : Store) (entries : List Entry) (i : ℕ) (entry : Entry) → AreHeld store entries
    → slice_get entries i ≡ Some entry → IsHeld store entry
held_at store [] i entry are is = let no_step : ⊥ = cc in absurd no_step
held_at store (first ∷ entries) zero entry are is = let same : first ≡ entry = cc in subst (λ (e : Entry). IsHeld store e) same are.0
held_at store (first ∷ entries) (suc i) entry are is = held_at store entries i entry are.1 is

-- the step at a place is that of the entry there
pub step_there : (store : Store) (entries : List Entry) (i : ℕ) (entry : Entry) → slice_get entries i ≡ Some entry
    → step_at (steps_of store entries) i ≡ Some (step_of store entry)
step_there store entries i entry is =
    ap (λ steps. slice_get steps i) (reverse-reverse (map (step_of store) entries))
    ∙ slice_get-map (step_of store) entries i ∙ ap (option_map (step_of store)) is

-- a place of the history is a place of the entries
pub within : (store : Store) (entries : List Entry) (steps : History) (i : ℕ) → steps ≡ steps_of store entries
    → i < length steps → i < length entries
within store entries steps i are inside =
    let e = ap length are ∙ length-reverse (map (step_of store) entries) ∙ length-map entries (step_of store) in
    omega arith
