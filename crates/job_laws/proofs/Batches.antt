-- The messages of a closed batch are in it, or settled.
use Rattle.std.proofs.Common.{◌≡◌, ℕ, ◌+◌, ◌*◌, ◌≤◌, List, [], ◌∷◌, Bool, true, false, refl, ap, sym, ◌∙◌, subst, Some, None, Option, arith}
use Rattle.std.specs.Prelude.{if◌then◌else◌, ◌==◌, is_some, option_map}
use Rattle.pipe_types.specs.declared.message.BatchEnd.TheVariants.{Outcomes}
use Rattle.pipe_types.specs.declared.message.Place.{Place}
use Rattle.pipe_types.specs.declared.message.Place.TheVariants.{InBatch}
use Rattle.pipe_types.specs.declared.step.Step.{Step}
use Rattle.pipe_types.specs.declared.step.Step.TheVariants.{Dispatch, Take, Close, Wrote, Kill, Halt}
use Rattle.pipe_types.specs.declared.topology.Topology.{Topology}
use Rattle.pipe_types.specs.Numbers.{batch_no}
use Rattle.pipe_types.specs.Sound.{IsSound}
use Rattle.pipe_model.specs.History.{History, closed}
use Rattle.pipe_model.specs.Batches.{Batch}
use Rattle.pipe_model.specs.Content.{content}
use Rattle.pipe_model.specs.Flow.{place, batch, view_of, among, numbers_in, next_units, closing, new_batch}
use Rattle.pipe_model.specs.Legal.{is_legal}
use Rattle.pipe_model.specs.Standing.{in_progress}
use Rattle.pipe_laws.proofs.Lists.{Each, each_weaker, all_among}
use Rattle.pipe_laws.proofs.Places.{move_by}
use Rattle.pipe_laws.proofs.Levels.{rank, rank_most, level, level_grows}
use Rattle.pipe_laws.proofs.Allowed.{legal_before}
use Rattle.queue_laws.proofs.Sounds.{fits}
use Rattle.queue_laws.proofs.OneLeg.{numbers_kept}
use Rattle.queue_laws.proofs.Members.{holds_its_messages}
use Rattle.queue_laws.proofs.Gathering.{content_stays}

-- the message is in a batch, or acknowledged or lost
abbrev pub IsPast : Topology → History → ℕ → Type 0
IsPast topology before n = 100 ≤ level topology (place topology before n)

past_after : (topology : Topology) (before : History) (step : Step) (n : ℕ) → IsPast topology before n → IsPast topology (step ∷ before) n
past_after topology before step n far = omega (arith, far, level_grows topology before step _ _ (move_by topology before step n))

none_of : (P : ℕ → Type 0) (o : Option Batch) → is_some o ≡ false → Each P (numbers_in o)
none_of P None e = tt
none_of P (Some x) e = let f : true ≡ false = e in cc

map_none : {A B : Type 0} (f : A → B) (o : Option A) → is_some o ≡ false → is_some (option_map f o) ≡ false
map_none f None e = e
map_none f (Some x) e = e

by_test : {A : Type 0} (a : Bool) (f : A → A) (o : Option A) → is_some o ≡ false → is_some (if a then option_map f o else o) ≡ false
by_test true f o e = map_none f o e
by_test false f o e = e

pub batch_past : (topology : Topology) (before : History) (b : ℕ) → is_legal topology before ≡ true → Each (IsPast topology before) (numbers_in (batch topology before b))
batch_past topology [] b h = tt
batch_past topology (step ∷ before) b h = either (is_some (batch topology before b)) refl (batch_past topology before b (legal_before topology before step h))
  where
    absent : (step : Step) → is_legal topology (step ∷ before) ≡ true → is_some (batch topology before b) ≡ false → Each (IsPast topology (step ∷ before)) (numbers_in (batch topology (step ∷ before) b))
    absent (Close t first trigger) h none = by_number (b == closed before + 1) refl
      where
        numbers : List ℕ
        numbers = closing before (view_of topology before) t first.0

        in_it : (n : ℕ) → place topology (Close t first trigger ∷ before) n ≡ Some (InBatch (batch_no b)) → IsPast topology (Close t first trigger ∷ before) n
        in_it n e = let at : level topology (place topology (Close t first trigger ∷ before) n) ≡ 100 = ap (level topology) e in omega (arith, at)

        by_number : (a : Bool) → (b == closed before + 1) ≡ a → Each (IsPast topology (Close t first trigger ∷ before)) (numbers_in (batch topology (Close t first trigger ∷ before) b))
        by_number true new =
            let going : in_progress (batch topology (Close t first trigger ∷ before) b) ≡ true = ap (λ x. in_progress (new_batch x numbers t (batch topology before b))) new in
            each_weaker (λ n. among (numbers_in (batch topology (Close t first trigger ∷ before) b)) n ≡ true) (IsPast topology (Close t first trigger ∷ before))
            (λ n there. in_it n ((holds_its_messages topology (Close t first trigger ∷ before) b h).each going n there))
            (numbers_in (batch topology (Close t first trigger ∷ before) b)) (all_among (numbers_in (batch topology (Close t first trigger ∷ before) b)))
        by_number false old =
            none_of (IsPast topology (Close t first trigger ∷ before)) (batch topology (Close t first trigger ∷ before) b) (ap (λ x. is_some (new_batch x numbers t (batch topology before b))) old ∙ none)
    absent (Dispatch t) h none = none_of (IsPast topology (Dispatch t ∷ before)) (batch topology (Dispatch t ∷ before) b) (map_none _ (batch topology before b) none)
    absent (Take t u k) h none = none_of (IsPast topology (Take t u k ∷ before)) (batch topology (Take t u k ∷ before) b) (by_test (among (next_units topology (view_of topology before) t u k) b) _ (batch topology before b) none)
    absent (Wrote t bytes (Outcomes outcomes)) h none = none_of (IsPast topology (Wrote t bytes (Outcomes outcomes) ∷ before)) (batch topology (Wrote t bytes (Outcomes outcomes) ∷ before) b) (map_none _ (batch topology before b) none)
    absent (Kill t why) h none = none_of (IsPast topology (Kill t why ∷ before)) (batch topology (Kill t why ∷ before) b) (map_none _ (batch topology before b) none)
    absent Halt h none = none_of (IsPast topology (Halt ∷ before)) (batch topology (Halt ∷ before) b) (map_none _ (batch topology before b) none)
    absent step h none = none_of (IsPast topology (step ∷ before)) (batch topology before b) none

    either : (a : Bool) → is_some (batch topology before b) ≡ a → Each (IsPast topology before) (numbers_in (batch topology before b)) → Each (IsPast topology (step ∷ before)) (numbers_in (batch topology (step ∷ before) b))
    either true e earlier = subst (Each (IsPast topology (step ∷ before))) (sym (numbers_kept topology before step b e)) (each_weaker (IsPast topology before) (IsPast topology (step ∷ before)) (λ n far. past_after topology before step n far) (numbers_in (batch topology before b)) earlier)
    either false e earlier = absent step h e

level_some : (topology : Topology) (p : Option Place) → 100 ≤ level topology p → is_some p ≡ true
level_some topology (Some p) far = refl
level_some topology None far = absurd (omega (arith, far))

-- a message that is past all stages keeps its content
pub past_content : (topology : Topology) (before : History) (step : Step) (n : ℕ) → IsSound topology → is_legal topology (step ∷ before) ≡ true → IsPast topology before n → content (step ∷ before) n ≡ content before n
past_content topology before step n sound h far =
    content_stays topology before step n (fits topology sound) h (level_some topology (place topology before n) far)
    (λ t e. let low : level topology (place topology before n) ≡ 4 * rank topology t + 1 = ap (level topology) e in omega (arith, low, far, rank_most topology t))
