-- The rule of a turn, which holds between any two steps.
-- Word 0 is 1 while the value is out with a seat, and 0 while it is at home. The words behind it count news, and the workers that
-- sleep, and may be any numbers.
use Rattle.std.specs.Prelude.{◌≡◌, ◌≢◌, ℕ, ◌+◌, ◌<◌, List, [], ◌∷◌, Option, Some, None, true, false, Contains}
use mathlib.Core.Option.{none, some}
use mathlib.Core.Option as maybe
use lib.ListN.{get_elem?}
use Rattle.atomic_table.specs.Table.{State}
use Rattle.pipe_types.specs.declared.numbers.Post.{Post}
use Rattle.pipe_model.specs.History.{History}
use Rattle.pipe_model.specs.Begins.{BeginsWith}
use Rattle.pipeline_turn.specs.Jobs.{IsUndone}
use Rattle.pipeline_turn.specs.declared.view.View.{View}
use Rattle.pipeline_turn.specs.declared.view.Handed.{Handed}

-- where the value is: at home, or out with a seat, which took it with this journal and with these posts away
pub data Place (V : Type 0) : Type 0 where
  home : Handed V → Place V
  lent : ℕ → History → List Post → Place V

module _ {V : Type 0} where
  abbrev pub place_word : Place V → ℕ
  place_word (home h) = 0
  place_word (lent holder taken posts) = 1

  abbrev pub words_of : Place V → List ℕ → List ℕ
  words_of place counts = place_word place ∷ counts

  abbrev pub homes_of : Place V → List (maybe.Option (Option (Handed V)))
  homes_of (home h) = some (Some h) ∷ []
  homes_of (lent holder taken posts) = none ∷ []

  -- the journal at home, or the one that the holder took
  abbrev pub current : (V → History) → Place V → History
  current steps (home h) = steps h.value
  current steps (lent holder taken posts) = taken

  -- the posts that are away from the value at home, or that were as the holder took it
  abbrev pub gone : (V → List Post) → Place V → List Post
  gone away (home h) = away h.value
  gone away (lent holder taken posts) = posts

  -- what is at home stems from the origin
  abbrev pub Stems : {O : Type 0} → (O → V → Type 0) → O → Place V → Type 0
  Stems stems origin (home h) = stems origin h.value
  Stems stems origin (lent holder taken posts) = Unit {0}

  -- a seat that holds the value is the one that took it, and has seen its journal and what was away
  abbrev pub Holds : {O : Type 0} → Place V → ℕ → View O → Type 0
  Holds (home h) seat v = v.holds ≡ false
  Holds (lent holder taken posts) seat v = v.holds ≡ true → (seat ≡ holder) × (v.seen ≡ taken) × (v.away ≡ posts)

  -- a value that is away has a holder
  abbrev pub HasHolder : {O : Type 0} → Place V → List (View O) → Type 0
  HasHolder (home h) views = Unit {0}
  HasHolder {O} (lent holder taken posts) views = (v : View O) × (get_elem? views holder ≡ some v) × (v.holds ≡ true)

-- the parts of all views
abbrev pub total : {O : Type 0} → List (View O) → ℕ
total [] = 0
total (v ∷ views) = v.parts + total views

-- the post is the job of one of the views
abbrev pub IsJob : {O : Type 0} → List (View O) → Post → Type 0
IsJob {O} views post = (seat : ℕ) × (v : View O) × (get_elem? views seat ≡ some v) × (v.job ≡ Some post)

module _ {V O : Type 0} (steps : V → History) (stems : O → V → Type 0) (away : V → List Post) where
  -- of one view: its origin, what it has seen, and its job
  pub record Fits (place : Place V) (origin : O) (seat : ℕ) (v : View O) : Type 0 where
    pub from : 0 < v.parts → v.origin ≡ Some origin
    pub spent : v.parts ≡ 0 → (v.holds ≡ false) × (v.job ≡ None)
    pub saw : BeginsWith (current steps place) v.seen
    pub heard : BeginsWith (current steps place) v.told
    pub holds : Holds place seat v
    pub undone : (post : Post) → v.job ≡ Some post → IsUndone (current steps place) v.seen post
    pub job_away : (post : Post) → v.job ≡ Some post → Contains (gone away place) post

  -- of all views: their parts add up, no two have one job, and each post that is away is the job of one of them
  pub record AreSeated (parts : ℕ) (place : Place V) (origin : O) (views : List (View O)) : Type 0 where
    pub holder : HasHolder place views
    pub sum : total views ≡ parts
    pub each : (seat : ℕ) (v : View O) → get_elem? views seat ≡ some v → Fits place origin seat v
    pub apart : (i j : ℕ) (v w : View O) (post : Post) → i ≢ j → get_elem? views i ≡ some v → get_elem? views j ≡ some w → v.job ≡ Some post → w.job ≢ Some post
    pub owned : (post : Post) → Contains (gone away place) post → IsJob views post

  pub record IsRuled (parts : ℕ) (s : State (Option (Handed V)) (View O)) : Type 0 where
    pub place : Place V
    pub origin : O
    pub counts : List ℕ
    pub words : s.words ≡ words_of place counts
    pub homes : s.homes ≡ homes_of place
    pub stemmed : Stems stems origin place
    pub seated : AreSeated parts place origin s.views

-- the first seat's view
abbrev pub opening_view : {O : Type 0} → ℕ → O → View O
opening_view parts origin = record { parts = parts; origin = Some origin; seen = []; told = []; away = []; job = None; holds = false; misses = 0 }
