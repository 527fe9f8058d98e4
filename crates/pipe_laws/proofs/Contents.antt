-- What a message holds names its own number.
use Rattle.std.proofs.Common.{◌≡◌, ℕ, ◌+◌, ◌-◌, List, [], ◌∷◌, Bool, true, false, refl, ap, sym, ◌∙◌, Some, None, Option, inl, inr}
use Rattle.std.specs.Prelude.{if◌then◌else◌, ◌==◌, nat_lt, slice_get, ◌⊎◌}
use Rattle.std.proofs.lemmas.Bool.{eqb-true}
use Rattle.pipe_types.specs.declared.numbers.StageNo.{StageNo}
use Rattle.pipe_types.specs.declared.message.Message.{Message}
use Rattle.pipe_types.specs.declared.message.Reply.{Reply}
use Rattle.pipe_types.specs.declared.message.Reply.TheVariants.{Pass, Failed as FailedReply, Raised, Crashed}
use Rattle.pipe_types.specs.declared.step.LateAnswer.TheVariants.{Records}
use Rattle.pipe_types.specs.declared.step.Step.{Step}
use Rattle.pipe_types.specs.declared.step.Step.TheVariants.{Accept, Done, Late}
use Rattle.pipe_model.specs.History.{History, accepted}
use Rattle.pipe_model.specs.Content.{content, newer, changed_by, fresh, record_as, passed_as, has_crash, new_message}

pub newer_cases : (x y : Option Message) (m : Message) → newer x y ≡ Some m → (x ≡ Some m) ⊎ (y ≡ Some m)
newer_cases (Some k) y m e = inl e
newer_cases None y m e = inr e

record_no : (s : StageNo) (n : ℕ) (r : Option (List ℕ)) (m : Message) → record_as s n r ≡ Some m → m.no.0 ≡ n
record_no s n None m e = cc
record_no s n (Some bytes) m e = let same : new_message s n bytes ≡ m = cc in ap (λ (k : Message). k.no.0) (sym same)

fresh_no : (s : StageNo) (c : ℕ) (records : List (List ℕ)) (n : ℕ) (m : Message) → fresh s c records n ≡ Some m → m.no.0 ≡ n
fresh_no s c records n m e = by_test (nat_lt c n) (slice_get records (n - (c + 1))) e
  where
    by_test : (t : Bool) (r : Option (List ℕ)) → (if t then record_as s n r else None) ≡ Some m → m.no.0 ≡ n
    by_test true r e = record_no s n r m e
    by_test false r e = cc

passed_no : (replies : List Reply) (n : ℕ) (m : Message) → passed_as replies n ≡ Some m → m.no.0 ≡ n
passed_no [] n m e = cc
passed_no (Pass k ∷ replies) n m e = by_test (k.no.0 == n) refl e (passed_no replies n m)
  where
    by_test : (t : Bool) → (k.no.0 == n) ≡ t → (if t then Some k else passed_as replies n) ≡ Some m → (passed_as replies n ≡ Some m → m.no.0 ≡ n) → m.no.0 ≡ n
    by_test true same e rest = let here : k ≡ m = cc in ap (λ (j : Message). j.no.0) (sym here) ∙ eqb-true k.no.0 n same
    by_test false other e rest = rest e
passed_no (FailedReply why ∷ replies) n m e = passed_no replies n m e
passed_no (Raised why ∷ replies) n m e = passed_no replies n m e
passed_no (Crashed ∷ replies) n m e = passed_no replies n m e

changed_no : (c : ℕ) (step : Step) (n : ℕ) (m : Message) → changed_by c step n ≡ Some m → m.no.0 ≡ n
changed_no c (Accept s records) n m e = fresh_no s c records n m e
changed_no c (Late s slot i (Records records)) n m e = fresh_no s c records n m e
changed_no c (Done s replies) n m e = by_test (has_crash replies) e
  where
    by_test : (t : Bool) → (if t then None else passed_as replies n) ≡ Some m → m.no.0 ≡ n
    by_test true e = cc
    by_test false e = passed_no replies n m e
changed_no c _ n m e = cc

pub content_no : (before : History) (n : ℕ) (m : Message) → content before n ≡ Some m → m.no.0 ≡ n
content_no [] n m e = cc
content_no (step ∷ before) n m e =
    either (newer_cases (changed_by (accepted before) step n) (content before n) m e) (content_no before n m)
  where
    either : (changed_by (accepted before) step n ≡ Some m) ⊎ (content before n ≡ Some m) → (content before n ≡ Some m → m.no.0 ≡ n) → m.no.0 ≡ n
    either (inl new) old = changed_no (accepted before) step n m new
    either (inr same) old = old same
