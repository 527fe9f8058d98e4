-- The acknowledgements of the last step, from the verdicts on what it settled.
use Rattle.std.proofs.Common.{◌≡◌, ℕ, List, [], ◌∷◌, map, Bool, true, false, refl, ap, sym, ◌∙◌, Some, None, Option, cond}
use Rattle.std.specs.Prelude.{◌&&◌, not, filter, option_map}
use Rattle.std.specs.List.{cons_option}
use Rattle.pipe_types.specs.declared.numbers.StageNo.{StageNo}
use Rattle.pipe_types.specs.declared.topology.Topology.{Topology}
use Rattle.pipe_types.specs.declared.message.Outcome.TheVariants.{Successful, Failed}
use Rattle.pipe_types.specs.declared.message.Place.{Place}
use Rattle.pipe_types.specs.declared.message.Place.TheVariants.{Waiting, Inbox, Running, Gathered, InBatch, Acked, Lost}
use Rattle.pipe_types.specs.Numbers.{same_stage}
use Rattle.pipe_types.specs.Handlers.{is_successful}
use Rattle.pipe_model.specs.History.{History}
use Rattle.pipe_model.specs.Content.{producer_of}
use Rattle.pipe_model.specs.Flow.{place}
use Rattle.pipe_model.specs.Acknowledgements.{is_acked_successful, is_acked_failed, is_producer}
use Rattle.message_ack.specs.declared.verdicts.Verdict.{Verdict}
use Rattle.message_ack.specs.Groups.{successful_of, failed_of}
use Rattle.settle_laws.specs.Settled.{of_producer, outcome_row, verdict_in, verdicts_of}

and_false : (b : Bool) → (b && false) ≡ false
and_false true = refl
and_false false = refl

-- the numbers of the producer's verdicts that pass
abbrev passing : (Verdict → Bool) → StageNo → List Verdict → List ℕ
passing test p verdicts = map (λ (verdict : Verdict). verdict.no.0) (filter (λ verdict. same_stage verdict.producer p && test verdict) verdicts)

-- one message more, whose row is so
abbrev OneMore : (test : Verdict → Bool) (side : Option Place → Bool) → Type 0
OneMore test side = (n : ℕ) (p : StageNo) (q : Option StageNo) (o : Option Place) (numbers : List ℕ) (verdicts : List Verdict) → passing test p verdicts ≡ numbers
    → passing test p (cons_option (option_map verdict_in (outcome_row n q o)) verdicts) ≡ cond (is_producer q p && side o) (n ∷ numbers) numbers

skipped : (b : Bool) (n : ℕ) (numbers : List ℕ) → numbers ≡ cond (b && false) (n ∷ numbers) numbers
skipped b n numbers = ap (λ t. cond t (n ∷ numbers) numbers) (sym (and_false b))

successful_more : OneMore (λ verdict. is_successful verdict.outcome) is_acked_successful
successful_more n p None o numbers verdicts e = e
successful_more n p (Some q) None numbers verdicts e = e ∙ skipped (same_stage q p) n numbers
successful_more n p (Some q) (Some (Waiting t)) numbers verdicts e = e ∙ skipped (same_stage q p) n numbers
successful_more n p (Some q) (Some (Inbox u)) numbers verdicts e = e ∙ skipped (same_stage q p) n numbers
successful_more n p (Some q) (Some (Running t)) numbers verdicts e = e ∙ skipped (same_stage q p) n numbers
successful_more n p (Some q) (Some (Gathered t)) numbers verdicts e = e ∙ skipped (same_stage q p) n numbers
successful_more n p (Some q) (Some (InBatch b)) numbers verdicts e = e ∙ skipped (same_stage q p) n numbers
successful_more n p (Some q) (Some (Lost l)) numbers verdicts e = e ∙ skipped (same_stage q p) n numbers
successful_more n p (Some q) (Some (Acked Successful)) numbers verdicts e = by (same_stage q p && true)
  where
    by : (b : Bool) → map (λ (v : Verdict). v.no.0) (cond b (record { no = record { 0 = n }; producer = q; outcome = Successful } ∷ filter (λ v. same_stage v.producer p && is_successful v.outcome) verdicts) (filter (λ v. same_stage v.producer p && is_successful v.outcome) verdicts)) ≡ cond b (n ∷ numbers) numbers
    by true = ap (λ ns. n ∷ ns) e
    by false = e
successful_more n p (Some q) (Some (Acked (Failed why))) numbers verdicts e =
    ap (λ t. map (λ (v : Verdict). v.no.0) (cond t (record { no = record { 0 = n }; producer = q; outcome = Failed why } ∷ filter (λ v. same_stage v.producer p && is_successful v.outcome) verdicts) (filter (λ v. same_stage v.producer p && is_successful v.outcome) verdicts))) (and_false (same_stage q p))
    ∙ (e ∙ skipped (same_stage q p) n numbers)

failed_more : OneMore (λ verdict. not (is_successful verdict.outcome)) is_acked_failed
failed_more n p None o numbers verdicts e = e
failed_more n p (Some q) None numbers verdicts e = e ∙ skipped (same_stage q p) n numbers
failed_more n p (Some q) (Some (Waiting t)) numbers verdicts e = e ∙ skipped (same_stage q p) n numbers
failed_more n p (Some q) (Some (Inbox u)) numbers verdicts e = e ∙ skipped (same_stage q p) n numbers
failed_more n p (Some q) (Some (Running t)) numbers verdicts e = e ∙ skipped (same_stage q p) n numbers
failed_more n p (Some q) (Some (Gathered t)) numbers verdicts e = e ∙ skipped (same_stage q p) n numbers
failed_more n p (Some q) (Some (InBatch b)) numbers verdicts e = e ∙ skipped (same_stage q p) n numbers
failed_more n p (Some q) (Some (Lost l)) numbers verdicts e = e ∙ skipped (same_stage q p) n numbers
failed_more n p (Some q) (Some (Acked (Failed why))) numbers verdicts e = by (same_stage q p && true)
  where
    by : (b : Bool) → map (λ (v : Verdict). v.no.0) (cond b (record { no = record { 0 = n }; producer = q; outcome = Failed why } ∷ filter (λ v. same_stage v.producer p && not (is_successful v.outcome)) verdicts) (filter (λ v. same_stage v.producer p && not (is_successful v.outcome)) verdicts)) ≡ cond b (n ∷ numbers) numbers
    by true = ap (λ ns. n ∷ ns) e
    by false = e
failed_more n p (Some q) (Some (Acked Successful)) numbers verdicts e =
    ap (λ t. map (λ (v : Verdict). v.no.0) (cond t (record { no = record { 0 = n }; producer = q; outcome = Successful } ∷ filter (λ v. same_stage v.producer p && not (is_successful v.outcome)) verdicts) (filter (λ v. same_stage v.producer p && not (is_successful v.outcome)) verdicts))) (and_false (same_stage q p))
    ∙ (e ∙ skipped (same_stage q p) n numbers)

-- the numbers of the producer's verdicts are those of its messages that stand so
pub successful_numbers : (topology : Topology) (before : History) (p : StageNo) (numbers : List ℕ) → successful_of (verdicts_of topology before numbers) p ≡ of_producer topology before numbers p is_acked_successful
successful_numbers topology before p [] = refl
successful_numbers topology before p (n ∷ numbers) =
    successful_more n p (producer_of before n) (place topology before n) (of_producer topology before numbers p is_acked_successful) (verdicts_of topology before numbers)
    (successful_numbers topology before p numbers)

pub failed_numbers : (topology : Topology) (before : History) (p : StageNo) (numbers : List ℕ) → failed_of (verdicts_of topology before numbers) p ≡ of_producer topology before numbers p is_acked_failed
failed_numbers topology before p [] = refl
failed_numbers topology before p (n ∷ numbers) =
    failed_more n p (producer_of before n) (place topology before n) (of_producer topology before numbers p is_acked_failed) (verdicts_of topology before numbers)
    (failed_numbers topology before p numbers)
