-- What a callback told, message by message.
use Rattle.std.proofs.Common.{◌≡◌, List, [], ◌∷◌, ◌++◌, refl, sym, ap, ◌∙◌, append_assoc, append-nil, Option, Some, None}
use Rattle.pipe_types.specs.declared.message.Reply.{Reply}
use Rattle.stage_callback.specs.declared.answers.Said.{Said}
use Rattle.stage_callback.specs.declared.answers.Said.TheVariants.{Message}
use Rattle.stage_job.specs.Told.{before, one_more}

-- the answers so far make the replies so far, whatever is answered later
pub record ToldSoFar (made_of : List Said → Option (List Reply)) (first now : List Said) (replies : List Reply) : Type 0 where
  pub answers : List Said
  pub grown : now ≡ first ++ answers
  pub made : (later : List Said) → made_of (answers ++ later) ≡ before replies (made_of later)

-- these in front of those in front of what is later
pub before_both : {A : Type 0} (xs ys : List A) (later : Option (List A)) → before xs (before ys later) ≡ before (xs ++ ys) later
before_both [] ys later = refl
before_both (x ∷ xs) ys later = ap (one_more x) (before_both xs ys later)

-- with nothing later it is all
pub before_none : {A : Type 0} (xs : List A) → before xs (Some []) ≡ Some xs
before_none [] = refl
before_none (x ∷ xs) = ap (one_more x) (before_none xs)

-- the answers that make one reply more
pub told_more : (made_of : List Said → Option (List Reply)) (first now then : List Said) (replies : List Reply) (reply : Reply)
    → (more : List Said) × (then ≡ now ++ more) × ((later : List Said) → made_of (more ++ later) ≡ one_more reply (made_of later))
    → ToldSoFar made_of first now replies → ToldSoFar made_of first then (replies ++ reply ∷ [])
told_more made_of first now then replies reply (more, grows, makes) so_far = record {
  answers = so_far.answers ++ more;
  grown = grows ∙ (ap (λ told. told ++ more) so_far.grown ∙ append_assoc first so_far.answers more);
  made = λ later.
      ap made_of (append_assoc so_far.answers more later) ∙ (so_far.made (more ++ later)
      ∙ (ap (before replies) (makes later) ∙ before_both replies (reply ∷ []) (made_of later)));
}

-- all answers make all replies
pub all_told : (made_of : List Said → Option (List Reply)) (first now : List Said) (replies : List Reply) → made_of [] ≡ Some [] → ToldSoFar made_of first now replies
    → (answers : List Said) × (now ≡ first ++ answers) × (made_of answers ≡ Some replies)
all_told made_of first now replies none so_far =
    (so_far.answers, so_far.grown, ap made_of (sym (append-nil so_far.answers)) ∙ (so_far.made [] ∙ (ap (before replies) none ∙ before_none replies)))

-- answers after a first one
pub told_after : (first middle now : List Said) (answer : Said) (answers : List Said) → middle ≡ first ++ answer ∷ [] → now ≡ middle ++ answers → now ≡ first ++ (answer ∷ answers)
told_after first middle now answer answers one more = more ∙ (ap (λ told. told ++ answers) one ∙ append_assoc first (answer ∷ []) answers)

-- what a message was answered
pub told_as : (first now : List Said) (answer reply : Reply) → answer ≡ reply → now ≡ first ++ Message answer ∷ [] → now ≡ first ++ Message reply ∷ []
told_as first now answer reply is one = one ∙ ap (λ r. first ++ Message r ∷ []) is
