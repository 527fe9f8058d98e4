-- Journals that begin with others, and posts that stay out.
use Rattle.std.proofs.Common.{◌≡◌, ◌<◌, ◌≤◌, suc, Bool, true, false, not, nat_lt, ◌&&◌, ◌||◌, if◌then◌else◌, List, [], ◌∷◌, ◌++◌, length, All, refl, sym, ap, ◌∙◌, subst, arith, append_assoc, length-append}
use Rattle.std.proofs.lemmas.List.Elements.{All-append, All-head, All-tail, All-nil}
use Rattle.std.proofs.lemmas.List.{append-nil}
use Rattle.std.proofs.lemmas.Bool.{ltb-true, ltb-false}
use Rattle.pipe_types.specs.declared.numbers.Post.{Post}
use Rattle.pipe_types.specs.declared.step.Step.{Step}
use Rattle.pipe_model.specs.History.{History}
use Rattle.pipe_model.specs.Begins.{BeginsWith}
use Rattle.pipe_model.specs.Posts.{answers, puts_out, is_out}
use Rattle.pipeline_turn.specs.Jobs.{IsUnanswered, longer}

pub begins_itself : (whole : History) → BeginsWith whole whole
begins_itself whole = record { later = []; is = refl }

pub begins_empty : (whole : History) → BeginsWith whole []
begins_empty whole = record { later = whole; is = sym (append-nil whole) }

pub begins_through : (whole middle seen : History) → BeginsWith whole middle → BeginsWith middle seen → BeginsWith whole seen
begins_through whole middle seen a b = record { later = a.later ++ b.later; is = a.is ∙ (ap (λ x. a.later ++ x) b.is ∙ sym (append_assoc a.later b.later seen)) }

-- of two ends of one list the longer ends with the shorter
ends_shorter : (front other : List Step) (long short : History) → front ++ long ≡ other ++ short → length short ≤ length long → BeginsWith long short
ends_shorter [] other long short e fits = record { later = other; is = e }
ends_shorter (x ∷ front) [] long short e fits = absurd (let n : suc (length (front ++ long)) ≡ length short = ap length e in omega (arith, length-append front long))
ends_shorter (x ∷ front) (y ∷ other) long short e fits = ends_shorter front other long short (let t : front ++ long ≡ other ++ short = cc in t) fits

longer_at : (whole a b : History) (less : Bool) → nat_lt (length a) (length b) ≡ less → BeginsWith whole a → BeginsWith whole b
    → BeginsWith (if less then b else a) a × BeginsWith (if less then b else a) b
longer_at whole a b true is p q = (ends_shorter q.later p.later b a (sym q.is ∙ p.is) (let l : length a < length b = ltb-true (length a) (length b) is in omega arith), begins_itself b)
longer_at whole a b false is p q = (begins_itself a, ends_shorter p.later q.later a b (sym p.is ∙ q.is) (ltb-false (length a) (length b) is))

-- the longer of two journals that begin one journal begins with both
pub longer_begins : (whole a b : History) → BeginsWith whole a → BeginsWith whole b → BeginsWith (longer a b) a × BeginsWith (longer a b) b
longer_begins whole a b p q = longer_at whole a b (nat_lt (length a) (length b)) refl p q

pub begins_longer : (whole a b : History) → BeginsWith whole a → BeginsWith whole b → BeginsWith whole (longer a b)
begins_longer whole a b p q = elim (nat_lt (length a) (length b)) as (λ (z : Bool). BeginsWith whole (if z then b else a)) [ true ↦ q | false ↦ p ]

or_true : (b : Bool) → (b || true) ≡ true
or_true true = refl
or_true false = refl

-- steps that do not answer a post leave it out
stays_out : (later seen : History) (post : Post) → All (λ step. answers step post ≡ false) later → is_out seen post ≡ true → is_out (later ++ seen) post ≡ true
stays_out [] seen post quiet out = out
stays_out (x ∷ later) seen post quiet out =
    let P : Step → Type 0 = λ step. answers step post ≡ false in
    let before : is_out (later ++ seen) post ≡ true = stays_out later seen post (All-tail P x later quiet) out in
    ap (λ (z : Bool). puts_out x post || (not z && is_out (later ++ seen) post)) (All-head P x later quiet) ∙ (ap (λ (z : Bool). puts_out x post || z) before ∙ or_true (puts_out x post))

pub still_out : (whole seen : History) (post : Post) → is_out seen post ≡ true → IsUnanswered whole seen post → is_out whole post ≡ true
still_out whole seen post out quiet = subst (λ (z : History). is_out z post ≡ true) (sym quiet.is) (stays_out quiet.later seen post quiet.silent out)

pub unanswered_itself : (whole : History) (post : Post) → IsUnanswered whole whole post
unanswered_itself whole post = record { later = []; is = refl; silent = All-nil (λ step. answers step post ≡ false) }

pub unanswered_through : (whole middle seen : History) (post : Post) → IsUnanswered whole middle post → IsUnanswered middle seen post → IsUnanswered whole seen post
unanswered_through whole middle seen post a b = record {
  later = a.later ++ b.later;
  is = a.is ∙ (ap (λ x. a.later ++ x) b.is ∙ sym (append_assoc a.later b.later seen));
  silent = All-append (λ step. answers step post ≡ false) a.later b.later a.silent b.silent;
}
