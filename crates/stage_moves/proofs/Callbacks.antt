-- No callback is gone.
use Rattle.std.proofs.Common.{◌≡◌, ℕ, Bool, true, false, refl, ap, sym, ◌∙◌, subst, Some, None, Option}
use Rattle.std.specs.Prelude.{◌==◌, if◌then◌else◌, IsSome}
use Rattle.std.proofs.lemmas.Bool.{eqb-true}
use Rattle.stage_bodies.specs.Seen.{BodySeen, BoxSeen}
use Rattle.stage_bodies.specs.Jobs.{Both, IsDone, IsCutOff}
use Rattle.stage_bodies.specs.declared.job.Work.{Work}
use Rattle.stage_bodies.specs.declared.job.Work.TheVariants.{Fetch, Chunk, Batch, Child}
use Rattle.stage_bodies.specs.declared.job.Outcome.{Outcome}
use Rattle.stage_bodies.specs.declared.job.Outcome.TheVariants.{Records, NotYet, Ended, Replies, Wrote, Reply}
use Rattle.stage_moves.specs.Going.{HasCallback}

both_some : (R : BoxSeen → BoxSeen → Type 0) (old new : Option BoxSeen) → Both R old new → IsSome old → IsSome new
both_some R (Some a) (Some b) h here = refl
both_some R None None h here = here
both_some R (Some a) None h here = absurd h
both_some R None (Some b) h here = absurd h

same_some : (old new : Option BoxSeen) → new ≡ old → IsSome old → IsSome new
same_some old new e here = subst (λ (x : Option BoxSeen). IsSome x) (sym e) here

-- a job leaves the callback in its body
pub done_stays : (work : Work) (outcome : Outcome) (old new : BodySeen) → IsDone work outcome old new → IsSome old.callback → IsSome new.callback
done_stays (Fetch most) outcome old new h here = same_some old.callback new.callback h.2 here
done_stays (Chunk messages) (Replies replies) old new h here = both_some _ old.callback new.callback h.0 here
done_stays (Batch batch) (Wrote bytes end) old new h here = both_some _ old.callback new.callback h.0 here
done_stays (Child message) (Reply reply) old new h here = both_some _ old.callback new.callback h.0 here
done_stays (Chunk messages) (Records x) old new h here = absurd h
done_stays (Chunk messages) NotYet old new h here = absurd h
done_stays (Chunk messages) (Ended x) old new h here = absurd h
done_stays (Chunk messages) (Wrote x y) old new h here = absurd h
done_stays (Chunk messages) (Reply x) old new h here = absurd h
done_stays (Batch batch) (Records x) old new h here = absurd h
done_stays (Batch batch) NotYet old new h here = absurd h
done_stays (Batch batch) (Ended x) old new h here = absurd h
done_stays (Batch batch) (Replies x) old new h here = absurd h
done_stays (Batch batch) (Reply x) old new h here = absurd h
done_stays (Child message) (Records x) old new h here = absurd h
done_stays (Child message) NotYet old new h here = absurd h
done_stays (Child message) (Ended x) old new h here = absurd h
done_stays (Child message) (Replies x) old new h here = absurd h
done_stays (Child message) (Wrote x y) old new h here = absurd h

pub cut_stays : (old new : BodySeen) → IsCutOff old new → IsSome old.callback → IsSome new.callback
cut_stays old new h here = both_some _ old.callback new.callback h.callback here

pub pick_first : (b : Bool) (x y : Option BodySeen) → b ≡ true → (if b then x else y) ≡ x
pick_first true x y e = refl
pick_first false x y e = cc

pub pick_second : (b : Bool) (x y : Option BodySeen) → b ≡ false → (if b then x else y) ≡ y
pick_second true x y e = cc
pick_second false x y e = refl

-- a body left its place, and came back to it with its callback
pub back_stays : (home away back : ℕ → Option BodySeen) (place at : ℕ) (old new : BodySeen) → home place ≡ Some old → ((s : ℕ) → away s ≡ (if place == s then None else home s))
    → at ≡ place → ((t : ℕ) → back t ≡ (if at == t then Some new else away t)) → (IsSome old.callback → IsSome new.callback) → (t : ℕ) → HasCallback (home t) → HasCallback (back t)
back_stays home away back place at old new here gone same come stays t has = by (place == t) refl
  where
    come_here : back t ≡ (if place == t then Some new else away t)
    come_here = come t ∙ ap (λ a. if a == t then Some new else away t) same

    by : (b : Bool) → (place == t) ≡ b → HasCallback (back t)
    by true e =
        subst HasCallback (sym (come_here ∙ pick_first (place == t) (Some new) (away t) e))
        (stays (subst HasCallback (ap home (sym (eqb-true place t e)) ∙ here) has))
    by false e =
        subst HasCallback (sym (come_here ∙ (pick_second (place == t) (Some new) (away t) e ∙ (gone t ∙ pick_second (place == t) None (home t) e)))) has

-- and no body is gone
pub back_there : (home away back : ℕ → Option BodySeen) (place at : ℕ) (new : BodySeen) → ((s : ℕ) → away s ≡ (if place == s then None else home s))
    → at ≡ place → ((t : ℕ) → back t ≡ (if at == t then Some new else away t)) → (t : ℕ) → IsSome (home t) → IsSome (back t)
back_there home away back place at new gone same come t some = by (place == t) refl
  where
    come_here : back t ≡ (if place == t then Some new else away t)
    come_here = come t ∙ ap (λ a. if a == t then Some new else away t) same

    by : (b : Bool) → (place == t) ≡ b → IsSome (back t)
    by true e = subst (λ (x : Option BodySeen). IsSome x) (sym (come_here ∙ pick_first (place == t) (Some new) (away t) e)) refl
    by false e =
        subst (λ (x : Option BodySeen). IsSome x)
        (sym (come_here ∙ (pick_second (place == t) (Some new) (away t) e ∙ (gone t ∙ pick_second (place == t) None (home t) e)))) some
