-- How a run goes on over one step, and over several.
use Rattle.std.proofs.Common.{◌≡◌, ℕ, ◌*◌, ◌<◌, [], ◌∷◌, true, false, refl, ap, sym, ◌∙◌, inl, inr, arith, subst}
use Rattle.std.specs.Prelude.{◌⊎◌, ◌≢◌, ◌++◌, Option, IsSome, is_some, Result, OnOk, OnErr}
use Rattle.std.proofs.lemmas.List.Elements.{All-nil, All-cons, All-append}
use Rattle.std.proofs.lemmas.List.{append_assoc}
use Rattle.pipe_types.specs.Sound.{IsSound}
use Rattle.pipe_types.specs.declared.numbers.StageNo.{StageNo}
use Rattle.pipe_types.specs.declared.numbers.Post.{Post}
use Rattle.pipe_types.specs.declared.topology.Topology.{Topology}
use Rattle.pipe_types.specs.declared.step.Step.{Step}
use Rattle.pipe_types.specs.declared.step.Step.TheVariants.{Restart}
use Rattle.pipe_model.specs.History.{History}
use Rattle.pipe_model.specs.Posts.{puts_out, answers}
use Rattle.pipe_model.specs.Legal.{is_legal}
use Rattle.pipe_model.specs.Moves.{StepMove, move}
use Rattle.work_laws.specs.Left.{work_left}
use Rattle.work_laws.proofs.Leaving.{work_lowers}
use Rattle.stage_bodies.specs.Seen.{BodySeen}
use Rattle.body_laws.specs.Lates.{AreReset}
use Rattle.body_laws.specs.Ready.{Ready}
use Rattle.body_laws.proofs.Laws.{silent_keeps, silent_ready}
use Rattle.body_laws.proofs.Restarting.{restart_keeps, restart_ready}
use Rattle.control_lines.proofs.Kept.{jobless_keeps}
use Rattle.stage_moves.specs.Going.{GoesOn, Within, HasCallback, Advances, AddsSilently}
use Rattle.stage_moves.specs.Resets.{AreResetFrom}
use Rattle.stage_moves.proofs.Results.{by_result}
use Rattle.stage_moves.proofs.Moves.{named_move}
use Rattle.stage_moves.proofs.Own.{named_work, named_next, named_out, named_time, named_silent, named_other, named_posts}
use Rattle.stage_moves.proofs.Controls.{other_step, other_count}
use Rattle.stage_moves.proofs.Resetting.{are_reset, reset_same, reset_there, reset_stays}

abbrev Silent : Step → Type 0
Silent step = (p : Post) → (puts_out step p ≡ false) × (answers step p ≡ false)

pub silent_same : (before : History) → AddsSilently before before
silent_same before = record { later = []; is = refl; silent = All-nil Silent }

pub silent_then : (a b c : History) → AddsSilently a b → AddsSilently b c → AddsSilently a c
silent_then a b c p q = record {
  later = q.later ++ p.later;
  is = q.is ∙ ap (λ h. q.later ++ h) p.is ∙ sym (append_assoc q.later p.later a);
  silent = All-append Silent q.later p.later q.silent p.silent;
}

pub silent_one : (before : History) (step : Step) → ((p : Post) → (puts_out step p ≡ false) × (answers step p ≡ false)) → AddsSilently before (step ∷ before)
silent_one before step h = record { later = step ∷ []; is = refl; silent = All-cons Silent step [] h (All-nil Silent) }

pub goes_same : (topology : Topology) (before : History) (home : ℕ → Option BodySeen) → GoesOn topology before home before home
goes_same topology before home = record { follows = λ f. f; keeps = λ opened k. k; bodies = λ at here. here; callbacks = λ at here. here }

pub goes_then : (topology : Topology) (a b c : History) (x y z : ℕ → Option BodySeen) → GoesOn topology a x b y → GoesOn topology b y c z → GoesOn topology a x c z
goes_then topology a b c x y z p q =
    record { follows = λ f. q.follows (p.follows f); keeps = λ opened k. q.keeps opened (p.keeps opened k); bodies = λ at here. q.bodies at (p.bodies at here); callbacks = λ at here. q.callbacks at (p.callbacks at here) }

pub within_same : (topology : Topology) (before : History) → Within topology 0 before before
within_same topology before = record { same_time = refl; same_still = refl; begun = omega arith; control = λ opened lines k. k; same_controls = refl }

pub within_none : (topology : Topology) (before : History) → Within topology 1 before before
within_none topology before = record { same_time = refl; same_still = refl; begun = omega arith; control = λ opened lines k. jobless_keeps topology before opened lines k; same_controls = refl }

within_then : (topology : Topology) (a b c : History) → Within topology 0 a b → Within topology 0 b c → Within topology 0 a c
within_then topology a b c p q = record {
  same_time = q.same_time ∙ p.same_time;
  same_still = q.same_still ∙ p.same_still;
  begun = let x = p.begun in let y = q.begun in omega (arith, x, y);
  control = λ opened lines k. q.control opened lines (p.control opened lines k);
  same_controls = q.same_controls ∙ p.same_controls;
}

pub less_or_same : (topology : Topology) (a b c : History) → (b ≡ a) ⊎ (work_left topology b < work_left topology a) → (c ≡ b) ⊎ (work_left topology c < work_left topology b)
    → (c ≡ a) ⊎ (work_left topology c < work_left topology a)
less_or_same topology a b c (inl e) (inl f) = inl (f ∙ e)
less_or_same topology a b c (inl e) (inr g) = inr (subst (λ h. work_left topology c < work_left topology h) e g)
less_or_same topology a b c (inr g) (inl f) = inr (subst (λ h. work_left topology h < work_left topology a) (sym f) g)
less_or_same topology a b c (inr g) (inr h) = inr (omega (arith, g, h))

pub advances_same : (topology : Topology) (before : History) (home : ℕ → Option BodySeen) → Ready topology before home → Advances topology before home before home
advances_same topology before home ready = record { goes = goes_same topology before home; ready = ready; same_places = λ at. refl; same_out = refl; silent = silent_same before; within = within_same topology before; progress = inl refl }

pub advances_then : (topology : Topology) (a b c : History) (x y z : ℕ → Option BodySeen) → Advances topology a x b y → Advances topology b y c z → Advances topology a x c z
advances_then topology a b c x y z p q =
    record { goes = goes_then topology a b c x y z p.goes q.goes; ready = q.ready; same_places = λ at. q.same_places at ∙ p.same_places at; same_out = q.same_out ∙ p.same_out; silent = silent_then a b c p.silent q.silent; within = within_then topology a b c p.within q.within; progress = less_or_same topology a b c p.progress q.progress }

-- ---- one step

within_step : (topology : Topology) (before : History) (step : Step) → move topology before ≡ StepMove step → Within topology 0 before (step ∷ before)
within_step topology before step next =
    let named = named_move topology before step next in
    let other = named_other step named in
    let same = named_time before step named in
    record {
      same_time = same.0;
      same_still = same.2;
      begun = let e = same.1 in omega (arith, e);
      control = λ opened lines k. other_step topology before step 1 opened lines other k;
      same_controls = other_count before step other;
    }

pub step_lowers : (topology : Topology) (before : History) (step : Step) → IsSound topology → is_legal topology (step ∷ before) ≡ true → move topology before ≡ StepMove step → work_left topology (step ∷ before) < work_left topology before
step_lowers topology before step sound legal next = work_lowers topology before step sound legal (named_work step (named_move topology before step next))

advances_step : (topology : Topology) (before : History) (step : Step) (home : ℕ → Option BodySeen) → IsSound topology → Ready topology before home → is_legal topology (step ∷ before) ≡ true → move topology before ≡ StepMove step
    → ((s : StageNo) → step ≢ Restart s) → Advances topology before home (step ∷ before) home
advances_step topology before step home sound ready legal next never =
    let named = named_move topology before step next in
    let silent = named_silent step named never in
    record {
      goes = record {
        follows = λ f. (f, named_next topology before step named next);
        keeps = λ opened k. silent_keeps topology before step opened home sound legal silent k;
        bodies = λ at here. here;
        callbacks = λ at here. here;
      };
      ready = silent_ready topology before step home sound legal silent ready;
      same_places = λ at. refl;
      same_out = named_out topology before step named;
      silent = silent_one before step (λ p. named_posts step p named);
      within = within_step topology before step next;
      progress = inr (step_lowers topology before step sound legal next);
    }

advances_restart : (topology : Topology) (before : History) (s : StageNo) (home back : ℕ → Option BodySeen) → IsSound topology → Ready topology before home → is_legal topology (Restart s ∷ before) ≡ true
    → move topology before ≡ StepMove (Restart s) → AreReset topology s home back → ((at : ℕ) → is_some (back at) ≡ is_some (home at)) → ((at : ℕ) → IsSome (home at) → IsSome (back at)) → ((at : ℕ) → HasCallback (home at) → HasCallback (back at)) → Advances topology before home (Restart s ∷ before) back
advances_restart topology before s home back sound ready legal next all places bodies callbacks = record {
  goes = record {
    follows = λ f. (f, next);
    keeps = λ opened k. restart_keeps topology before s opened home back sound legal all k;
    bodies = bodies;
    callbacks = callbacks;
  };
  ready = restart_ready topology before s home back sound legal all ready;
  same_places = places;
  same_out = named_out topology before (Restart s) refl;
  silent = silent_one before (Restart s) (λ p. (refl, refl));
  within = within_step topology before (Restart s) next;
  progress = inr (step_lowers topology before (Restart s) sound legal next);
}

-- ---- a step that was made, or for which memory was wanting

legal_after : (topology other : Topology) (before after : History) (step : Step) → other ≡ topology → is_legal other after ≡ true → after ≡ step ∷ before → is_legal topology (step ∷ before) ≡ true
legal_after topology other before after step same legal e = subst (λ x. is_legal topology x ≡ true) e (subst (λ o. is_legal o after ≡ true) same legal)

pub unmoved : (topology : Topology) (before after : History) (home : ℕ → Option BodySeen) → Ready topology before home → after ≡ before → Advances topology before home after home
unmoved topology before after home ready e = subst (λ x. Advances topology before home x home) (sym e) (advances_same topology before home ready)

pub made : {T E : Type 0} (topology other : Topology) (before after : History) (step : Step) (home : ℕ → Option BodySeen) (r : Result T E) → IsSound topology → Ready topology before home → other ≡ topology → is_legal other after ≡ true
    → move topology before ≡ StepMove step → ((s : StageNo) → step ≢ Restart s) → OnOk r (after ≡ step ∷ before) → OnErr r (after ≡ before) → Advances topology before home after home
made topology other before after step home r sound ready same legal next never ok err =
    by_result (Advances topology before home after home) (after ≡ step ∷ before) (after ≡ before) r ok err
    (λ e. subst (λ x. Advances topology before home x home) (sym e) (advances_step topology before step home sound ready (legal_after topology other before after step same legal e) next never))
    (λ e. unmoved topology before after home ready e)

pub restarted : (topology other : Topology) (before after : History) (s : StageNo) (home back : ℕ → Option BodySeen) → IsSound topology → Ready topology before home → other ≡ topology → is_legal other after ≡ true
    → move topology before ≡ StepMove (Restart s) → after ≡ Restart s ∷ before → AreResetFrom (s.0 * 16) 16 home back → Advances topology before home after back
restarted topology other before after s home back sound ready same legal next e all =
    subst (λ x. Advances topology before home x back) (sym e)
    (advances_restart topology before s home back sound ready (legal_after topology other before after (Restart s) same legal e) next (are_reset topology s home back sound all) (reset_same (s.0 * 16) 16 home back all) (reset_there (s.0 * 16) 16 home back all) (reset_stays (s.0 * 16) 16 home back all))

pub made_less : (topology other : Topology) (before after : History) (step : Step) → IsSound topology → other ≡ topology → is_legal other after ≡ true → move topology before ≡ StepMove step → after ≡ step ∷ before → work_left topology after < work_left topology before
made_less topology other before after step sound same legal next e =
    subst (λ x. work_left topology x < work_left topology before) (sym e) (step_lowers topology before step sound (legal_after topology other before after step same legal e) next)
