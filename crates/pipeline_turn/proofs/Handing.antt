-- A take and a give keep the rule.
use Rattle.std.proofs.Common.{◌≡◌, ◌≢◌, ℕ, suc, ◌<◌, List, [], ◌∷◌, set, slice_index, refl, sym, ap, ◌∙◌, subst, arith, inl, inr, ⊎_elim, Option, Some, None, IfSome, Bool, true, false, Contains}
use Rattle.std.proofs.lemmas.Bool.{false≢true}
use mathlib.Core.Option.{some}
use lib.ListN.{get_elem?}
use Rattle.atomic_table.specs.Table.{keeps, takes, gives, Allows}
use Rattle.atomic_table.proofs.Lists.{set_else, set_again}
use Rattle.pipe_types.specs.declared.numbers.Post.{Post}
use Rattle.pipe_model.specs.History.{History}
use Rattle.pipe_model.specs.Begins.{BeginsWith}
use Rattle.pipe_model.specs.Posts.{is_out}
use Rattle.pipeline_turn.specs.declared.view.View.{View}
use Rattle.pipeline_turn.specs.declared.view.Handed.{Handed}
use Rattle.pipeline_turn.specs.Jobs.{IsUnanswered, IsOwnJob, AreAway}
use Rattle.pipeline_turn.specs.Rule.{Place, home, lent, Stems, IsJob}
use Rattle.pipeline_turn.specs.Steps.{Knows, At, taking, missing, giving, took, gave, unchanged}
use Rattle.pipeline_turn.proofs.Journals.{begins_itself, begins_through, still_out, unanswered_itself, unanswered_through}
use Rattle.pipeline_turn.proofs.Views.{put_here, only}
use Rattle.pipeline_turn.proofs.Ruled as rule

abbrev or_else : {A : Type 0} → A → Option A → A
or_else d (Some x) = x
or_else d None = d

pub Some-injective : {A : Type 0} (x y : A) → Some x ≡ Some y → x ≡ y
Some-injective x y e = ap (or_else x) e

abbrev head_value : {B : Type 0} → List (ℕ × Option B) → Option B
head_value [] = None
head_value (x ∷ xs) = x.1

module _ {V O : Type 0} (steps : V → History) (stems : O → V → Type 0) (away : V → List Post) where
  abbrev F : Place V → O → ℕ → View O → Type 0
  F = rule.F steps stems away

  abbrev R : ℕ → Place V → O → List (View O) → Type 0
  R = rule.R steps stems away

  -- what stems from the one origin stems from the view's
  pub stems_there : (v : View O) (o : O) (value : V) → v.origin ≡ Some o → stems o value → (origin : O) → v.origin ≡ Some origin → stems origin value
  stems_there v o value is from origin e = subst (λ (z : O). stems z value) (Some-injective o origin (sym is ∙ e)) from

  take_at : (n id : ℕ) (me : Knows V O) (at : At V) → me.0.holds ≡ false → 0 < me.0.parts → (p : Place V) (counts : List ℕ) (o : O) (vs : List (View O)) → Stems stems o p → R n p o vs → get_elem? vs id ≡ some me.0
      → rule.Done steps stems away n id me 0 (λ _. 1) (took steps stems away at me) (rule.At steps stems away p counts vs)
  take_at n id me at free part (home h) counts o vs from r here =
      let v : View O = me.0 in let taken : History = steps h.value in let posts : List Post = away h.value in let w : View O = taking taken posts v in let old = r.each id v here in (
        w,
        takes 0 (Some h),
        refl,
        rule.ruled steps stems away n counts (lent id taken posts) o (set vs id w) tt (rule.one steps stems away n n (home h) (lent id taken posts) o vs id v w r here (w, put_here vs id w v here, refl) refl
            (record { from = old.from; spent = λ e. absurd (omega arith); saw = begins_itself taken; heard = old.heard; holds = λ e. (refl, refl, refl); undone = λ post e. ((old.undone post e).0, unanswered_itself taken post); job_away = old.job_away })
            (λ j u other at_j (g : F (home h) o j u). record { from = g.from; spent = g.spent; saw = g.saw; heard = g.heard; holds = λ e. absurd (false≢true (sym g.holds ∙ e)); undone = g.undone; job_away = g.job_away })
            (rule.same_jobs steps stems away n (home h) o vs id v w r here refl) (λ post c. rule.still_a_job steps stems away vs id v w post here refl (r.owned post c))),
        (λ e. (h, refl, record { from = stems_there v o h.value (old.from part) from; saw = old.saw; undone = old.undone; job_away = old.job_away }), λ no. absurd (no refl)),
      )
  take_at n id me at free part (lent i taken posts) counts o vs from r here =
      let v : View O = me.0 in let w : View O = missing v in let old = r.each id v here in (
        w,
        keeps,
        tt,
        rule.ruled steps stems away n counts (lent i taken posts) o (set vs id w) tt (rule.one_still steps stems away n n (lent i taken posts) o vs id v w r here free refl refl
            (record { from = old.from; spent = old.spent; saw = old.saw; heard = old.heard; holds = old.holds; undone = old.undone; job_away = old.job_away })),
        (λ e. absurd (omega arith), λ no. refl),
      )

  pub takes_keep : (n slots id : ℕ) (me : Knows V O) (at : At V) → me.0.holds ≡ false → 0 < me.0.parts → Allows (rule.Rule steps stems away n) slots id me 0 (λ _. 1) (took steps stems away at me)
  takes_keep n slots id me at free part = rule.placed steps stems away n slots id me 0 (λ _. 1) (took steps stems away at me) (take_at n id me at free part)

  -- what a seat owes as it gives the value back: what was out stays unanswered, but for its own, its new job is out, and
  -- what is away is right
  pub record MayGive (v : View O) (h : Handed V) : Type 0 where
    pub begins : BeginsWith (steps h.value) v.seen
    pub others : (post : Post) → is_out v.seen post ≡ true → v.job ≢ Some post → IsUnanswered (steps h.value) v.seen post
    pub job : IfSome h.job (λ post. IsOwnJob v.job v.seen (steps h.value) post)
    pub bodies : AreAway v.job h.job v.away (away h.value)

  -- what is given begins with what was taken, answers no other seat's job, and that job is away still
  others_stay : (n i id : ℕ) (h : Handed V) (taken : History) (posts : List Post) (o : O) (vs : List (View O)) (v : View O) → MayGive v h → R n (lent i taken posts) o vs → get_elem? vs id ≡ some v → id ≡ i → v.seen ≡ taken → v.away ≡ posts
      → (j : ℕ) (u : View O) → j ≢ id → get_elem? vs j ≡ some u → F (lent i taken posts) o j u → F (home h) o j u
  others_stay n i id h taken posts o vs v may r here own same held j u other at_j g =
      let begins : BeginsWith (steps h.value) taken = subst (BeginsWith (steps h.value)) same may.begins in
      let not_mine : (post : Post) → u.job ≡ Some post → v.job ≢ Some post = λ post e mine. r.apart id j v u post (λ k. other (sym k)) here at_j mine e in record {
        from = g.from;
        spent = g.spent;
        saw = begins_through (steps h.value) taken u.seen begins g.saw;
        heard = begins_through (steps h.value) taken u.told begins g.heard;
        holds = elim u.holds as (λ (z : Bool). (z ≡ true → (j ≡ i) × (u.seen ≡ taken) × (u.away ≡ posts)) → z ≡ false) [ true ↦ (λ k. absurd (other ((k refl).0 ∙ sym own))) | false ↦ (λ k. refl) ] g.holds;
        undone = λ post e.
            let d = g.undone post e in
            let out : is_out v.seen post ≡ true = subst (λ (z : History). is_out z post ≡ true) (sym same) d.0 in
            let quiet : IsUnanswered (steps h.value) taken post = subst (λ (z : History). IsUnanswered (steps h.value) z post) same (may.others post out (not_mine post e)) in
            (still_out (steps h.value) taken post d.0 quiet, unanswered_through (steps h.value) taken u.seen post quiet d.1);
        job_away = λ post e. (may.bodies post).1 (inr (subst (λ (z : List Post). Contains z post) (sym held) (g.job_away post e), not_mine post e));
      }

  -- what is away then is the new job, or the job of a seat that had it before
  owned_then : (n i id : ℕ) (h : Handed V) (taken : History) (posts : List Post) (o : O) (vs : List (View O)) (v w : View O) → MayGive v h → R n (lent i taken posts) o vs → get_elem? vs id ≡ some v → v.away ≡ posts → w.job ≡ h.job
      → (post : Post) → Contains (away h.value) post → IsJob (set vs id w) post
  owned_then n i id h taken posts o vs v w may r here held is post c = ⊎_elim
      (λ (e : h.job ≡ Some post). (id, w, put_here vs id w v here, is ∙ e))
      (λ (t : Contains v.away post × (v.job ≢ Some post)).
      let k = r.owned post (subst (λ (z : List Post). Contains z post) held t.0) in
      (k.0, k.1, set_else vs id k.0 w (λ same. t.1 (ap (λ (z : View O). z.job) (only vs id v k.1 here (ap (get_elem? vs) (sym same) ∙ k.2)) ∙ k.3)) ∙ k.2, k.3))
      ((may.bodies post).0 c)

  give_at : (n id : ℕ) (v : View O) (h : Handed V) (at : At V) → v.holds ≡ true → 0 < v.parts → MayGive v h → ((o : O) → v.origin ≡ Some o → stems o h.value)
      → (p : Place V) (counts : List ℕ) (o : O) (vs : List (View O)) → Stems stems o p → R n p o vs → get_elem? vs id ≡ some v
      → rule.Done steps stems away n id (v, (0, Some h) ∷ []) 0 (λ _. 0) (gave steps at (v, (0, Some h) ∷ [])) (rule.At steps stems away p counts vs)
  give_at n id v h at holding part may from (home h') counts o vs st r here = absurd (false≢true (sym (r.each id v here).holds ∙ holding))
  give_at n id v h at holding part may from (lent i taken posts) counts o vs st r here =
      let old = r.each id v here in let who = old.holds holding in let w : View O = giving (steps h.value) h.job v in
      let mine : (post : Post) → h.job ≡ Some post → IsOwnJob v.job v.seen (steps h.value) post = λ post e. subst (λ (z : Option Post). IfSome z (λ q. IsOwnJob v.job v.seen (steps h.value) q)) e may.job in (
        w,
        gives,
        tt,
        rule.ruled steps stems away n counts (home h) o (set vs id w) (from o (old.from part)) (rule.one steps stems away n n (lent i taken posts) (home h) o vs id v w r here tt refl
            (record {
              from = old.from;
              spent = λ e. absurd (omega arith);
              saw = begins_itself (steps h.value);
              heard = begins_through (steps h.value) taken v.told (subst (BeginsWith (steps h.value)) who.1 may.begins) old.heard;
              holds = refl;
              undone = λ post e. ((mine post e).0, unanswered_itself (steps h.value) post);
              job_away = λ post e. (may.bodies post).1 (inl e);
            })
            (others_stay n i id h taken posts o vs v may r here who.0 who.1 who.2)
            (λ j u post other at_j job theirs.
            let out : is_out v.seen post ≡ true = subst (λ (z : History). is_out z post ≡ true) (sym who.1) ((r.each j u at_j).undone post theirs).0 in
            false≢true (sym ((mine post job).1 (λ own. r.apart id j v u post (λ k. other (sym k)) here at_j own theirs)) ∙ out))
            (owned_then n i id h taken posts o vs v w may r here who.2 refl)),
        λ h' e. let same : h ≡ h' = Some-injective h h' (ap (λ (z : List (ℕ × Option (Handed V))). head_value z) e) in λ k. (giving (steps (same k).value) (same k).job v, []),
      )

  pub gives_keep : (n slots id : ℕ) (me : Knows V O) (v : View O) (h : Handed V) (at : At V) → me ≡ (v, (0, Some h) ∷ []) → v.holds ≡ true → 0 < v.parts → MayGive v h
      → ((o : O) → v.origin ≡ Some o → stems o h.value) → Allows (rule.Rule steps stems away n) slots id me 0 (λ _. 0) (gave steps at me)
  gives_keep n slots id me v h at is holding part may from =
      let P : Knows V O → Type 0 = λ z. Allows (rule.Rule steps stems away n) slots id z 0 (λ _. 0) (gave steps at z) in
      subst P (sym is) (rule.placed steps stems away n slots id (v, (0, Some h) ∷ []) 0 (λ _. 0) (gave steps at (v, (0, Some h) ∷ [])) (give_at n id v h at holding part may from))

  -- a count behind the place leaves all else as it is
  pub counts_keep : (n slots id : ℕ) (me : Knows V O) (at : At V) (i : ℕ) (f : ℕ → ℕ) → Allows (rule.Rule steps stems away n) slots id me (suc i) f (λ found. unchanged at me found)
  counts_keep n slots id me at i f = rule.placed steps stems away n slots id me (suc i) f (λ found. unchanged at me found)
      (λ p counts o vs st r here. (me.0, keeps, tt, rule.ruled steps stems away n (set counts i (f (slice_index counts i))) p o (set vs id me.0) st (subst (R n p o) (sym (set_again vs id me.0 here)) r), refl))
